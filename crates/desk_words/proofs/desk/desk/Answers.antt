use Rattle.std.proofs.Common.{◌∙◌, ap, map}
use Rattle.clap.specs.Words.{App, app_of, shape_of, with_subcommand}
use Rattle.desk_words.specs.Desk.{seen}
use Rattle.desk_words.proofs.Adding.{desk_is, one_more}
use Rattle.desk_words.proofs.desk.desk.Goals as goal

pub loop-form-init : goal.loop-form-init
loop-form-init c =
    desk_is c.new.result c.no_binary_name.result c.subcommand_required-desk.result (map seen c.forms-all.result.now) c.new.ensures.app c.no_binary_name.ensures c.subcommand_required-desk.ensures c.forms-all.ensures

pub loop-form-preserved : goal.loop-form-preserved
loop-form-preserved c =
    let told = ap (λ (a : App). a.top) c.in_ok-subcommand.ensures.app in
    one_more with_subcommand seen c.forms-all.result.now c.loop-form.form-index _ (app_of c.loop-form.desk) (app_of c.in_ok-desk.desk) (shape_of c.in_ok-subcommand.field-0)
    c.loop-form-test.true (c.in_ok-desk.ensures.shape c.in_ok-subcommand.ensures.local) told ∙ c.loop-form.invariant
