use Rattle.std.proofs.Common.{◌∙◌, ap}
use Rattle.std.proofs.lemmas.Result.{IfOk-weaker}
use Rattle.clap.specs.Words.{app_of}
use Rattle.desk_words.specs.Desk.{place}
use Rattle.desk_words.specs.Inside.Building.{with_rules}
use Rattle.desk_words.proofs.Adding.{form_is}
use Rattle.desk_words.proofs.desk.subcommand.Goals as goal

pub returns-clause-app : goal.returns-clause-app
returns-clause-app c =
    let form = c.args.form.now in
    let placed = c.in_ok-placed.ensures.app ∙ ap (with_rules place form.places.now) c.new.ensures.app in
    IfOk-weaker c.with_options.result _ _ (λ command added. form_is form (app_of c.in_ok-placed.placed) (app_of c.in_ok-widened.widened) (app_of command) placed c.in_ok-widened.ensures.app added) c.with_options.ensures.app
