use Rattle.std.proofs.Common.{ap, ◌<◌, length, arith, ◌∙◌}
use Rattle.desk_values.specs.declared.value.Value.{Value}
use Rattle.server_words.specs.declared.views.KeyId.{KeyId}
use Rattle.server_words.specs.Views.{key_id}
use Rattle.machine_model.proofs.Handing.{one_more}
use Rattle.machine_model.proofs.viewing.key_ids.Goals as goal

pub loop-one-preserved : goal.loop-one-preserved
loop-one-preserved c =
    let held = c.args.held.now in
    let i = c.loop-one.one-index in
    let one = c.one-item.result in
    let within : i < length held = omega arith in
    let with : Value → KeyId = λ key. record { table = one.table; key = key } in
    one_more key_id c.loop-one.keys.items c.push.new.self.items held i one (with c.in_ok-key.key) within c.one-item.is (ap with c.in_ok-key.ensures) c.in_ok-push.ensures.items
    ∙ c.loop-one.invariant
