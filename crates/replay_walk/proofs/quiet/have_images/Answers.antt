use Rattle.std.proofs.Common.{◌≡◌, ◌∙◌, true, List, Option, take, sym, ap, subst, arith}
use Rattle.std.specs.Prelude.{is_some}
use Rattle.std.proofs.lemmas.List.{take_all}
use Rattle.desk_values.specs.declared.value.Value.{Value}
use Rattle.id_pairs.specs.Carrying.Carried.{carried_row, carried_value}
use Rattle.id_pairs.proofs.Carrying.Carrying.{each_fails}
use Rattle.replay_walk.proofs.Imaged.{none_is, some_step}
use Rattle.replay_walk.proofs.quiet.have_images.Goals as goal

pub returns-then-not-has_image : goal.returns-then-not-has_image
returns-then-not-has_image c =
    let f = carried_value c.args.map.now.pairs in
    let none = none_is (f c.value-item.result) (sym c.has_image.ensures ∙ c.if-not-has_image.true) in
    sym (ap (λ (o : Option (List Value)). is_some o) (each_fails f c.args.binds.now c.loop-value.value-index c.value-item.result c.loop-value-test.true c.value-item.is none))

pub loop-value-preserved : goal.loop-value-preserved
loop-value-preserved c =
    some_step (carried_value c.args.map.now.pairs) c.args.binds.now c.loop-value.value-index c.value-item.result c.loop-value-test.true c.value-item.is c.loop-value.invariant (sym c.has_image.ensures ∙ c.if-not-has_image.false)

pub returns : goal.returns
returns c = sym (subst (λ (values : List Value). is_some (carried_row c.args.map.now.pairs values) ≡ true) (take_all c.loop-value.value-index c.args.binds.now (omega arith)) c.loop-value.invariant)
