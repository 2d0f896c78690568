use Rattle.std.proofs.Common.{◌<◌, List, length, take, subst, arith}
use Rattle.std.specs.List.{AllZip}
use Rattle.std.proofs.lemmas.Bool.{both_ways}
use Rattle.std.proofs.lemmas.List.{take_all}
use Rattle.desk_values.specs.declared.value.Value.{Value}
use Rattle.id_pairs.specs.Renaming.{IsRenamed}
use Rattle.replay_walk.proofs.Zipped.{renamed_zip, zip_at, zip_length, zip_more, zip_renamed}
use Rattle.replay_walk.proofs.twins.are_renamed.Goals as goal

pub returns-then-values-others : goal.returns-then-values-others
returns-then-values-others c = (
  λ t. absurd cc,
  λ renamed.
      let pairs = c.args.map.now.pairs in
      let same = zip_length (IsRenamed pairs) c.args.values.now c.args.others.now (renamed_zip pairs c.args.values.now c.args.others.now renamed) in
      absurd (omega (arith, same)),
)

pub returns-then-not-branch : goal.returns-then-not-branch
returns-then-not-branch c = (
  λ t. absurd cc,
  λ renamed.
      let pairs = c.args.map.now.pairs in
      let zip = renamed_zip pairs c.args.values.now c.args.others.now renamed in
      let here = zip_at (IsRenamed pairs) c.args.values.now c.args.others.now c.loop-i.i c.index-values-i.result c.index-others-i.result c.loop-i-test.true c.index-values-i.is c.index-others-i.is zip in
      absurd (both_ways c.in_ok-is_renamed.field-0 c.if-not-branch.true (c.in_ok-is_renamed.ensures.1 here)),
)

pub loop-i-preserved : goal.loop-i-preserved
loop-i-preserved c =
    let within : c.loop-i.i < length c.args.others.now = omega arith in
    zip_more (IsRenamed c.args.map.now.pairs) c.args.values.now c.args.others.now c.loop-i.i c.index-values-i.result c.index-others-i.result c.loop-i-test.true within c.index-values-i.is c.index-others-i.is c.loop-i.invariant (c.in_ok-is_renamed.ensures.0 c.if-not-branch.false)

pub returns : goal.returns
returns c = (
  λ t.
      let pairs = c.args.map.now.pairs in
      let values = c.args.values.now in
      let others = c.args.others.now in
      let zip = subst (λ (vs : List Value). AllZip (IsRenamed pairs) vs (take c.loop-i.i others)) (take_all c.loop-i.i values (omega arith)) c.loop-i.invariant in
      zip_renamed pairs values others (subst (λ (ws : List Value). AllZip (IsRenamed pairs) values ws) (take_all c.loop-i.i others (omega arith)) zip),
  λ renamed. cc,
)
