use Rattle.std.proofs.Common.{ℕ, refl, below_more, arith}
use Rattle.law_histories.proofs.Items.{item_at}
use Rattle.remote_target.specs.Agreement.{AgreesAt}
use Rattle.remote_target.proofs.Compared.{decided}
use Rattle.remote_target.proofs.Firsts.{as_long_agree, one_is_longer}
use Rattle.remote_target.proofs.comparing.first_difference.Goals as goal

pub returns-then-not-agrees : goal.returns-then-not-agrees
returns-then-not-agrees c =
    let i = c.loop-place.place in
    let one = item_at c.args.kept.now c.args.kept.now i c.index-kept-place.result refl (omega (arith, c.loop-place-test.true, c.min-both.ensures)) c.index-kept-place.is in
    let other = item_at c.args.answered.now c.args.answered.now i c.index-answered-place.result refl (omega (arith, c.loop-place-test.true, c.min-both.ensures)) c.index-answered-place.is in
    (c.loop-place.invariant, (decided c.args.stopped c.args.kept.now c.args.answered.now i c.index-kept-place.result c.index-answered-place.result one other c.may_lack-lax.result c.may_lack-lax.ensures c.agrees.result c.agrees.ensures).1 c.if-not-agrees.true)

pub loop-place-preserved : goal.loop-place-preserved
loop-place-preserved c =
    let i = c.loop-place.place in
    let one = item_at c.args.kept.now c.args.kept.now i c.index-kept-place.result refl (omega (arith, c.loop-place-test.true, c.min-both.ensures)) c.index-kept-place.is in
    let other = item_at c.args.answered.now c.args.answered.now i c.index-answered-place.result refl (omega (arith, c.loop-place-test.true, c.min-both.ensures)) c.index-answered-place.is in
    below_more (λ (k : ℕ). AgreesAt c.args.stopped c.args.kept.now c.args.answered.now k) i c.loop-place.invariant
    ((decided c.args.stopped c.args.kept.now c.args.answered.now i c.index-kept-place.result c.index-answered-place.result one other c.may_lack-lax.result c.may_lack-lax.ensures c.agrees.result c.agrees.ensures).0 c.if-not-agrees.false)

pub returns-then-own-count : goal.returns-then-own-count
returns-then-own-count c =
    as_long_agree c.args.stopped c.args.kept.now c.args.answered.now c.loop-place.place c.if-own-count.true
    (omega (arith, c.loop-place-test.false, c.loop-place.auto.place-end, c.min-both.ensures, c.if-own-count.true)) c.loop-place.invariant

pub returns-else-own-count : goal.returns-else-own-count
returns-else-own-count c = (
  λ i lt. c.loop-place.invariant i (omega (arith, lt, c.loop-place-test.false, c.loop-place.auto.place-end)),
  one_is_longer c.args.stopped c.args.kept.now c.args.answered.now c.min-both.result c.if-own-count.false (omega (arith, c.min-both.ensures)),
)
