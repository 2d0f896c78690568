use Rattle.std.proofs.Common.{sym, ap, ◌∙◌, length}
use Rattle.std.specs.Prelude.{not, slice_index_or}
use Rattle.std.proofs.lemmas.List.{get_or_default}
use Rattle.prepare_plan.specs.declared.seats.Seat.{Seat}
use Rattle.prepare_plan.specs.declared.seats.Seat.TheVariants.{Empty}
use Rattle.prepare_plan.specs.Inside.{is_taken}
use Rattle.prepare_plan.proofs.Seating.{free_on}
use Rattle.prepare_plan.proofs.seats.free_seat.Goals as goal

pub loop-k-preserved : goal.loop-k-preserved
loop-k-preserved c =
    let seats = c.args.seats.now in
    free_on (λ k. not (is_taken (slice_index_or seats k Empty))) c.loop-k.k (length seats) _ c.loop-k-test.true
    (ap (λ (s : Seat). not (is_taken s)) (get_or_default seats c.loop-k.k Empty c.index-seats-k.result c.loop-k-test.true ∙ sym c.index-seats-k.is) ∙ ap not (sym c.is_taken.ensures ∙ c.if-not-is_taken.false))
    c.loop-k.invariant
