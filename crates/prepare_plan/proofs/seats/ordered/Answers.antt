use Rattle.std.proofs.Common.{List, ℕ, ap, ◌∙◌}
use Rattle.std.specs.Prelude.{Option, not, slice_index_or, length}
use Rattle.std.specs.List.{find, range_with_len}
use Rattle.prepare_plan.specs.declared.seats.Seat.{Seat}
use Rattle.prepare_plan.specs.declared.seats.Seat.TheVariants.{Empty}
use Rattle.prepare_plan.specs.Inside.{is_taken}
use Rattle.prepare_plan.proofs.Seating.{order_fails, order_holds}
use Rattle.prepare_plan.proofs.seats.ordered.Goals as goal

abbrev first_free : List Seat → Option ℕ
first_free seats = find (λ k. not (is_taken (slice_index_or seats k Empty))) (range_with_len 0 (length seats))

pub returns-in-Some : goal.returns-in-Some
returns-in-Some c = order_fails c.args.calls.items c.in_ok-seats.seats.items c.in_ok-seats.ensures c.free_seat.result (c.free_seat.ensures ∙ ap first_free c.deref.ensures.value) c.in-Some.stamp c.in-Some.is

pub returns-in_ok-listed-in-None : goal.returns-in_ok-listed-in-None
returns-in_ok-listed-in-None c = order_holds c.args.calls.items c.in_ok-seats.seats.items c.in_ok-seats.ensures c.free_seat.result (c.free_seat.ensures ∙ ap first_free c.deref.ensures.value) c.in_ok-listed-in-None.field-0.items c.in-None.is c.in_ok-listed-in-None.ensures
