use Rattle.std.proofs.Common.{◌≡◌, replicate}
use Rattle.prepare_plan.specs.declared.seats.Seat.TheVariants.{Empty}
use Rattle.prepare_plan.proofs.seats.free_seats.Given as goal

abbrev pub invariant-loop-seat : goal.invariant-loop-seat
invariant-loop-seat l = l.seats.items ≡ replicate l._seat Empty
