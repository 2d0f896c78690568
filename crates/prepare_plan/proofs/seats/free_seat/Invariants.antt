use Rattle.std.proofs.Common.{◌≡◌, ◌-◌, length}
use Rattle.std.specs.Prelude.{not, slice_index_or}
use Rattle.std.specs.List.{find, range_with_len}
use Rattle.prepare_plan.specs.declared.seats.Seat.TheVariants.{Empty}
use Rattle.prepare_plan.specs.Inside.{is_taken}
use Rattle.prepare_plan.proofs.seats.free_seat.Given as goal

abbrev pub invariant-loop-k : goal.invariant-loop-k
invariant-loop-k l = find (λ k. not (is_taken (slice_index_or l.seats k Empty))) (range_with_len l.k (length l.seats - l.k)) ≡ find (λ k. not (is_taken (slice_index_or l.seats k Empty))) (range_with_len 0 (length l.seats))
