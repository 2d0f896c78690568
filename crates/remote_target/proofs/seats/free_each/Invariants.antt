use Rattle.std.proofs.Common.{◌≡◌, ◌≤◌, ◌++◌, length, map, vec_capacity}
use Rattle.remote_target.specs.Inside.{seat_session, session_on}
use Rattle.remote_target.proofs.seats.free_each.Given as goal

abbrev pub invariant-loop-seat : goal.invariant-loop-seat
invariant-loop-seat g l = record {
  well : (goal.iterator-loop-seat g).can_next l.seat-iterator;
  finite : (goal.iterator-loop-seat g).is_finite l.seat-iterator;
  rest : l.yielded ++ l.seat-iterator.rest.items ≡ l.fn.seats.items;
  its : map session_on l.lines.items ≡ map seat_session l.yielded;
  room : length l.fn.seats.items ≤ vec_capacity l.lines;
}
