use Rattle.std.proofs.Common.{◌≡◌, ◌≤◌, ◌++◌, length, map, vec_capacity}
use Rattle.remote_target.specs.Inside.{seat_session, session_on}
use Rattle.remote_target.proofs.seats.seat_each.Given as goal

abbrev pub invariant-loop-line : goal.invariant-loop-line
invariant-loop-line g l = record {
  well : (goal.iterator-loop-line g).can_next l.line-iterator;
  finite : (goal.iterator-loop-line g).is_finite l.line-iterator;
  rest : l.yielded ++ l.line-iterator.rest.items ≡ l.fn.lines.items;
  its : map seat_session l.seats.items ≡ map session_on l.yielded;
  room : length l.fn.lines.items ≤ vec_capacity l.seats;
}
