use Rattle.std.proofs.Common.{◌≡◌, ◌≤◌, ◌++◌, length, map, vec_capacity}
use Rattle.std.specs.List.{AllByRecursion}
use Rattle.capture_serve.specs.Inside.Passing.{IsPassed, coming_of, passed_of}
use Rattle.capture_serve.proofs.seating.join_all.Given as goal

abbrev pub invariant-loop-seat : goal.invariant-loop-seat
invariant-loop-seat g l = record {
  well : (goal.iterator-loop-seat g).can_next l.seat-iterator;
  finite : (goal.iterator-loop-seat g).is_finite l.seat-iterator;
  rest : l.yielded ++ l.seat-iterator.rest.items ≡ l.fn.seats.items;
  came : map (λ served. served.was.value) l.all.items ≡ map coming_of l.yielded;
  passed : AllByRecursion IsPassed (map (passed_of g.I.Source g.O.Sink) l.all.items);
  room : length l.fn.seats.items ≤ vec_capacity l.all;
}
