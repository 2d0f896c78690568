use Rattle.std.proofs.Common.{◌≡◌, ◌++◌, length}
use Rattle.std.specs.Vec.Iter.{into_iter_items}
use Rattle.prepare_plan.specs.Inside.{AreSeatsOf}
use Rattle.prepare_plan.proofs.seats.seated.Given as goal

abbrev pub invariant-loop-call : goal.invariant-loop-call
invariant-loop-call l = record {
  rest : l.yielded ++ into_iter_items l.call-iterator ≡ l.fn.calls.items;
  seats : AreSeatsOf l.yielded (length l.fn.calls.items) l.seats.items;
}
