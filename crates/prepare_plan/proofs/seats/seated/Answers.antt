use Rattle.std.proofs.Common.{List, ◌++◌, ◌∷◌, [], append_assoc, ap, length, sym, ◌∙◌}
use Rattle.std.specs.Vec.Iter.{into_iter_items}
use Rattle.desk_values.specs.declared.capture.Captured.{Captured}
use Rattle.prepare_plan.proofs.seats.seated.Goals as goal

pub loop-call-preserved : goal.loop-call-preserved
loop-call-preserved c = record {
  rest = append_assoc c.loop-call.yielded (c.in-Some.call ∷ []) (into_iter_items c.next.new.self) ∙ ap (λ (l : List Captured). c.loop-call.yielded ++ l) (sym c.in-Some.ensures.steps.0) ∙ c.loop-call.invariant.rest;
  seats = c.take_seat.ensures c.loop-call.yielded (length c.args.calls.items) c.loop-call.invariant.seats;
}
