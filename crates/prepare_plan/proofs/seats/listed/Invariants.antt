use Rattle.std.proofs.Common.{◌≡◌, ◌++◌}
use Rattle.std.specs.List.{filter_map}
use Rattle.std.specs.Vec.Iter.{into_iter_items}
use Rattle.prepare_plan.specs.Inside.{taken_call}
use Rattle.prepare_plan.proofs.seats.listed.Given as goal

-- those that stand in the list, and those that come
abbrev pub invariant-loop-seat : goal.invariant-loop-seat
invariant-loop-seat l = l.list.items ++ filter_map taken_call (into_iter_items l.seat-iterator) ≡ filter_map taken_call l.fn.seats.items
