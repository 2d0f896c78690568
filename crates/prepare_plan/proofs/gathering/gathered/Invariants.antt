use Rattle.std.proofs.Common.{◌≡◌, ◌++◌}
use Rattle.std.specs.Vec.Iter.{into_iter_items}
use Rattle.captured_calls.specs.Stamps.{all_calls}
use Rattle.prepare_plan.specs.Lists.{lists_of}
use Rattle.prepare_plan.proofs.gathering.gathered.Given as goal

-- those that stand in the list, and those that come
abbrev pub invariant-loop-session : goal.invariant-loop-session
invariant-loop-session l = l.calls.items ++ all_calls (lists_of (into_iter_items l.session-iterator)) ≡ all_calls (lists_of l.fn.sessions)
