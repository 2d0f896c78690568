use Rattle.std.proofs.Common.{drop}
use Rattle.std.specs.Prelude.{◌↔◌}
use Rattle.std.specs.List.{AllByRecursion}
use Rattle.capture_recorder.specs.Gathering.{lists_of}
use Rattle.capture_serve.specs.Inside.Knowing.{HasLimits}
use Rattle.capture_serve.proofs.knowing.all_have_limits.Given as goal

abbrev pub invariant-loop-calls : goal.invariant-loop-calls
invariant-loop-calls l = AllByRecursion (AllByRecursion HasLimits) (lists_of (drop l.calls-index l.lists)) ↔ AllByRecursion (AllByRecursion HasLimits) (lists_of l.lists)
