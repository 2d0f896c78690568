use Rattle.std.proofs.Common.{drop}
use Rattle.std.specs.Prelude.{◌↔◌}
use Rattle.std.specs.List.{AllByRecursion}
use Rattle.capture_serve.specs.Inside.Knowing.{HasLimits}
use Rattle.capture_serve.proofs.knowing.have_limits.Given as goal

abbrev pub invariant-loop-call : goal.invariant-loop-call
invariant-loop-call l = AllByRecursion HasLimits (drop l.call-index l.calls) ↔ AllByRecursion HasLimits l.calls
