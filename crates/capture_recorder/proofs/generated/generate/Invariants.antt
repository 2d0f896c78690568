use Rattle.std.proofs.Common.{◌≡◌, ◌-◌, length, map}
use Rattle.std.specs.List.{range_with_len}
use Rattle.capture_recorder.specs.Generated.{generated, generated_request, recorded_all}
use Rattle.capture_recorder.proofs.generated.generate.Given as goal

abbrev pub invariant-loop-i : goal.invariant-loop-i
invariant-loop-i l = (recorded_all l.recorder (map generated_request (range_with_len l.i (l.calls - l.i))) ≡ generated l.calls) × (length l.recorder.calls ≡ l.i)
