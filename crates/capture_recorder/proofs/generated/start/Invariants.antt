use Rattle.capture_recorder.proofs.Generating.{IsDeclaring}
use Rattle.capture_recorder.proofs.generated.start.Given as goal

abbrev pub invariant-loop-k : goal.invariant-loop-k
invariant-loop-k l = IsDeclaring l.draft l.k
