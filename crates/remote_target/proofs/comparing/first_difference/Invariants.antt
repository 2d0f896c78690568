use Rattle.std.proofs.Common.{ℕ, ◌<◌}
use Rattle.remote_target.specs.Agreement.{AgreesAt}
use Rattle.remote_target.proofs.comparing.first_difference.Given as goal

abbrev pub invariant-loop-place : goal.invariant-loop-place
invariant-loop-place l = (i : ℕ) → i < l.place → AgreesAt l.stopped l.kept l.answered i
