use Rattle.std.proofs.Common.{◌≡◌, map, drop}
use Rattle.capture_recorder.specs.Gathering.{first_difference, said_of}
use Rattle.capture_recorder.proofs.evidence.first_difference.Given as goal

abbrev pub invariant-loop-place : goal.invariant-loop-place
invariant-loop-place l = first_difference l.place (map said_of (drop l.place l.kept)) (drop l.place l.said) ≡ first_difference 0 (map said_of l.kept) l.said
