use Rattle.std.proofs.Common.{length, take}
use Rattle.remote_target.specs.Inside.{ArePlaces}
use Rattle.remote_target.proofs.comparing.replies_of.Given as goal

abbrev pub invariant-loop-place : goal.invariant-loop-place
invariant-loop-place l = ArePlaces (take l.place l.events) (length l.desk.job.calls) l.places.items
