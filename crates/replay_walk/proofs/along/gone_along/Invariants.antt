use Rattle.replay_job.specs.Job.{seen}
use Rattle.replay_walk.specs.Inside.Walking.{IsWalkedTo}
use Rattle.replay_walk.proofs.along.gone_along.Given as goal

abbrev pub invariant-loop-event : goal.invariant-loop-event
invariant-loop-event l = IsWalkedTo (seen l.job) l.asks l.events l.event-index l.walk
