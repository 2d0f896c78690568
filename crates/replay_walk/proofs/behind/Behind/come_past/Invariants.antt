use Rattle.std.proofs.Common.{ℕ, ◌+◌, ◌-◌, ◌≤◌, length}
use Rattle.replay_job.specs.Job.{seen}
use Rattle.replay_walk.specs.Inside.Passing.{IsBehind, KeepsAside}
use Rattle.replay_walk.specs.Inside.Serving.{GoesOn}
use Rattle.replay_walk.proofs.behind.Behind.come_past.Given as goal

abbrev pub invariant-loop-self : goal.invariant-loop-self
invariant-loop-self l = record {
  behind : IsBehind (seen l.job) l.self;
  goes_on : GoesOn l.initial.self.server l.self.server;
  kept : (k : ℕ) → KeepsAside l.differs l.initial.self l.self k;
}

abbrev pub decreases-loop-self : goal.decreases-loop-self
decreases-loop-self l = l.stamp + 1 - l.self.at
