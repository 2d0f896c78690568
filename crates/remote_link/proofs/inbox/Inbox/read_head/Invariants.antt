use Rattle.std.proofs.Common.{◌≡◌, ◌-◌, length}
use Rattle.remote_link.specs.Inside.{LosesNothing}
use Rattle.remote_link.proofs.inbox.Inbox.read_head.Given as goal

abbrev pub invariant-loop-answer : goal.invariant-loop-answer
invariant-loop-answer g l = record {
  kept : LosesNothing l.fn.self (g.I.Source.account l.fn.input).content l.self (g.I.Source.account l.input).content;
  faults : (g.I.Source.account l.input).faults ≡ (g.I.Source.account l.fn.input).faults;
}

abbrev pub decreases-loop-answer : goal.decreases-loop-answer
decreases-loop-answer g l = 8192 - length l.self
