use Rattle.std.proofs.Common.{◌≡◌, ◌+◌, ◌-◌, length}
use Rattle.http_answers.specs.Answers.{Begins}
use Rattle.remote_link.specs.Inside.{LosesNothing}
use Rattle.remote_link.proofs.inbox.Inbox.read_body.Given as goal

abbrev pub invariant-loop-self : goal.invariant-loop-self
invariant-loop-self g l = record {
  kept : LosesNothing l.fn.self (g.I.Source.account l.fn.input).content l.self (g.I.Source.account l.input).content;
  faults : (g.I.Source.account l.input).faults ≡ (g.I.Source.account l.fn.input).faults;
  begins : Begins l.self l.fn.answer;
}

abbrev pub decreases-loop-self : goal.decreases-loop-self
decreases-loop-self g l = l.fn.answer.head + l.fn.answer.body - length l.self
