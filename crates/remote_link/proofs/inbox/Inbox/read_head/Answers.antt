use Rattle.std.proofs.Common.{inl, inr, subst}
use Rattle.http_answers.specs.Answers.{IsUnfinished, NeverAnswers}
use Rattle.remote_link.proofs.Keeping.{ended_hopeless}
use Rattle.remote_link.proofs.inbox.Inbox.read_head.Goals as goal

pub returns-in-Other-clause-came : goal.returns-in-Other-clause-came
returns-in-Other-clause-came g c = inr (inl (subst NeverAnswers c.bytes.ensures c.in-Other.ensures))

pub returns-then-branch-eq0-clause-came : goal.returns-then-branch-eq0-clause-came
returns-then-branch-eq0-clause-came g c =
    let unfinished = subst IsUnfinished c.bytes.ensures c.in-Short.ensures.0 in
    inr (ended_hopeless c.in_ok-read_more.field-0 c.args.self.now c.loop-answer.self c.read_more.new.self (g.I.Source.account c.args.input.now).content (g.I.Source.account c.loop-answer.input).content (g.I.Source.account c.read_more.new.input).content 0 0
    unfinished c.if-branch-eq0.true c.loop-answer.invariant.kept c.in_ok-read_more.ensures.came)
