use Rattle.std.proofs.Common.{inr, subst}
use Rattle.http_answers.specs.Answers.{IsBodyShort}
use Rattle.http_answers.proofs.Fronts.{short_unfinished}
use Rattle.remote_link.proofs.Keeping.{ended_hopeless}
use Rattle.remote_link.proofs.inbox.Inbox.read_body.Goals as goal

pub returns-then-branch-eq0-clause-came : goal.returns-then-branch-eq0-clause-came
returns-then-branch-eq0-clause-came g c =
    let short : IsBodyShort c.bytes.result.now c.args.answer.now = c.is_whole.ensures.short c.loop-self-test.true in
    let unfinished = short_unfinished c.loop-self.self c.args.answer.now (subst (λ l. IsBodyShort l c.args.answer.now) c.bytes.ensures short) in
    inr (ended_hopeless c.in_ok-read_more.field-0 c.args.self.now c.loop-self.self c.read_more.new.self (g.I.Source.account c.args.input.now).content (g.I.Source.account c.loop-self.input).content (g.I.Source.account c.read_more.new.input).content 0 0
    unfinished c.if-branch-eq0.true c.loop-self.invariant.kept c.in_ok-read_more.ensures.came)
