use Rattle.std.proofs.Common.{◌≡◌, ◌∙◌, inr, subst}
use Rattle.std.proofs.lemmas.Result.{err_from_is_err_and}
use Rattle.desk_files.specs.Outside.{Appends, AppendsPart}
use Rattle.remote_link.specs.declared.link_err.LinkErr.TheVariants.{Failed}
use Rattle.remote_link.specs.Talk.{request_text}
use Rattle.remote_link.proofs.Talking.{converses_so, mute_so, nothing_sent, stops_so}
use Rattle.remote_link.proofs.http_link.HttpLink.ask.Goals as goal

pub returns-in_err-request-clause-sent : goal.returns-in_err-request-clause-sent
returns-in_err-request-clause-sent g c = rw (← c.self.view_is) (nothing_sent (request_text c.args.call.now) (g.O.Sink.account c.self.inside.output).content)

pub returns-in_err-write-clause-sent : goal.returns-in_err-write-clause-sent
returns-in_err-write-clause-sent g c =
    rw (← c.self.view_is) (subst (λ bytes. AppendsPart bytes (g.O.Sink.account c.self.inside.output).content (g.O.Sink.account c.write.new.self).content) (c.as_slice.ensures ∙ c.in_ok-request.ensures) c.in_err-write.ensures.part)

pub returns-in_err-answer-clause-sent : goal.returns-in_err-answer-clause-sent
returns-in_err-answer-clause-sent g c =
    rw (← c.self.view_is) (subst (λ bytes. AppendsPart bytes (g.O.Sink.account c.self.inside.output).content (g.O.Sink.account c.write.new.self).content) (c.as_slice.ensures ∙ c.in_ok-request.ensures) c.in_ok-write.ensures.part)

pub returns-clause-sent : goal.returns-clause-sent
returns-clause-sent g c =
    rw (← c.self.view_is) (subst (λ bytes. AppendsPart bytes (g.O.Sink.account c.self.inside.output).content (g.O.Sink.account c.write.new.self).content) (c.as_slice.ensures ∙ c.in_ok-request.ensures) c.in_ok-write.ensures.part)

pub returns-in_err-answer-clause-failed : goal.returns-in_err-answer-clause-failed
returns-in_err-answer-clause-failed g c =
    rw (← c.self.view_is) (λ failed.
    let p = err_from_is_err_and c.from_residual-in_err-answer.result c.from_residual-in_err-answer.ensures.1 in
    let is : c.in_err-answer.field-0.0 ≡ Failed = cc (p.1, p.2, failed) in
    stops_so c.in_err-answer.field-0.0 c.self.inside.inbox c.next_answer.new.self (g.I.Source.account c.self.inside.input).content (g.I.Source.account c.next_answer.new.input).content
    (g.I.Source.account c.self.inside.input).faults (g.I.Source.account c.next_answer.new.input).faults (g.O.Sink.account c.self.inside.output).faults (g.O.Sink.account c.write.new.self).faults
    c.in_err-answer.ensures.kept c.in_err-answer.ensures.came is)

pub returns-clause-ok : goal.returns-clause-ok
returns-clause-ok g c =
    let reads = rw (c.bytes.ensures, c.len.ensures) at c.reply_of-reply.ensures.reads in
    let sent = subst (λ bytes. Appends bytes (g.O.Sink.account c.self.inside.output).content (g.O.Sink.account c.write.new.self).content) (c.as_slice.ensures ∙ c.in_ok-request.ensures) c.in_ok-write.ensures.ok in
    rw (← c.self.view_is, c.take.ensures, c.len-2.ensures)
    (converses_so c.args.call.now c.self.inside.inbox c.next_answer.new.self (g.I.Source.account c.self.inside.input).content (g.I.Source.account c.next_answer.new.input).content
    (g.O.Sink.account c.self.inside.output).content (g.O.Sink.account c.write.new.self).content c.in_ok-answer.answer c.in_ok-answer.ensures.kept c.in_ok-answer.ensures.came c.reply_of-reply.result reads sent)

pub returns-clause-failed : goal.returns-clause-failed
returns-clause-failed g c =
    let reads = rw (c.bytes.ensures, c.len.ensures) at c.reply_of-reply.ensures.reads in
    rw (← c.self.view_is) (λ failed.
    inr (inr (mute_so c.args.call.now c.self.inside.inbox c.next_answer.new.self (g.I.Source.account c.self.inside.input).content (g.I.Source.account c.next_answer.new.input).content
    (g.O.Sink.account c.self.inside.output).content (g.O.Sink.account c.write.new.self).content c.in_ok-answer.answer c.in_ok-answer.ensures.kept c.in_ok-answer.ensures.came c.reply_of-reply.result reads failed)))
