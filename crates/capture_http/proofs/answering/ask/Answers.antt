use Rattle.std.proofs.Common.{Err, ap}
use Rattle.capture_http.proofs.Asking.{full, no_call, replied, strange}
use Rattle.capture_http.proofs.answering.ask.Goals as goal

pub returns-in-Err-NotOne-clause-reacts : goal.returns-in-Err-NotOne-clause-reacts
returns-in-Err-NotOne-clause-reacts g c = λ count. no_call (g.B.CallDoor.seat c.args.calls.now) count c.args.decision.now c.args.body.now c.plain.result _ _ c.requires (c.in-Err-NotOne.ensures.not_one (ap (λ e. Err e) c.in-Err-NotOne.field-0-is)) c.plain.ensures

pub returns-in-Ok-call-clause-reacts : goal.returns-in-Ok-call-clause-reacts
returns-in-Ok-call-clause-reacts g c = λ count. replied (g.B.CallDoor.seat c.args.calls.now) count c.args.decision.now c.args.body.now c.in-Ok.call c.in-Ok-call.reply c.tell_reply.result _ _ _ _ c.requires c.in-Ok.ensures.ok c.in-Ok-call.ensures.notes c.tell_reply.ensures

pub returns-in-Err-Stranger-clause-reacts : goal.returns-in-Err-Stranger-clause-reacts
returns-in-Err-Stranger-clause-reacts g c = λ count. strange (g.B.CallDoor.seat c.args.calls.now) count c.args.decision.now c.args.body.now c.in-Ok.call c.plain-in-Err-Stranger.result _ _ _ _ c.requires c.in-Ok.ensures.ok (rw c.in-Err-Stranger.field-0-is at c.in-Err-Stranger.ensures.notes) c.plain-in-Err-Stranger.ensures

pub returns-in-Err-Full-clause-reacts : goal.returns-in-Err-Full-clause-reacts
returns-in-Err-Full-clause-reacts g c = λ count. full (g.B.CallDoor.seat c.args.calls.now) count c.args.decision.now c.args.body.now c.in-Ok.call c.plain-in-Err-Full.result _ _ _ _ c.requires c.in-Ok.ensures.ok (rw c.in-Err-Full.field-0-is at c.in-Err-Full.ensures.notes) c.plain-in-Err-Full.ensures
