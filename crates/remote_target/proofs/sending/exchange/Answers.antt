use Rattle.std.proofs.Common.{◌∙◌, ◌++◌, [], ◌∷◌, inl, inr, None, Some, ap, refl, subst, sym}
use Rattle.std.proofs.lemmas.Result.{err_from_is_err_and}
use Rattle.remote_link.specs.Heard.{heard}
use Rattle.remote_desk.specs.Desk.{MayAnswer, RemoteView}
use Rattle.remote_desk.proofs.Histories.{sent_open}
use Rattle.remote_target.proofs.Spokens.{said_last}
use Rattle.remote_target.proofs.sending.exchange.Goals as goal

pub returns-in_err-make_room : goal.returns-in_err-make_room
returns-in_err-make_room g c = let p = err_from_is_err_and c.from_residual.result c.from_residual.ensures.1 in rw p.1 (inl (refl, c.in_err-make_room.ensures.heard))

pub returns-then-not-unsent : goal.returns-then-not-unsent
returns-then-not-unsent g c = inl (refl, c.in_ok-make_room.ensures.heard)

pub dispatch-requires : goal.dispatch-requires
dispatch-requires g c = c.unsent.ensures.0 c.if-not-unsent.false

pub returns-in_err-call : goal.returns-in_err-call
returns-in_err-call g c = let p = err_from_is_err_and c.from_residual-in_err-call.result c.from_residual-in_err-call.ensures.1 in rw p.1 (inl (c.in_err-call.ensures.err, c.in_ok-make_room.ensures.heard))

pub returns-in_err-say : goal.returns-in_err-say
returns-in_err-say g c =
    let p = err_from_is_err_and c.from_residual-in_err-say.result c.from_residual-in_err-say.ensures.1 in
    let call = c.in_ok-call.call in
    let more = c.in_err-say.ensures.says.0 ∙ ap (λ l. l ++ heard call None ∷ []) c.in_ok-make_room.ensures.heard in
    rw p.1 (inr (call, None, c.in_ok-call.ensures.ok, more, c.unsent.ensures.0 c.if-not-unsent.false))

pub answer-requires-clause-sent : goal.answer-requires-clause-sent
answer-requires-clause-sent g c =
    let by = c.in_ok-call.ensures.ok in
    subst (λ (d : RemoteView). MayAnswer d.events c.args.k) (sym by.3) (sent_open c.args.desk.now.events c.args.k c.in_ok-call.call c.requires)

pub answer-requires-clause-good : goal.answer-requires-clause-good
answer-requires-clause-good g c = c.in-Some.ensures.good

pub returns-in_err-answer-in-Some : goal.returns-in_err-answer-in-Some
returns-in_err-answer-in-Some g c =
    let p = err_from_is_err_and c.from_residual-in_err-answer-in-Some.result c.from_residual-in_err-answer-in-Some.ensures.1 in
    let call = c.in_ok-call.call in
    let by = c.in_ok-call.ensures.ok in
    let said = c.in_ok-say.ensures.says.0 in
    let more = said.1 ∙ ap (λ l. l ++ heard call (Some said.0) ∷ []) c.in_ok-make_room.ensures.heard in
    rw p.1 (inr (call, Some said.0, (by.0, by.1, by.2, c.in_err-answer-in-Some.ensures.err ∙ by.3), more, c.unsent.ensures.0 c.if-not-unsent.false))

pub returns-in_ok-answer-in-Some : goal.returns-in_ok-answer-in-Some
returns-in_ok-answer-in-Some g c =
    let call = c.in_ok-call.call in
    let said = c.in_ok-say.ensures.says.0 in
    let more = said.1 ∙ ap (λ l. l ++ heard call (Some said.0) ∷ []) c.in_ok-make_room.ensures.heard in
    (call, c.in-Some.reply.now, c.dispatch.new.self, c.in_ok-call.ensures.ok, c.in_ok-answer-in-Some.ensures.ok, said_last _ _ call said.0 c.in-Some.reply.now more c.in-Some.ensures.value, c.unsent.ensures.0 c.if-not-unsent.false)

pub returns-in-None : goal.returns-in-None
returns-in-None g c =
    let call = c.in_ok-call.call in
    let said = c.in_ok-say.ensures.says.0 in
    let more = said.1 ∙ ap (λ l. l ++ heard call (Some said.0) ∷ []) c.in_ok-make_room.ensures.heard in
    inr (call, Some said.0, c.in_ok-call.ensures.ok, more, c.unsent.ensures.0 c.if-not-unsent.false)
