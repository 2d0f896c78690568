use Rattle.std.proofs.Common.{◌≡◌, ◌∙◌, ◌++◌, ◌∷◌, [], ap, subst, sym, true, append-nil, arith}
use Rattle.std.specs.Prelude.{slice_get}
use Rattle.std.proofs.lemmas.Option.{slice_get_within}
use Rattle.std.proofs.lemmas.Result.{on_ok_weaker}
use Rattle.remote_link.specs.Heard.{heard}
use Rattle.remote_desk.specs.Said.{is_of}
use Rattle.remote_desk.proofs.Replies.{there_is}
use Rattle.remote_target.specs.Inside.{ArePlaces}
use Rattle.remote_target.proofs.comparing.push_said.Goals as goal

pub reply_at-requires-clause-places : goal.reply_at-requires-clause-places
reply_at-requires-clause-places c = subst (λ n. ArePlaces c.args.events.now n c.args.replies.now) (sym c.requires.len) c.requires

pub reply_at-requires-clause-stamp : goal.reply_at-requires-clause-stamp
reply_at-requires-clause-stamp c =
    let calls = c.args.calls.now in
    let k = c.in-Sent.k in
    let one = there_is c.args.session (slice_get calls k) (sym c.is_of.ensures ∙ c.if-is_of.true) in
    let within = slice_get_within calls k one.0 one.1 in
    omega (arith, within, c.requires.len)

pub returns-in_ok-reply-in-Sent : goal.returns-in_ok-reply-in-Sent
returns-in_ok-reply-in-Sent c =
    let is : is_of c.args.session (slice_get c.args.calls.now c.in-Sent.k) ≡ true = sym c.is_of.ensures ∙ c.if-is_of.true in
    rw (c.in-Sent.is, is) (on_ok_weaker c.push.result (λ more. more ∙ ap (λ l. c.args.to.now ++ l) (ap (λ call. heard call c.in_ok-reply-in-Sent.reply ∷ []) c.in_ok-call-in-Sent.ensures ∙ ap (λ reply. heard c.in-Sent.call reply ∷ []) c.in_ok-reply-in-Sent.ensures)) c.push.ensures.ok)

pub returns-else-is_of : goal.returns-else-is_of
returns-else-is_of c = rw (c.in-Sent.is, sym c.is_of.ensures ∙ c.if-is_of.false) (sym (append-nil c.args.to.now))
