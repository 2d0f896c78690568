use Rattle.std.proofs.Common.{false, true, sym, ◌∙◌, ◌≡◌}
use Rattle.std.proofs.lemmas.Result.{err_from_is_err_and}
use Rattle.serde_json.specs.View.{view}
use Rattle.call_json.proofs.RepliesRead.{bad_reply, json_reply, not_one_reply}
use Rattle.call_json.proofs.replies.reply_of_value.Goals as goal

false_true : false ≡ true → ⊥
false_true e = cc

pub returns-in_err-reply-in-Ok-clause-not_one : goal.returns-in_err-reply-in-Ok-clause-not_one
returns-in_err-reply-in-Ok-clause-not_one c =
    let p = err_from_is_err_and c.from_residual.result c.from_residual.ensures.1 in
    rw (p.1, p.2) (not_one_reply c.args.bytes.now (view c.in-Ok.json) c.in_err-reply-in-Ok.field-0.0 c.in-Ok.ensures.ok.1 c.in_err-reply-in-Ok.ensures)

pub returns-then-good-clause-ok : goal.returns-then-good-clause-ok
returns-then-good-clause-ok c =
    json_reply c.args.bytes.now (view c.in-Ok.json) c.in_ok-reply-in-Ok.reply c.in-Ok.ensures.ok.0 c.in-Ok.ensures.ok.1 (c.good.ensures.text.0 c.if-good.true) c.in_ok-reply-in-Ok.ensures

pub returns-in-Ok-clause-not_one : goal.returns-in-Ok-clause-not_one
returns-in-Ok-clause-not_one c = λ _.
    bad_reply c.args.bytes.now (view c.in-Ok.json) c.in_ok-reply-in-Ok.reply c.in-Ok.ensures.ok.1 c.in_ok-reply-in-Ok.ensures (λ fits. false_true (sym c.if-good.false ∙ c.good.ensures.text.1 fits))
