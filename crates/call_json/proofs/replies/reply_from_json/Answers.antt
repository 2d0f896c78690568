use Rattle.call_json.proofs.SpelledTexts.{spelled_reply}
use Rattle.call_json.proofs.replies.reply_from_json.Goals as goal

pub returns-then-good-clause-ok : goal.returns-then-good-clause-ok
returns-then-good-clause-ok c =
    spelled_reply c.args.bytes.now c.in-Some.reply c.in-Some.ensures.0 c.in-Some.ensures.1 (c.good.ensures.text.0 c.if-good.true)
