use Rattle.call_json.proofs.SpelledTexts.{reply_is}
use Rattle.call_json.proofs.spelled_reply.reply_as_written.Goals as goal

pub returns : goal.returns
returns c = (
  c.in-Ok.ensures.cases.1,
  reply_is c.args.bytes.now c.in_ok-opened.opened.now c.in_ok-made.after_made.now c.in_ok-before_outcome.before_outcome.now c.in_ok-outcome.after_outcome.now
      (record { outcome = c.in_ok-outcome.outcome; draws = c.new-draws.result; made = c.in_ok-made.made }) c.new-draws.ensures
      c.in_ok-opened.ensures c.in_ok-made.ensures c.in_ok-before_outcome.ensures c.in_ok-outcome.ensures c.in_ok-ends.ensures,
)
