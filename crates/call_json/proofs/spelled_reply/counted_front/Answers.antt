use Rattle.call_json.proofs.SpelledTexts.{count_is}
use Rattle.call_json.proofs.spelled_reply.counted_front.Goals as goal

pub returns : goal.returns
returns c =
    count_is c.args.bytes.now c.in_ok-opened.opened.now c.in_ok-count.after_count.now c.in_ok-rest.rest.now c.in_ok-count.count c.in_ok-opened.ensures c.in_ok-count.ensures c.in_ok-rest.ensures
