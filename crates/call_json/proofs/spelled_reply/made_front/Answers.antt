use Rattle.call_json.proofs.SpelledTexts.{made_is}
use Rattle.call_json.proofs.spelled_reply.made_front.Goals as goal

pub returns : goal.returns
returns c =
    made_is c.args.bytes.now c.in_ok-opened.opened.now c.in_ok-row.after_row.now c.in_ok-rest.rest.now c.in_ok-row.row c.in_ok-opened.ensures c.in_ok-row.ensures c.in_ok-rest.ensures
