use Rattle.call_json.proofs.SpelledTexts.{rows_are}
use Rattle.call_json.proofs.spelled_reply.rows_front.Goals as goal

pub returns : goal.returns
returns c =
    rows_are c.args.bytes.now c.in_ok-opened.opened.now c.in_ok-rows.after_rows.now c.in_ok-rest.rest.now c.in_ok-rows.rows c.in_ok-opened.ensures c.in_ok-rows.ensures c.in_ok-rest.ensures
