use Rattle.call_json.proofs.SpelledTexts.{image_is}
use Rattle.call_json.proofs.spelled_reply.image_front.Goals as goal

pub returns : goal.returns
returns c =
    image_is c.args.bytes.now c.in_ok-opened.opened.now c.in_ok-left.after_left.now c.in_ok-before_row.before_row.now c.in_ok-row.after_row.now
    c.in_ok-before_table.before_table.now c.in_ok-table.after_table.now c.in_ok-rest.rest.now
    (record { row = c.in_ok-row.row; table = c.in_ok-table.table; left = c.in_ok-left.left })
    c.in_ok-opened.ensures c.in_ok-left.ensures c.in_ok-before_row.ensures c.in_ok-row.ensures c.in_ok-before_table.ensures c.in_ok-table.ensures c.in_ok-rest.ensures
