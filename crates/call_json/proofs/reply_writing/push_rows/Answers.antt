use Rattle.call_json.specs.Forms.{values_data}
use Rattle.call_json.proofs.Written.{array_written}
use Rattle.call_json.proofs.reply_writing.push_rows.Goals as goal

pub returns-clause-tokens : goal.returns-clause-tokens
returns-clause-tokens c =
    array_written values_data c.args.rows.now c.args.to.now.tokens c.in_ok-begin_array.ensures.ok c.in_ok-push_each_row.ensures.tokens c.in_ok-end_array.ensures.ok
