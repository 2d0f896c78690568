use Rattle.std.proofs.Common.{codes}
use Rattle.std.proofs.lemmas.Result.{on_ok_weaker}
use Rattle.call_json.specs.Forms.{list_data, values_data}
use Rattle.call_json.proofs.Written.{member_written}
use Rattle.call_json.proofs.reply_writing.push_found.Goals as goal

pub returns-clause-tokens : goal.returns-clause-tokens
returns-clause-tokens c =
    on_ok_weaker c.end_object.result (member_written (codes "rows") (list_data values_data c.args.rows.now) c.args.to.now.tokens c.in_ok-begin_object.ensures.ok c.in_ok-key.ensures.ok c.in_ok-push_rows.ensures.tokens) c.end_object.ensures.ok
