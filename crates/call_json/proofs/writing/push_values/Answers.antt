use Rattle.call_json.specs.Forms.{value_data}
use Rattle.call_json.proofs.Written.{array_written}
use Rattle.call_json.proofs.writing.push_values.Goals as goal

pub returns-clause-tokens : goal.returns-clause-tokens
returns-clause-tokens c =
    array_written value_data c.args.values.now c.args.to.now.tokens c.in_ok-begin_array.ensures.ok c.in_ok-push_items.ensures.tokens c.in_ok-end_array.ensures.ok
