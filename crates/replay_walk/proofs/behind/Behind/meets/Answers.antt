use Rattle.replay_walk.proofs.behind.Behind.meets.Goals as goal
use Rattle.std.proofs.Common.{◌∙◌, ap}
use Rattle.desk_schema.specs.Schema.{SchemaView}
use Rattle.server_words.specs.Request.{request_of, table_in}

pub returns : goal.returns
returns c = record {
  table = c.in_ok-table.ensures ∙ ap (λ (s : SchemaView). table_in (request_of s c.args.call.now.call)) c.schema.ensures.value;
  footing = c.in_ok-footing.ensures.footing;
  rising = c.in_ok-footing.ensures.changes_rise;
}
