use Rattle.std.proofs.Common.{◌≤◌, length, subst, sym}
use Rattle.desk_schema.specs.Schema.{SchemaView}
use Rattle.desk_schema.proofs.Files.{sound_start}
use Rattle.prepare_plan.proofs.prepared.planned.Goals as goal

pub facts_of-requires-clause-tables : goal.facts_of-requires-clause-tables
facts_of-requires-clause-tables c = subst (λ (schema : SchemaView). length schema.tables ≤ 32) (sym c.schema.ensures.value) (sound_start c.args.start.now c.schema.ensures.valid).is_schema.tables
