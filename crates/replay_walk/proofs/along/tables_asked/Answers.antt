use Rattle.std.proofs.Common.{◌∙◌, length, refl, sym, ap}
use Rattle.desk_schema.specs.Schema.{SchemaView}
use Rattle.replay_walk.proofs.along.tables_asked.Goals as goal

pub returns-then-is_some_asked : goal.returns-then-is_some_asked
returns-then-is_some_asked c = rw (sym c.is_some_asked.ensures ∙ c.if-is_some_asked.true) (ap length c.tables.ensures ∙ ap (λ (s : SchemaView). length s.tables) c.schema.ensures.value)

pub returns-else-is_some_asked : goal.returns-else-is_some_asked
returns-else-is_some_asked c = rw (sym c.is_some_asked.ensures ∙ c.if-is_some_asked.false) refl
