-- The checks look at the kinds of binds alone.
use Rattle.std.specs.Prelude.{◌≡◌, ℕ, List}
use Rattle.desk_values.specs.declared.value.Value.{Value}
use Rattle.desk_schema.specs.Schema.{SchemaView}
use Rattle.statement_cache.specs.Kept.{outcome_of_text}
use Rattle.statement_cache.specs.Kinds.{kinds_of}

-- binds of the same kinds give a text the same form
abbrev pub KindsDecide : Type 0
KindsDecide = (schema : SchemaView) (text : List ℕ) (binds others : List Value) → kinds_of binds ≡ kinds_of others
    → outcome_of_text schema text binds ≡ outcome_of_text schema text others
