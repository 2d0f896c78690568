-- What a draft keeps.
use Rattle.std.specs.Prelude.{ℕ, ◌↔◌, List, map}
use Rattle.std.specs.List.{Contains}
use Rattle.desk_values.specs.declared.value.Value.{Value}
use Rattle.desk_values.specs.declared.value.Image.{Image}
use Rattle.desk_schema.specs.State.{State}
use Rattle.desk_schema.specs.Rules.{counted, keys_of}
use Rattle.desk_schema.specs.Inside.Sound.{IsSoundState}
use Rattle.desk_schema.specs.Draft.{IsReached}

-- the keys are what counts of those of the rows
abbrev pub AreKeys : ℕ → List (ℕ × Value) → List Image → Type 0
AreKeys level keys rows = (table : ℕ) (value : Value) → Contains keys (table, value) ↔ Contains (map (counted level) (keys_of table rows)) value

pub record IsDraft (state : State) (keys : List (ℕ × Value)) : Type 0 where
  pub reached : IsReached state
  pub sound : IsSoundState state
  pub are_keys : AreKeys state.start.schema.level keys state.start.rows
