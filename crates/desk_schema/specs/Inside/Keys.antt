-- The keys of rows.
use Rattle.std.specs.Prelude.{ℕ, ◌≡◌, ◌↔◌, ◌⊎◌, List}
use Rattle.std.specs.List.{Contains}
use Rattle.desk_values.specs.declared.value.Value.{Value}
use Rattle.desk_values.specs.declared.value.Value.TheVariants as value
use Rattle.desk_schema.specs.declared.keys.RowKey.{RowKey}
use Rattle.desk_schema.specs.declared.keys.Key.{Key}
use Rattle.desk_schema.specs.declared.keys.Key.TheVariants as key

-- the value that a key is
abbrev pub key_value : Key → Value
key_value key.Null = value.Null
key_value (key.Int n) = value.Int n
key_value (key.Text bytes) = value.Text bytes.items
key_value (key.Row n) = value.Row n
key_value (key.Draw sequence n) = value.Draw sequence n

-- a key with its table
abbrev pub row_key : RowKey → ℕ × Value
row_key key = (key.table, key_value key.key)

-- the new keys are the old ones and this one
abbrev pub IsWith : List (ℕ × Value) → List (ℕ × Value) → ℕ × Value → Type 0
IsWith old new key = (other : ℕ × Value) → Contains new other ↔ ((other ≡ key) ⊎ Contains old other)
