-- Rows that are kept by their numbers.
use Rattle.std.specs.Prelude.{◌≡◌, ℕ, List}
use Rattle.std.specs.List.{AllByRecursion}
use Rattle.std.specs.BTreeMap.{BTreeMap}
use Rattle.std.specs.Map.{values_of}
use denote.Ref.{Bor}
use Rattle.desk_values.specs.declared.value.Image.{Image}
use Rattle.sql_eval.specs.Totals.{looked_at}
use Rattle.server_words.specs.Rows.{IsRising}

-- what is looked at under the numbers, in their order
abbrev pub all_in : List (ℕ × Bor Image) → List Image
all_in entries = looked_at (values_of entries)

abbrev pub rows_in : BTreeMap ℕ (Bor Image) → List Image
rows_in rows = all_in rows.entries

-- each image stands under the number of its row
abbrev pub AreKeyed : List (ℕ × Bor Image) → Type 0
AreKeyed entries = AllByRecursion (λ (entry : ℕ × Bor Image). entry.0 ≡ entry.1.now.row) entries

pub record IsByRow (rows : BTreeMap ℕ (Bor Image)) : Type 0 where
  pub keyed : AreKeyed rows.entries
  pub rising : IsRising (rows_in rows)
