-- Rows by their keys, as triples of a table, a key and a row.
use Rattle.std.specs.Prelude.{ℕ, ◌+◌, ◌≤◌, Bool, ◌&&◌, nat_eq, nat_lt, if◌then◌else◌, List, [], ◌∷◌, ◌++◌, map}
use Rattle.desk_values.specs.declared.value.Value.{Value}
use Rattle.desk_values.specs.Comparison.{same_key}
use Rattle.key_index.specs.declared.shelf.Group.{Group}

pub record Triple : Type 0 where
  pub table : ℕ
  pub key : Value
  pub row : ℕ

pub record Index : Type 0 where
  -- how keys compare
  pub level : ℕ
  pub triples : List Triple

-- the two are one key of one table
abbrev pub is_one : ℕ → ℕ → Value → ℕ → Value → Bool
is_one level table key other_table other_key = nat_eq table other_table && same_key level key other_key

-- the rows of a key, in the order of the triples
abbrev pub rows_of : ℕ → List Triple → ℕ → Value → List ℕ
rows_of level [] table key = []
rows_of level (triple ∷ triples) table key = if is_one level triple.table triple.key table key then triple.row ∷ rows_of level triples table key else rows_of level triples table key

-- each is greater than the one before it, and the first is at least this one
abbrev pub RisesFrom : ℕ → List ℕ → Type 0
RisesFrom low [] = Unit {0}
RisesFrom low (row ∷ rows) = (low ≤ row) × RisesFrom (row + 1) rows

-- with a row in its place, unless it is there
abbrev pub with_number : ℕ → List ℕ → List ℕ
with_number row [] = row ∷ []
with_number row (x ∷ xs) = if nat_lt x row then x ∷ with_number row xs else if nat_eq x row then x ∷ xs else row ∷ x ∷ xs

abbrev pub without_number : ℕ → List ℕ → List ℕ
without_number row [] = []
without_number row (x ∷ xs) = if nat_lt x row then x ∷ without_number row xs else if nat_eq x row then xs else x ∷ xs

-- ---- what an index is seen as

-- a group is a key of a table with its rows
abbrev pub triples_of_group : Group → List Triple
triples_of_group group = map (λ row. record { table = group.table; key = group.key; row = row }) group.rows

-- a shelf is the groups of a print
abbrev pub triples_of_shelf : List Group → List Triple
triples_of_shelf [] = []
triples_of_shelf (group ∷ groups) = triples_of_group group ++ triples_of_shelf groups

abbrev pub triples_of : List (ℕ × List Group) → List Triple
triples_of [] = []
triples_of (entry ∷ entries) = triples_of_shelf entry.1 ++ triples_of entries
