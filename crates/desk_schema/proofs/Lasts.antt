-- The last of the tables.
use Rattle.std.proofs.Common.{◌≡◌, ℕ, zero, suc, ◌+◌, ◌-◌, ◌<◌, List, [], ◌∷◌, ◌++◌, length, get_or, set, Some, ap, arith}
use Rattle.std.specs.List.{slice_get}
use Rattle.std.proofs.lemmas.Option.{slice_get_within}
use Rattle.desk_schema.specs.declared.schema.Table.{Table}
use Rattle.desk_schema.specs.declared.schema.Column.{Column}
use Rattle.desk_schema.specs.State.{with_column}
use Rattle.desk_schema.specs.Rules.{last_columns}

last_columns-at : (tables : List Table) (place : ℕ) (table : Table) → place + 1 ≡ length tables → slice_get tables place ≡ Some table → last_columns tables ≡ table.columns
last_columns-at [] place table end is = absurd (omega arith)
last_columns-at (first ∷ []) zero table end is = let e : first ≡ table = cc in ap (λ (t : Table). t.columns) e
last_columns-at (first ∷ []) (suc place) table end is = absurd (omega arith)
last_columns-at (first ∷ next ∷ tables) zero table end is = absurd (omega arith)
last_columns-at (first ∷ next ∷ tables) (suc place) table end is = last_columns-at (next ∷ tables) place table (omega arith) is

-- the last table has the last columns
pub last_columns-last : (tables : List Table) (table : Table) → slice_get tables (length tables - 1) ≡ Some table → last_columns tables ≡ table.columns
last_columns-last tables table is = last_columns-at tables (length tables - 1) table (omega (arith, slice_get_within tables (length tables - 1) table is)) is

with_column-at : (tables : List Table) (place : ℕ) (table : Table) (column : Column) → place + 1 ≡ length tables → table ≡ get_or tables place table
    → set tables place (record { name = table.name; columns = table.columns ++ column ∷ [] }) ≡ with_column tables column
with_column-at [] place table column end is = absurd (omega arith)
with_column-at (first ∷ []) zero table column end is = ap (λ (t : Table). record { name = t.name; columns = t.columns ++ column ∷ [] } ∷ []) is
with_column-at (first ∷ []) (suc place) table column end is = absurd (omega arith)
with_column-at (first ∷ next ∷ tables) zero table column end is = absurd (omega arith)
with_column-at (first ∷ next ∷ tables) (suc place) table column end is = ap (λ ts. first ∷ ts) (with_column-at (next ∷ tables) place table column (omega arith) is)

-- a column at the end of the last table
pub with_column-set : (tables : List Table) (table : Table) (column : Column) → 0 < length tables → table ≡ get_or tables (length tables - 1) table
    → set tables (length tables - 1) (record { name = table.name; columns = table.columns ++ column ∷ [] }) ≡ with_column tables column
with_column-set tables table column some is = with_column-at tables (length tables - 1) table column (omega arith) is
