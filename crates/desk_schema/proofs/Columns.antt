-- How many columns a table has.
use Rattle.std.proofs.Common.{ℕ, zero, suc, ◌≤◌, List, [], ◌∷◌, length, arith}
use Rattle.std.specs.List.{AllByRecursion}
use Rattle.desk_schema.specs.declared.schema.Table.{Table}
use Rattle.desk_schema.specs.Schema.{HasColumns, columns_of}

-- at most 16, and none where there is no such table
pub few_columns : (tables : List Table) (place : ℕ) → AllByRecursion HasColumns tables → length (columns_of tables place) ≤ 16
few_columns [] place have = omega arith
few_columns (table ∷ tables) zero have = have.0.most
few_columns (table ∷ tables) (suc place) have = few_columns tables place have.1
