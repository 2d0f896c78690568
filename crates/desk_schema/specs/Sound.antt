-- What holds of every start that keeps the rules.
use Rattle.std.specs.Prelude.{ℕ, ◌≡◌, ◌<◌, ◌≤◌, ◌^◌, true, false, List, [], ◌∷◌, length, Some, IfSome, IsSomeAnd, slice_get}
use Rattle.std.specs.List.{AllByRecursion, AllZip}
use Rattle.desk_values.specs.declared.value.Value.{Value}
use Rattle.desk_values.specs.declared.value.Image.{Image}
use Rattle.desk_values.specs.Comparison.{same_key}
use Rattle.desk_values.specs.Good.{Ascend}
use Rattle.desk_values.specs.Limits.{table_limit}
use Rattle.desk_schema.specs.Limits.{sequence_limit, service_limit, column_limit, start_row_limit, length_limit, next_limit}
use Rattle.desk_schema.specs.declared.schema.Kind.{Kind}
use Rattle.desk_schema.specs.declared.schema.Kind.TheVariants.{Int, Text, Seq}
use Rattle.desk_schema.specs.declared.schema.Table.{Table}
use Rattle.desk_schema.specs.Name.{IsName}
use Rattle.desk_schema.specs.Schema.{SchemaView, IsSchema, place_of, table_names, column_names, service_names, columns_of}
use Rattle.desk_schema.specs.Line.{name_of}
use Rattle.desk_schema.specs.Start.{StartView}
use Rattle.desk_schema.specs.Rules.{IsLevel, IsRange, IsAllowed, AreBelow, keys_of}

-- no name stands twice: each is found at its own place
abbrev pub AreDistinct : List (List ℕ) → Type 0
AreDistinct names = (place : ℕ) → place < length names → place_of names (name_of names place) ≡ Some place

-- a kind within the limits, of a sequence that is there
abbrev pub IsKnownKind : ℕ → Kind → Type 0
IsKnownKind sequences (Int low high) = IsRange low high
IsKnownKind sequences (Text most) = (1 ≤ most) × (most ≤ length_limit)
IsKnownKind sequences (Seq sequence) = sequence < sequences

-- a table, whose columns may still be coming
pub record IsSoundTable (sequences : ℕ) (table : Table) : Type 0 where
  pub is_name : IsName table.name
  pub most : length table.columns ≤ column_limit
  pub columns : AllByRecursion (λ column. IsName column.name × IsKnownKind sequences column.kind) table.columns
  pub distinct : AreDistinct (column_names table.columns)
  pub key : IfSome (slice_get table.columns 0) (λ column. column.not_null ≡ true)

-- a row of a table, with a value for each column
pub record IsSoundRow (tables : List Table) (nexts : List ℕ) (row : Image) : Type 0 where
  pub least : 1 ≤ row.row
  pub most : row.row < 2 ^ 64
  pub is_table : row.table < length tables
  pub allowed : IsSomeAnd row.left (λ values. AllZip (IsAllowed nexts) (columns_of tables row.table) values)

-- no two of the keys are the same at the level
abbrev pub AreApart : ℕ → List Value → Type 0
AreApart level [] = Unit {0}
AreApart level (first ∷ others) = AllByRecursion (λ other. same_key level first other ≡ false) others × AreApart level others

pub record AreSoundSequences (sequences : List (List ℕ)) (nexts : List ℕ) : Type 0 where
  pub most : length sequences ≤ sequence_limit
  pub counts : length nexts ≡ length sequences
  pub are_names : AllByRecursion IsName sequences
  pub distinct : AreDistinct sequences
  pub limits : AllByRecursion (λ next. (1 ≤ next) × (next ≤ next_limit)) nexts

pub record IsSoundSchema (schema : SchemaView) : Type 0 where
  pub services : length schema.services ≤ service_limit
  pub services_named : AllByRecursion IsName (service_names schema.services)
  pub services_distinct : AreDistinct (service_names schema.services)
  pub tables : length schema.tables ≤ table_limit
  pub tables_sound : AllByRecursion (IsSoundTable (length schema.sequences)) schema.tables
  pub tables_distinct : AreDistinct (table_names schema.tables)

pub record AreSoundRows (schema : SchemaView) (nexts : List ℕ) (rows : List Image) : Type 0 where
  pub most : length rows ≤ start_row_limit
  pub rising : Ascend rows
  pub each : AllByRecursion (IsSoundRow schema.tables nexts) rows
  pub apart : (table : ℕ) → AreApart schema.level (keys_of table rows)

pub record IsSound (start : StartView) : Type 0 where
  pub sequences : AreSoundSequences start.schema.sequences start.next_values
  pub is_schema : IsSoundSchema start.schema
  pub sound_rows : AreSoundRows start.schema start.next_values start.rows

-- the number of the next row is over every row
pub record IsSoundNextRow (start : StartView) : Type 0 where
  pub least : 1 ≤ start.next_row
  pub most : start.next_row ≤ next_limit
  pub above : AreBelow start.next_row start.rows

-- what holds of every start that keeps the rules
pub record IsSoundStart (start : StartView) : Type 0 where
  pub level : IsLevel start.schema.level
  pub is_schema : IsSchema start.schema
  pub sound : IsSound start
  pub next_row : IsSoundNextRow start
