-- What a replay may run on in the place of the captured start.
use Rattle.std.specs.Prelude.{ℕ, ◌≡◌, ◌≤◌, List, map}
use Rattle.std.specs.List.{AllZip}
use Rattle.desk_schema.specs.declared.schema.Column.{Column}
use Rattle.desk_schema.specs.declared.schema.Kind.{Kind}
use Rattle.desk_schema.specs.declared.schema.Kind.TheVariants.{Int, Text, Seq}
use Rattle.desk_schema.specs.declared.schema.Table.{Table}
use Rattle.desk_schema.specs.Start.{StartView}

-- a kind without its range or length
pub data BareKind : Type 0 where
  numbers : BareKind
  texts : BareKind
  drawn_from : ℕ → BareKind

abbrev pub bare_kind : Kind → BareKind
bare_kind (Int low high) = numbers
bare_kind (Text most) = texts
bare_kind (Seq sequence) = drawn_from sequence

-- the name and the kind of a column
abbrev pub bare_column : Column → List ℕ × BareKind
bare_column column = (column.name, bare_kind column.kind)

abbrev pub bare_table : Table → List ℕ × List (List ℕ × BareKind)
bare_table table = (table.name, map bare_column table.columns)

-- a start with the version, tables, columns, kinds, sequences and rows of the captured one, in which no sequence is behind; level,
-- ranges, lengths, Null rules and services may be others
pub record IsTarget (captured target : StartView) : Type 0 where
  pub version : target.schema.version ≡ captured.schema.version
  pub sequences : target.schema.sequences ≡ captured.schema.sequences
  pub tables : map bare_table target.schema.tables ≡ map bare_table captured.schema.tables
  pub rows : target.rows ≡ captured.rows
  pub next_row : target.next_row ≡ captured.next_row
  pub next_values : AllZip (λ old next. old ≤ next) captured.next_values target.next_values
