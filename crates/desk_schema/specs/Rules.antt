-- What a line needs of what those in front of it declared.
use Rattle.std.specs.Prelude.{ℕ, ℤ, ◌≡◌, ◌<◌, ◌≤◌, ◌≤ℤ◌, ◌^◌, Bool, true, false, ◌==◌, if◌then◌else◌, List, [], ◌∷◌, length, Option, None, IsSomeAnd, slice_get, FitsSigned}
use Rattle.std.specs.Int.{w64}
use Rattle.std.specs.Option.{option_map}
use Rattle.std.specs.List.{AllByRecursion, AllZip, Contains, filter_map}
use Rattle.desk_values.specs.declared.value.Value.{Value}
use Rattle.desk_values.specs.declared.value.Value.TheVariants as value
use Rattle.desk_values.specs.declared.value.Image.{Image}
use Rattle.desk_values.specs.Comparison.{same_key, without_trailing_spaces}
use Rattle.desk_values.specs.Good.{IsTxt}
use Rattle.desk_values.specs.Limits.{session_limit, table_limit}
use Rattle.desk_schema.specs.Limits.{level_limit, sequence_limit, service_limit, column_limit, start_row_limit, length_limit, next_limit}
use Rattle.desk_schema.specs.declared.line.StartLine.{StartLine}
use Rattle.desk_schema.specs.declared.line.StartLine.TheVariants.{Head, Level as LevelLine, Seq as SeqLine, Service as ServiceLine, Table as TableLine, Column as ColumnLine, Row as RowLine, NextRow, Sessions, End}
use Rattle.desk_schema.specs.declared.line.ColumnKind.{ColumnKind}
use Rattle.desk_schema.specs.declared.line.ColumnKind.TheVariants as written
use Rattle.desk_schema.specs.declared.schema.Kind.{Kind}
use Rattle.desk_schema.specs.declared.schema.Kind.TheVariants as numbered
use Rattle.desk_schema.specs.declared.schema.Service.{Service}
use Rattle.desk_schema.specs.declared.schema.Table.{Table}
use Rattle.desk_schema.specs.declared.schema.Column.{Column}
use Rattle.desk_schema.specs.Name.{IsName}
use Rattle.desk_schema.specs.Schema.{SchemaView, IsVersion, table_names, column_names, service_names, columns_of}
use Rattle.desk_schema.specs.State.{State, nothing, added}

-- a level of the SQL rules
abbrev pub IsLevel : ℕ → Type 0
IsLevel level = (1 ≤ level) × (level ≤ level_limit)

-- the columns so far of the last table
abbrev pub last_columns : List Table → List Column
last_columns [] = []
last_columns (table ∷ []) = table.columns
last_columns (table ∷ next ∷ tables) = last_columns (next ∷ tables)

-- from the one place to the other
pub record IsWithin (low high last : ℕ) : Type 0 where
  pub from : low ≤ last
  pub to : last ≤ high

-- `seq`, after `level` or `seq`: at most 16, with names of their own
pub record SequenceMayFollow (last : ℕ) (sequences : List (List ℕ)) (name : List ℕ) (next : ℕ) : Type 0 where
  pub order : IsWithin 2 3 last
  pub count : length sequences < sequence_limit
  pub is_name : IsName name
  pub distinct : ¬ Contains sequences name
  pub least : 1 ≤ next
  pub most : next ≤ next_limit

-- `svc`, after `level`, `seq` or `svc`: at most 16, with names of their own
pub record ServiceMayFollow (last : ℕ) (services : List Service) (name : List ℕ) : Type 0 where
  pub order : IsWithin 2 4 last
  pub count : length services < service_limit
  pub is_name : IsName name
  pub distinct : ¬ Contains (service_names services) name

-- `table`, after `level`, `seq`, `svc` or `col`, since a table has columns: at most 32, with names of their own
pub record TableMayFollow (last : ℕ) (tables : List Table) (name : List ℕ) : Type 0 where
  pub order : IsWithin 2 6 last
  pub whole : ¬ (last ≡ 5)
  pub count : length tables < table_limit
  pub is_name : IsName name
  pub distinct : ¬ Contains (table_names tables) name

pub record IsRange (low high : ℤ) : Type 0 where
  pub low_fits : FitsSigned w64 low
  pub high_fits : FitsSigned w64 high
  pub order : low ≤ℤ high

-- a range with a number in it, a length from 1 to 1,000, or a sequence that is there
abbrev pub IsKind : List (List ℕ) → ColumnKind → Type 0
IsKind sequences (written.Int low high) = IsRange low high
IsKind sequences (written.Text most) = (1 ≤ most) × (most ≤ length_limit)
IsKind sequences (written.Seq sequence) = Contains sequences sequence

-- `col`, after `table` or `col`: at most 16 of a table, with names of their own; the first is not null
pub record ColumnMayFollow (last : ℕ) (sequences : List (List ℕ)) (columns : List Column) (name : List ℕ)
    (kind : ColumnKind) (not_null : Bool) : Type 0 where
  pub order : IsWithin 5 6 last
  pub count : length columns < column_limit
  pub is_name : IsName name
  pub distinct : ¬ Contains (column_names columns) name
  pub is_kind : IsKind sequences kind
  pub key : length columns ≡ 0 → not_null ≡ true

-- a value that is there is of the column's kind: a number in the range, a text that is not too long, or a value that was
-- drawn from the sequence
abbrev pub IsOfKind : List ℕ → Kind → Value → Type 0
IsOfKind nexts (numbered.Int low high) (value.Int n) = (low ≤ℤ n) × (n ≤ℤ high)
IsOfKind nexts (numbered.Text most) (value.Text text) = IsTxt text × (length text ≤ most)
IsOfKind nexts (numbered.Seq sequence) (value.Draw drawn n) = (drawn ≡ sequence) × (1 ≤ n) × IsSomeAnd (slice_get nexts sequence) (λ next. n < next)
IsOfKind nexts kind other = ⊥

-- no value, where the column may be null, or one of its kind
abbrev pub IsAllowed : List ℕ → Column → Value → Type 0
IsAllowed nexts column value.Null = column.not_null ≡ false
IsAllowed nexts column other = IsOfKind nexts column.kind other

-- the first value of a row is its key
abbrev pub key_of : List Value → Value
key_of [] = value.Null
key_of (key ∷ others) = key

abbrev pub key_in : ℕ → Image → Option Value
key_in table row = if row.table == table then option_map key_of row.left else None

-- the keys of a table's rows
abbrev pub keys_of : ℕ → List Image → List Value
keys_of table rows = filter_map (key_in table) rows

-- what counts of a key at a level: of a text at level 2 what stands before the spaces at its end
abbrev pub counted : ℕ → Value → Value
counted level (value.Text text) = value.Text (if level == 2 then without_trailing_spaces text else text)
counted level other = other

-- none of the keys is this one at the level
abbrev pub IsNewKey : ℕ → List Value → Value → Type 0
IsNewKey level keys key = AllByRecursion (λ other. same_key level other key ≡ false) keys

-- each row has a number below this one
abbrev pub AreBelow : ℕ → List Image → Type 0
AreBelow number rows = AllByRecursion (λ row. row.row < number) rows

-- `row`, behind `col` or `row`: numbers rise from 1 on, up to 100,000 rows; as many values as columns, and each fits its own
pub record RowFits (last : ℕ) (tables : List Table) (nexts : List ℕ) (rows : List Image) (row table : ℕ)
    (values : List Value) : Type 0 where
  pub order : IsWithin 6 7 last
  pub count : length rows < start_row_limit
  pub least : 1 ≤ row
  pub most : row < 2 ^ 64
  pub rising : AreBelow row rows
  pub is_table : table < length tables
  pub allowed : AllZip (IsAllowed nexts) (columns_of tables table) values

-- and a first value that its table does not have yet
pub record RowMayFollow (last : ℕ) (schema : SchemaView) (nexts : List ℕ) (rows : List Image) (row table : ℕ)
    (values : List Value) : Type 0 where
  pub fits : RowFits last schema.tables nexts rows row table values
  pub key : IsNewKey schema.level (keys_of table rows) (key_of values)

-- `nextrow`, after anything from `level` to `row`, since a table has columns: over every row
pub record NextRowMayFollow (last : ℕ) (rows : List Image) (next : ℕ) : Type 0 where
  pub order : IsWithin 2 7 last
  pub whole : ¬ (last ≡ 5)
  pub least : 1 ≤ next
  pub most : next ≤ next_limit
  pub above : AreBelow next rows

-- the line has what it needs
abbrev pub MayFollow : State → StartLine → Type 0
MayFollow state (Head version) = (state.last ≡ 0) × IsVersion version
MayFollow state (LevelLine level) = (state.last ≡ 1) × IsLevel level
MayFollow state (SeqLine name next) = SequenceMayFollow state.last state.start.schema.sequences name next
MayFollow state (ServiceLine name rights) = ServiceMayFollow state.last state.start.schema.services name
MayFollow state (TableLine name) = TableMayFollow state.last state.start.schema.tables name
MayFollow state (ColumnLine name kind not_null) = ColumnMayFollow state.last state.start.schema.sequences (last_columns state.start.schema.tables) name kind not_null
MayFollow state (RowLine row table values) = RowMayFollow state.last state.start.schema state.start.next_values state.start.rows row table values
MayFollow state (NextRow next) = NextRowMayFollow state.last state.start.rows next
MayFollow state (Sessions count) = (state.last ≡ 8) × (count ≤ session_limit)
MayFollow state End = state.last ≡ 9

-- each line has what it needs in the state that those before it lead to
abbrev pub AreLinesFrom : State → List StartLine → Type 0
AreLinesFrom state [] = Unit {0}
AreLinesFrom state (line ∷ lines) = MayFollow state line × AreLinesFrom (added state line) lines

abbrev pub AreLines : List StartLine → Type 0
AreLines lines = AreLinesFrom nothing lines
