-- A start as contracts see it, and its lines.
use Rattle.std.specs.Prelude.{ℕ, List, [], ◌∷◌, ◌++◌, map, Option, None, Some}
use Rattle.std.specs.List.{flat_map}
use Rattle.desk_values.specs.declared.value.Value.{Value}
use Rattle.desk_values.specs.declared.value.Image.{Image}
use Rattle.desk_schema.specs.declared.line.StartLine.{StartLine}
use Rattle.desk_schema.specs.declared.line.StartLine.TheVariants.{Head, Level as LevelLine, Seq as SeqLine, Service as ServiceLine, Table as TableLine, Column as ColumnLine, Row as RowLine, NextRow, Sessions, End}
use Rattle.desk_schema.specs.declared.schema.Service.{Service}
use Rattle.desk_schema.specs.declared.schema.Table.{Table}
use Rattle.desk_schema.specs.declared.schema.Column.{Column}
use Rattle.desk_schema.specs.Schema.{SchemaView}
use Rattle.desk_schema.specs.Line.{with_name}

pub record StartView : Type 0 where
  pub schema : SchemaView
  pub rows : List Image
  pub next_row : ℕ
  -- the next value of each sequence, by number
  pub next_values : List ℕ

-- the lines that declare a part of a start
abbrev pub sequence_lines : List (List ℕ) → List ℕ → List StartLine
sequence_lines (name ∷ names) (next ∷ nexts) = SeqLine name next ∷ sequence_lines names nexts
sequence_lines names nexts = []

abbrev pub service_line : Service → StartLine
service_line service = ServiceLine service.name service.rights

abbrev pub column_line : List (List ℕ) → Column → StartLine
column_line sequences column = ColumnLine column.name (with_name sequences column.kind) column.not_null

abbrev pub table_lines : List (List ℕ) → Table → List StartLine
table_lines sequences table = TableLine table.name ∷ map (column_line sequences) table.columns

abbrev pub values_left : Option (List Value) → List Value
values_left None = []
values_left (Some values) = values

abbrev pub row_line : Image → StartLine
row_line row = RowLine row.row row.table (values_left row.left)

-- the lines of a start, up to its rows
abbrev pub part_lines : StartView → List StartLine
part_lines start =
    let schema = start.schema in
    Head schema.version ∷ LevelLine schema.level ∷ (sequence_lines schema.sequences start.next_values ++ (map service_line schema.services ++ (flat_map (table_lines schema.sequences) schema.tables ++ map row_line start.rows)))

-- up to its next row
abbrev pub lines_of : StartView → List StartLine
lines_of start = part_lines start ++ NextRow start.next_row ∷ []

-- all lines of a start file
abbrev pub file_lines : StartView → ℕ → List StartLine
file_lines start sessions = lines_of start ++ Sessions sessions ∷ End ∷ []
