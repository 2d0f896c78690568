-- The lines of a start file: their texts.
use Rattle.std.specs.Prelude.{ℕ, Bool, true, false, List, [], ◌∷◌, ◌++◌, slice_get, unwrap_or, codes}
use Rattle.std.specs.List.{flat_map}
use Rattle.std.specs.Fmt.{decimal, signed_decimal}
use Rattle.desk_values.specs.Text.{values_text}
use Rattle.desk_schema.specs.declared.line.StartLine.{StartLine}
use Rattle.desk_schema.specs.declared.line.StartLine.TheVariants.{Head, Level as LevelLine, Seq as SeqLine, Service as ServiceLine, Table as TableLine, Column as ColumnLine, Row as RowLine, NextRow, Sessions, End}
use Rattle.desk_schema.specs.declared.line.ColumnKind.{ColumnKind}
use Rattle.desk_schema.specs.declared.line.ColumnKind.TheVariants as written
use Rattle.desk_schema.specs.declared.schema.Kind.{Kind}
use Rattle.desk_schema.specs.declared.schema.Kind.TheVariants as numbered
use Rattle.desk_schema.specs.Schema.{place_of, rights_word}

abbrev pub nulls_text : Bool → List ℕ
nulls_text true = codes "notnull"
nulls_text false = codes "null"

abbrev pub kind_text : ColumnKind → List ℕ
kind_text (written.Int low high) = codes "int " ++ (signed_decimal low ++ 32 ∷ signed_decimal high)
kind_text (written.Text most) = codes "text " ++ decimal most
kind_text (written.Seq sequence) = codes "seq " ++ sequence

-- the one text of a line, without its line feed
abbrev pub line_text : StartLine → List ℕ
line_text (Head version) = codes "start " ++ decimal version
line_text (LevelLine level) = codes "level " ++ decimal level
line_text (SeqLine name next) = codes "seq " ++ (name ++ 32 ∷ decimal next)
line_text (ServiceLine name rights) = codes "svc " ++ (name ++ 32 ∷ rights_word rights)
line_text (TableLine name) = codes "table " ++ name
line_text (ColumnLine name kind not_null) = codes "col " ++ (name ++ 32 ∷ (kind_text kind ++ 32 ∷ nulls_text not_null))
line_text (RowLine row table values) = codes "row " ++ (decimal row ++ 32 ∷ (decimal table ++ 32 ∷ values_text values))
line_text (NextRow row) = codes "nextrow " ++ decimal row
line_text (Sessions count) = codes "sessions " ++ decimal count
line_text End = codes "end"

-- each line, with its line feed
abbrev pub lines_text : List StartLine → List ℕ
lines_text lines = flat_map (λ line. line_text line ++ 10 ∷ []) lines

-- the name of the sequence of this number, the text of no bytes where there is none
abbrev pub name_of : List (List ℕ) → ℕ → List ℕ
name_of names sequence = unwrap_or (slice_get names sequence) []

-- a column's kind with the sequence's name, and with its number, which is 0 where there is none
abbrev pub with_name : List (List ℕ) → Kind → ColumnKind
with_name names (numbered.Int low high) = written.Int low high
with_name names (numbered.Text most) = written.Text most
with_name names (numbered.Seq sequence) = written.Seq (name_of names sequence)

abbrev pub with_number : List (List ℕ) → ColumnKind → Kind
with_number names (written.Int low high) = numbered.Int low high
with_number names (written.Text most) = numbered.Text most
with_number names (written.Seq sequence) = numbered.Seq (unwrap_or (place_of names sequence) 0)
