-- The start file: its lines as a form, and the bytes of a start.
use Rattle.std.specs.Prelude.{◌≡◌, ℕ, ◌<◌, ◌≤◌, ◌^◌, ◌==◌, Bool, List, FitsSigned}
use Rattle.std.specs.Int.{w64}
use Rattle.desk_values.specs.Good.{IsValues}
use Rattle.desk_values.specs.Limits.{session_limit}
use Rattle.desk_schema.specs.declared.line.StartLine.{StartLine}
use Rattle.desk_schema.specs.declared.line.StartLine.TheVariants.{Head, Level, Seq as SeqLine, Service, Table, Column, Row, NextRow, Sessions, End}
use Rattle.desk_schema.specs.declared.line.ColumnKind.{ColumnKind}
use Rattle.desk_schema.specs.declared.line.ColumnKind.TheVariants.{Int, Text, Seq}
use Rattle.desk_schema.specs.Name.{IsName}
use Rattle.desk_schema.specs.Line.{line_text, lines_text}
use Rattle.desk_schema.specs.Start.{StartView, file_lines}
use Rattle.desk_schema.specs.State.{State, nothing, added}
use Rattle.desk_schema.specs.Rules.{MayFollow}
use Rattle.desk_schema.specs.File.{IsStart}
use Rattle.file_lines.specs.File.{IsBadAt}
use Rattle.file_lines.specs.Form.{Form, Comes}
use Rattle.capture_format.specs.declared.start.StartFile.{StartFile}

-- the parts of a column's kind are within the limits of their types
abbrev pub IsColumnKind : ColumnKind → Type 0
IsColumnKind (Int low high) = FitsSigned w64 low × FitsSigned w64 high
IsColumnKind (Text most) = most < 2 ^ 32
IsColumnKind (Seq sequence) = IsName sequence

-- a line that has a text: names are names, numbers and values are within the limits of their types
abbrev pub IsStartLine : StartLine → Type 0
IsStartLine (Head version) = version < 2 ^ 32
IsStartLine (Level level) = level < 2 ^ 32
IsStartLine (SeqLine name next) = IsName name × (next < 2 ^ 64)
IsStartLine (Service name rights) = IsName name
IsStartLine (Table name) = IsName name
IsStartLine (Column name kind not_null) = IsName name × IsColumnKind kind
IsStartLine (Row row table values) = (row < 2 ^ 64) × (table < 2 ^ 32) × IsValues values
IsStartLine (NextRow row) = row < 2 ^ 64
IsStartLine (Sessions count) = count < 2 ^ 32
IsStartLine End = Unit {0}

-- the lines, with the rules of each and what it adds to the start
abbrev pub start_form : Form State StartLine
start_form = record { Fits = IsStartLine; text = line_text; May = MayFollow; added = added }

abbrev pub is_ended : State → Bool
is_ended state = state.last == 10

-- the line of this number is the first that is not whole or may not come
abbrev pub IsBadStart : List ℕ → ℕ → Type 0
IsBadStart bytes n = IsBadAt (Comes start_form) is_ended nothing 1 bytes n

-- the bytes of a start file
abbrev pub start_text : StartView → ℕ → List ℕ
start_text start sessions = lines_text (file_lines start sessions)

-- the bytes are the start file that says this
pub record IsStartFile (bytes : List ℕ) (file : StartFile) : Type 0 where
  pub is_start : IsStart file.start
  pub sessions : file.sessions ≤ session_limit
  pub text : bytes ≡ start_text file.start file.sessions
