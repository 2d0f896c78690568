-- What the lines of a start file have declared so far.
use Rattle.std.specs.Prelude.{ℕ, List, [], ◌∷◌, ◌++◌, Some}
use Rattle.std.specs.List.{fold}
use Rattle.desk_schema.specs.declared.line.StartLine.{StartLine}
use Rattle.desk_schema.specs.declared.line.StartLine.TheVariants.{Head, Level as LevelLine, Seq as SeqLine, Service as ServiceLine, Table as TableLine, Column as ColumnLine, Row as RowLine, NextRow, Sessions, End}
use Rattle.desk_schema.specs.declared.schema.Table.{Table}
use Rattle.desk_schema.specs.declared.schema.Column.{Column}
use Rattle.desk_schema.specs.Line.{with_number}
use Rattle.desk_schema.specs.Start.{StartView}

pub record State : Type 0 where
  -- the place of the last line in the order of a file, 0 before the first
  pub last : ℕ
  pub start : StartView
  pub sessions : ℕ

-- the place of each kind of line in the order of a file
abbrev pub place : StartLine → ℕ
place (Head version) = 1
place (LevelLine level) = 2
place (SeqLine name next) = 3
place (ServiceLine name rights) = 4
place (TableLine name) = 5
place (ColumnLine name kind not_null) = 6
place (RowLine row table values) = 7
place (NextRow row) = 8
place (Sessions count) = 9
place End = 10

-- before the first line
abbrev pub nothing : State
nothing = record { last = 0; start = record { schema = record { version = 0; level = 0; sequences = []; services = []; tables = [] }; rows = []; next_row = 0; next_values = [] }; sessions = 0 }

-- the last table with one more column
abbrev pub with_column : List Table → Column → List Table
with_column [] column = []
with_column (table ∷ []) column = record { name = table.name; columns = table.columns ++ column ∷ [] } ∷ []
with_column (table ∷ next ∷ tables) column = table ∷ with_column (next ∷ tables) column

-- a start with what a line declares
abbrev pub start_with : StartView → StartLine → StartView
start_with start (Head version) = record start { schema = record start.schema { version = version } }
start_with start (LevelLine level) = record start { schema = record start.schema { level = level } }
start_with start (SeqLine name next) = record start { schema = record start.schema { sequences = start.schema.sequences ++ name ∷ [] }; next_values = start.next_values ++ next ∷ [] }
start_with start (ServiceLine name rights) = record start { schema = record start.schema { services = start.schema.services ++ record { name = name; rights = rights } ∷ [] } }
start_with start (TableLine name) = record start { schema = record start.schema { tables = start.schema.tables ++ record { name = name; columns = [] } ∷ [] } }
start_with start (ColumnLine name kind not_null) = record start { schema = record start.schema { tables = with_column start.schema.tables (record { name = name; kind = with_number start.schema.sequences kind; not_null = not_null }) } }
start_with start (RowLine row table values) = record start { rows = start.rows ++ record { row = row; table = table; left = Some values } ∷ [] }
start_with start (NextRow row) = record start { next_row = row }
start_with start other = start

-- the number of sessions that a line says, this one where it says none
abbrev pub sessions_with : ℕ → StartLine → ℕ
sessions_with sessions (Sessions count) = count
sessions_with sessions other = sessions

-- the state with one more line
abbrev pub added : State → StartLine → State
added state line = record { last = place line; start = start_with state.start line; sessions = sessions_with state.sessions line }

-- the state after lines
abbrev pub state_after : State → List StartLine → State
state_after state lines = fold added state lines

abbrev pub state_of : List StartLine → State
state_of lines = state_after nothing lines
