-- A draft of a start, and what its calls answer.
use Rattle.std.specs.Prelude.{ℕ, ◌≡◌, List, Result, Ok, Err}
use Rattle.desk_values.specs.declared.value.Image.{Image}
use Rattle.desk_values.specs.declared.read_err.ReadErr.{ReadErr}
use Rattle.desk_values.specs.declared.read_err.ReadErr.TheVariants as line
use Rattle.desk_schema.specs.declared.line.StartLine.{StartLine}
use Rattle.desk_schema.specs.declared.draft.DraftErr.{DraftErr}
use Rattle.desk_schema.specs.declared.draft.DraftErr.TheVariants.{Rule, Memory}
use Rattle.desk_schema.specs.declared.rules.Last.{Last}
use Rattle.desk_schema.specs.declared.rules.Last.TheVariants.{Level, Sequence, Service, Table, Column, Row}
use Rattle.desk_schema.specs.Schema.{SchemaView}
use Rattle.desk_schema.specs.Start.{StartView}
use Rattle.desk_schema.specs.State.{State, state_of}
use Rattle.desk_schema.specs.Rules.{AreLines}

-- the place of the last line in the order of a file
abbrev pub place_of_last : Last → ℕ
place_of_last Level = 2
place_of_last Sequence = 3
place_of_last Service = 4
place_of_last Table = 5
place_of_last Column = 6
place_of_last Row = 7

-- the state of a draft: neither the next row nor the sessions are declared yet
abbrev pub drafted : Last → SchemaView → List ℕ → List Image → State
drafted last schema nexts rows =
    record { last = place_of_last last; start = record { schema = schema; rows = rows; next_row = 0; next_values = nexts }; sessions = 0 }

-- the state with the line of the next row, once a start is whole
abbrev pub finished : StartView → State
finished start = record { last = 8; start = start; sessions = 0 }

-- the state with another version in its first line
abbrev pub with_version : ℕ → State → State
with_version version state = record state { start = record state.start { schema = record state.start.schema { version = version } } }

-- lines that keep the rules lead to this state
pub record IsReached (state : State) : Type 0 where
  pub lines : List StartLine
  pub are_lines : AreLines lines
  pub leads : state_of lines ≡ state

-- `Rule` just where the rule is broken
abbrev pub Judges : {T : Type 0} → Result T DraftErr → Type 0 → Type 0
Judges (Ok _) Kept = Kept
Judges (Err Rule) Kept = ¬ Kept
Judges (Err Memory) Kept = Kept

-- the same, where want of memory may come before the judgement
abbrev pub JudgesUnlessMemory : {T : Type 0} → Result T DraftErr → Type 0 → Type 0
JudgesUnlessMemory (Ok _) Kept = Kept
JudgesUnlessMemory (Err Rule) Kept = ¬ Kept
JudgesUnlessMemory (Err Memory) Kept = Unit {0}

-- a line that breaks a rule is a bad line of its file
abbrev pub line_err : DraftErr → ReadErr
line_err Rule = line.Bad
line_err Memory = line.Memory
