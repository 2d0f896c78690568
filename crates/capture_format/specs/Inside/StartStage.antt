-- How far the lines of a start file have come.
use Rattle.std.specs.Prelude.{◌≡◌, Result, Ok, Err}
use Rattle.desk_values.specs.declared.read_err.ReadErr.{ReadErr}
use Rattle.desk_values.specs.declared.read_err.ReadErr.TheVariants as line
use Rattle.desk_schema.specs.declared.line.StartLine.{StartLine}
use Rattle.desk_schema.specs.declared.line.StartLine.TheVariants.{Head}
use Rattle.desk_schema.specs.Draft.{finished}
use Rattle.desk_schema.specs.Schema.{IsVersion}
use Rattle.desk_schema.specs.Rules.{MayFollow, IsWithin}
use Rattle.desk_schema.specs.State.{State, nothing, added}
use Rattle.capture_format.specs.declared.start.Stage.{Stage}
use Rattle.capture_format.specs.declared.start.Stage.TheVariants.{Empty, Headed, Drafting, Declared, Counted, Ended}

-- the state that the lines so far lead to
abbrev pub state_at : Stage → State
state_at Empty = nothing
state_at (Headed version) = added nothing (Head version)
state_at (Drafting state) = state
state_at (Declared start) = finished start
state_at (Counted start count) = record { last = 9; start = start; sessions = count }
state_at (Ended start count) = record { last = 10; start = start; sessions = count }

-- the first line has a version; a draft is past the level, and its next row is still to come
abbrev pub IsStage : Stage → Type 0
IsStage (Headed version) = IsVersion version
IsStage (Drafting state) = IsWithin 2 7 state.last
IsStage other = Unit {0}

-- what a line leads to
abbrev pub LeadsTo : Result Stage ReadErr → State → StartLine → Type 0
LeadsTo (Ok next) state line = MayFollow state line × (state_at next ≡ added state line) × IsStage next
LeadsTo (Err line.Bad) state line = ¬ MayFollow state line
LeadsTo (Err line.Memory) state line = Unit {0}
