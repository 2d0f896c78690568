-- A whole file, and the start that it declares.
use Rattle.std.specs.Prelude.{ℕ, ◌≡◌, ◌≤◌, List}
use Rattle.desk_schema.specs.declared.line.StartLine.{StartLine}
use Rattle.desk_values.specs.Limits.{session_limit}
use Rattle.desk_schema.specs.Start.{StartView, lines_of, file_lines}
use Rattle.desk_schema.specs.State.{state_of}
use Rattle.desk_schema.specs.Rules.{AreLines}

-- a start keeps the rules where its lines do, and declare just this start
pub record IsStart (start : StartView) : Type 0 where
  pub lines : AreLines (lines_of start)
  pub declared : (state_of (lines_of start)).start ≡ start

-- the lines of a whole file: the last is `end`
pub record IsFile (lines : List StartLine) : Type 0 where
  pub are_lines : AreLines lines
  pub ended : (state_of lines).last ≡ 10

-- a file declares a start that keeps the rules and a number of sessions, and is their lines
pub record IsFileOf (lines : List StartLine) (start : StartView) (sessions : ℕ) : Type 0 where
  pub is_start : IsStart start
  pub limit : sessions ≤ session_limit
  pub same : file_lines start sessions ≡ lines
