-- The limits of what a command says.
use Rattle.std.specs.Prelude.{◌≡◌, ◌≢◌, ◌≤◌, IfSome, None, is_some, ℕ, length, true}
use Rattle.clap.specs.Words.{Text}
use Rattle.replay_history.specs.declared.report.Class.TheVariants.{Same}
use Rattle.replay_history.specs.Limits.{percent_limit}
use Rattle.desk_words.specs.Limits.{connection_limit, generated_limit, lane_limit, path_limit, port_limit, run_limit}
use Rattle.desk_words.specs.Command.{is_run_name}
use Rattle.desk_words.specs.declared.ways.Ways.{Ways}
use Rattle.desk_words.specs.declared.words.Command.{Command}
use Rattle.desk_words.specs.declared.words.Command.TheVariants.{Run, Prepare, Serve, Generate, Trial, Register, Runs, Accept, Compare, Page, Show}

abbrev pub IsBetween : ℕ → ℕ → ℕ → Type 0
IsBetween least most n = (least ≤ n) × (n ≤ most)

abbrev pub IsPath : Text → Type 0
IsPath text = IsBetween 1 path_limit (length text)

abbrev pub IsRunName : Text → Type 0
IsRunName text = (length text ≤ run_limit) × (is_run_name text ≡ true)

abbrev pub IsLaneCount : ℕ → Type 0
IsLaneCount n = IsBetween 1 lane_limit n

abbrev pub IsCallCount : ℕ → Type 0
IsCallCount n = IsBetween 1 generated_limit n

abbrev pub IsPort : ℕ → Type 0
IsPort n = IsBetween 1 port_limit n

pub record HasWays (ways : Ways) : Type 0 where
  pub think : ways.think ≤ percent_limit
  pub connect : ways.connect ≤ percent_limit
  pub remap : IfSome ways.remap IsPath
  pub change : IfSome ways.change IsPath
  pub lanes : IfSome ways.lanes IsLaneCount
  pub target : IfSome ways.target IsPort
  -- with a target there is no change file
  pub alone : is_some ways.change ≡ true → ways.target ≡ None

abbrev pub IsWithinLimits : Command → Type 0
IsWithinLimits (Run capture out ways) = IsPath capture × IsPath out × HasWays ways
IsWithinLimits (Prepare capture out) = IsPath capture × IsPath out
IsWithinLimits (Serve capture start connections port) = IsPath capture × IsPath start × IsBetween 1 connection_limit connections × IsPort port
IsWithinLimits (Generate calls out) = IsCallCount calls × IsPath out
IsWithinLimits (Trial calls) = IsCallCount calls
IsWithinLimits (Register out run) = IsPath out × IsRunName run
IsWithinLimits Runs = Unit {0}
IsWithinLimits (Accept run stamp class) = IsRunName run × (class ≢ Same)
IsWithinLimits (Compare base other) = IsRunName base × IsRunName other
IsWithinLimits (Page capture out) = IsPath capture × IsPath out
IsWithinLimits (Show capture out stamp) = IsPath capture × IsPath out
