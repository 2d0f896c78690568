-- Which words are a command, and which command.
use Rattle.std.specs.Prelude.{ℕ, ◌&&◌, ◌||◌, ◌==◌, nat_le, Bool, false, if◌then◌else◌, List, [], ◌∷◌, length, codes, Option, None, Some, is_some, option_map}
use Rattle.std.specs.List.{list_all}
use Rattle.std.specs.Option.{option_map_or}
use Rattle.std.specs.Str.{bytes_eq}
use Rattle.clap.specs.Words.{Row, Text, fault_of, first_of, subcommand_of}
use Rattle.clap.specs.Walk.{is_empty}
use Rattle.desk_values.specs.Reading.{◌>>=◌, number_of}
use Rattle.desk_values.specs.Word.{member_with_word}
use Rattle.replay_history.specs.Class.{all_classes, class_word}
use Rattle.replay_history.specs.declared.report.Class.{Class}
use Rattle.replay_history.specs.declared.report.Class.TheVariants.{Same}
use Rattle.replay_history.specs.Limits.{percent_limit}
use Rattle.replay_history.specs.Mode.{mode_of}
use Rattle.replay_history.specs.declared.mode.Mode.TheVariants.{Order}
use Rattle.desk_words.specs.Desk.{desk}
use Rattle.desk_words.specs.Limits.{connection_limit, default_port, generated_limit, lane_limit, path_limit, port_limit, run_limit, whole}
use Rattle.desk_words.specs.declared.ways.Ways.{Ways}
use Rattle.desk_words.specs.declared.words.Command.{Command}
use Rattle.desk_words.specs.declared.words.Command.TheVariants.{Run, Prepare, Serve, Generate, Trial, Register, Runs, Accept, Compare, Page, Show}

-- ---- which values are good

-- a path: 1 to 900 bytes
abbrev pub path_in : Text → Option Text
path_in text = if nat_le 1 (length text) && nat_le (length text) path_limit then Some text else None

abbrev pub between : ℕ → ℕ → ℕ → Option ℕ
between least most n = if nat_le least n && nat_le n most then Some n else None

-- a number between these, in digits without a leading zero
abbrev pub number_in : ℕ → ℕ → Text → Option ℕ
number_in least most text = number_of text >>= between least most

-- a percentage
abbrev pub percent_in : Text → Option ℕ
percent_in text = number_in 0 percent_limit text

abbrev pub is_lower : ℕ → Bool
is_lower byte = nat_le 97 byte && nat_le byte 122

abbrev pub is_name_byte : ℕ → Bool
is_name_byte byte = is_lower byte || (nat_le 48 byte && nat_le byte 57) || byte == 95

abbrev pub begins_with_letter : Text → Bool
begins_with_letter [] = false
begins_with_letter (first ∷ others) = is_lower first

-- a small letter comes first, and all are small letters, digits and `_`
abbrev pub is_run_name : Text → Bool
is_run_name text = begins_with_letter text && list_all is_name_byte text

-- the name of a run: such a text of at most 30 bytes
abbrev pub run_name_in : Text → Option Text
run_name_in text = if nat_le (length text) run_limit && is_run_name text then Some text else None

-- how a call may differ: all but the same
abbrev pub differing : Class → Option Class
differing Same = None
differing class = Some class

-- a class by which a call differs, by its word
abbrev pub class_in : Text → Option Class
class_in text = member_with_word class_word all_classes text >>= differing

-- ---- where they stand

-- the good value at a place
abbrev pub placed : {X : Type 0} → Text → (Text → Option X) → List Row → Option X
placed name good values = first_of name values >>= good

-- the good value of an option; where the option is not said, what it then is
abbrev pub chosen : {X : Type 0} → Text → (Text → Option X) → X → List Row → Option X
chosen name good unsaid values = option_map_or good (first_of name values) (Some unsaid)

-- the same, of an option without which nothing stands there
abbrev pub maybe : {X : Type 0} → Text → (Text → Option X) → List Row → Option (Option X)
maybe name good values = chosen name (λ text. option_map Some (good text)) None values

-- ---- what they make

-- the server of a target has the start that it has: a change file can't be said of it
abbrev pub fitting : Ways → Option Ways
fitting ways = if is_some ways.change && is_some ways.target then None else Some ways

abbrev pub ways_in : List Row → Option Ways
ways_in values = do
  mode ← chosen (codes "mode") mode_of Order values
  think ← chosen (codes "think") percent_in whole values
  connect ← chosen (codes "connect") percent_in whole values
  remap ← maybe (codes "remap") path_in values
  change ← maybe (codes "change") path_in values
  lanes ← maybe (codes "lanes") (number_in 1 lane_limit) values
  target ← maybe (codes "target") (number_in 1 port_limit) values
  fitting (record { mode = mode; think = think; connect = connect; remap = remap; change = change; lanes = lanes; target = target })

abbrev pub run_in : List Row → Option Command
run_in values = do
  capture ← placed (codes "capture") path_in values
  out ← placed (codes "out") path_in values
  ways ← ways_in values
  Some (Run capture out ways)

abbrev pub prepare_in : List Row → Option Command
prepare_in values = do
  capture ← placed (codes "capture") path_in values
  out ← placed (codes "out") path_in values
  Some (Prepare capture out)

abbrev pub serve_in : List Row → Option Command
serve_in values = do
  capture ← placed (codes "capture") path_in values
  start ← placed (codes "start") path_in values
  connections ← placed (codes "connections") (number_in 1 connection_limit) values
  port ← chosen (codes "port") (number_in 1 port_limit) default_port values
  Some (Serve capture start connections port)

abbrev pub generate_in : List Row → Option Command
generate_in values = do
  calls ← placed (codes "calls") (number_in 1 generated_limit) values
  out ← placed (codes "out") path_in values
  Some (Generate calls out)

abbrev pub trial_in : List Row → Option Command
trial_in values = option_map Trial (placed (codes "calls") (number_in 1 generated_limit) values)

abbrev pub register_in : List Row → Option Command
register_in values = do
  out ← placed (codes "out") path_in values
  run ← placed (codes "run") run_name_in values
  Some (Register out run)

-- the stamp may be any number: whether the run has such a call is not asked here
abbrev pub accept_in : List Row → Option Command
accept_in values = do
  run ← placed (codes "run") run_name_in values
  stamp ← placed (codes "stamp") number_of values
  class ← placed (codes "class") class_in values
  Some (Accept run stamp class)

abbrev pub compare_in : List Row → Option Command
compare_in values = do
  base ← placed (codes "base") run_name_in values
  other ← placed (codes "other") run_name_in values
  Some (Compare base other)

abbrev pub page_in : List Row → Option Command
page_in values = do
  capture ← placed (codes "capture") path_in values
  out ← placed (codes "out") path_in values
  Some (Page capture out)

-- the stamp may be any number, or be missing
abbrev pub show_in : List Row → Option Command
show_in values = do
  capture ← placed (codes "capture") path_in values
  out ← placed (codes "out") path_in values
  stamp ← maybe (codes "stamp") number_of values
  Some (Show capture out stamp)

-- the command with this first word, by the values that were found behind it
abbrev pub command_in : Text × List Row → Option Command
command_in found =
    if bytes_eq found.0 (codes "run") then run_in found.1
    else if bytes_eq found.0 (codes "prepare") then prepare_in found.1
    else if bytes_eq found.0 (codes "serve") then serve_in found.1
    else if bytes_eq found.0 (codes "generate") then generate_in found.1
    else if bytes_eq found.0 (codes "trial") then trial_in found.1
    else if bytes_eq found.0 (codes "register") then register_in found.1
    else if bytes_eq found.0 (codes "runs") then Some Runs
    else if bytes_eq found.0 (codes "accept") then accept_in found.1
    else if bytes_eq found.0 (codes "compare") then compare_in found.1
    else if bytes_eq found.0 (codes "page") then page_in found.1
    else if bytes_eq found.0 (codes "show") then show_in found.1
    else None

-- `clap` takes the words: there is no error that it gives for them
abbrev pub is_taken : List Text → Bool
is_taken words = is_empty (fault_of desk words)

-- The command that the words are: `clap` takes them, and each value that it finds is good.
unfoldable pub command_of : List Text → Option Command
command_of words = if is_taken words then subcommand_of desk words >>= command_in else None
