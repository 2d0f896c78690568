-- The file of a journal: its lines as a form, and the bytes of a mode and a history.
use Rattle.std.specs.Prelude.{◌≡◌, ℕ, Bool, true, false, List, [], ◌∷◌, ◌++◌, codes}
use Rattle.std.specs.List.{AllByRecursion}
use Rattle.desk_values.specs.declared.capture.Event.{Event as AnyEvent}
use Rattle.file_lines.specs.File.{IsBadAt}
use Rattle.file_lines.specs.Form.{Form, Comes}
use Rattle.replay_history.specs.declared.mode.Mode.{Mode}
use Rattle.replay_history.specs.Mode.{mode_word}
use Rattle.replay_history.specs.Texts.{event_text, journal_text}
use Rattle.replay_job.specs.Events.{IsEvent}
use Rattle.replay_report.specs.declared.journal.Stage.{Stage}
use Rattle.replay_report.specs.declared.journal.Stage.TheVariants.{Empty, Headed, Ended}
use Rattle.replay_report.specs.declared.journal_line.JournalLine.{JournalLine}
use Rattle.replay_report.specs.declared.journal_line.JournalLine.TheVariants.{Head, Event, End}
use Rattle.replay_report.specs.JournalView.{JournalView}

-- the text of a line, without its line feed
abbrev pub journal_line_text : JournalLine → List ℕ
journal_line_text (Head mode) = codes "journal 1 " ++ mode_word mode
journal_line_text (Event event) = event_text event
journal_line_text End = codes "end"

-- a line that has a text
abbrev pub IsJournalLine : JournalLine → Type 0
IsJournalLine (Head mode) = Unit {0}
IsJournalLine (Event event) = IsEvent event
IsJournalLine End = Unit {0}

abbrev pub is_headed : Stage → Bool
is_headed (Headed mode) = true
is_headed other = false

abbrev pub is_last : Stage → Bool
is_last (Ended mode) = true
is_last other = false

-- the mode comes first, and nothing follows the end
abbrev pub MayCome : JournalView → JournalLine → Type 0
MayCome s (Head mode) = s.stage ≡ Empty
MayCome s (Event event) = is_headed s.stage ≡ true
MayCome s End = is_headed s.stage ≡ true

-- behind the end of the lines with this mode
abbrev pub ended : Stage → Stage
ended (Headed mode) = Ended mode
ended other = other

-- what a line adds
abbrev pub with_line : JournalView → JournalLine → JournalView
with_line s (Head mode) = record s { stage = Headed mode }
with_line s (Event event) = record s { events = s.events ++ event ∷ [] }
with_line s End = record s { stage = ended s.stage }

-- before the first line
abbrev pub new_view : JournalView
new_view = record { stage = Empty; events = [] }

abbrev pub is_ended : JournalView → Bool
is_ended s = is_last s.stage

abbrev pub journal_form : Form JournalView JournalLine
journal_form = record { Fits = IsJournalLine; text = journal_line_text; May = MayCome; added = with_line }

-- the line of this number is the first that is not whole or may not come
abbrev pub IsBadJournal : List ℕ → ℕ → Type 0
IsBadJournal bytes n = IsBadAt (Comes journal_form) is_ended new_view 1 bytes n

-- the bytes are the journal of this mode and history, whose parts are within the limits of their types
pub record IsJournal (bytes : List ℕ) (mode : Mode) (history : List AnyEvent) : Type 0 where
  pub fit : AllByRecursion IsEvent history
  pub text : bytes ≡ journal_text mode history
