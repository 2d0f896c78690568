-- What the line of a journal says, where it says something.
use Rattle.std.specs.Prelude.{ℕ, ◌^◌, if◌then◌else◌, List, Option, None, Some, codes}
use Rattle.std.specs.Option.{option_map}
use Rattle.std.specs.Str.{bytes_eq}
use Rattle.desk_values.specs.declared.capture.Event.TheVariants.{Start, Answer}
use Rattle.desk_values.specs.Fields.{cut_at}
use Rattle.desk_values.specs.Reading.{◌>>=◌, number_of, number_below}
use Rattle.capture_format.specs.Inside.Fields.{two_of}
use Rattle.capture_format.specs.ReplyReading.{reply_of}
use Rattle.replay_history.specs.Mode.{mode_of}
use Rattle.replay_report.specs.declared.journal_line.JournalLine.{JournalLine}
use Rattle.replay_report.specs.declared.journal_line.JournalLine.TheVariants.{Head, Event, End}

-- the version of the format
unfoldable pub version_of : List ℕ → Option (Unit {0})
version_of bytes = if bytes_eq bytes (codes "1") then Some tt else None

-- what a line with this first field says
unfoldable pub line_behind : List ℕ → List ℕ → Option JournalLine
line_behind word rest = if bytes_eq word (codes "journal") then option_map (λ p. Head p.1) (two_of 32 version_of mode_of rest)
    else (if bytes_eq word (codes "s") then option_map (λ p. Event (Start p.0 p.1)) (two_of 32 (number_below (2 ^ 32)) number_of rest)
    else (if bytes_eq word (codes "a") then option_map (λ p. Event (Answer p.0 p.1)) (two_of 32 (number_below (2 ^ 32)) reply_of rest)
    else None))

-- a line of several fields
unfoldable pub worded_of : List ℕ → Option JournalLine
worded_of bytes = do
  parts ← cut_at 32 bytes
  line_behind parts.0 parts.1

-- the line of a journal: the last, or one of several fields
unfoldable pub journal_line_of : List ℕ → Option JournalLine
journal_line_of bytes = if bytes_eq bytes (codes "end") then Some End else worded_of bytes
