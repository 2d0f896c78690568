-- What is shown of a replay, as the code holds it.
use Rattle.std.specs.Prelude.{◌≤◌, List, length}
use Rattle.std.specs.List.{AllByRecursion}
use Rattle.desk_values.specs.declared.capture.Event.{Event}
use Rattle.replay_history.specs.declared.mode.Mode.{Mode}
use Rattle.replay_history.specs.Limits.{call_limit}
use Rattle.replay_report.specs.declared.journal.Journal.{Journal}
use Rattle.run_files.specs.Fitting.{seen as run_seen}
use Rattle.replay_page.specs.Data.{IsQuietFile}
use Rattle.replay_show.specs.Shown.{HaveStamps}
use Rattle.replay_cli.specs.Decision.{Left, MayBeTogether, Together}
use Rattle.replay_cli.specs.Inside.Work.{legal_of}
use Rattle.replay_cli.specs.declared.showing.Left.{Left as HeldLeft}
use Rattle.replay_cli.specs.declared.showing.Together.{Together as HeldTogether}

abbrev pub journal_seen : Journal → Mode × List Event
journal_seen journal = (journal.mode, journal.history.items)

abbrev pub left_seen : HeldLeft → Left
left_seen left = record { run = run_seen left.run; files = left.files }

abbrev pub together_seen : HeldTogether → Together
together_seen t = record { legal = legal_of t.legal; left = left_seen t.left; captured = t.captured }

-- no file of a run has a byte that a page may not have
abbrev pub IsQuietLeft : HeldLeft → Type 0
IsQuietLeft left = AllByRecursion IsQuietFile left.files

-- nor has one of the capture; and there are facts of each call, which stand at their stamps; the tests take the capture, and the run goes
-- together with it
pub record IsWhole (t : HeldTogether) : Type 0 where
  pub left : IsQuietLeft t.left
  pub captured : AllByRecursion IsQuietFile t.captured
  pub facts : length t.legal.facts ≤ call_limit
  pub count : length t.legal.calls.items ≤ length t.legal.facts
  pub stamps : HaveStamps t.legal.calls.items
  pub together : MayBeTogether (together_seen t)
