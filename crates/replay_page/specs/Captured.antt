-- The files of a capture by their names in its folder.
use Rattle.std.specs.Prelude.{ℕ, ◌+◌, ◌/◌, ◌%◌, List, [], ◌∷◌, ◌++◌, codes, length}
use Rattle.std.specs.Fmt.{decimal}
use Rattle.std.specs.List.{AllByRecursion}
use Rattle.desk_values.specs.declared.capture.Captured.{Captured}
use Rattle.desk_schema.specs.Start.{StartView}
use Rattle.capture_format.specs.SessionFile.{IsCallLine, MayTellAll, line_of, session_text}
use Rattle.capture_format.specs.StartFile.{start_text}
use Rattle.replay_page.specs.declared.page.NamedText.{NamedText}

-- a number below 1,000 in three digits, and what stands behind them
abbrev pub in_three_digits : ℕ → List ℕ → List ℕ
in_three_digits n rest = decimal (n / 100) ++ (decimal (n / 10 % 10) ++ (decimal (n % 10) ++ rest))

abbrev pub session_name : ℕ → List ℕ
session_name session = codes "session-" ++ in_three_digits session (codes ".cap")

-- the files of sessions, from this one on
abbrev pub session_files : ℕ → ℕ → List (List Captured) → List NamedText
session_files version session [] = []
session_files version session (calls ∷ lists) = record { name = session_name session; bytes = session_text session version calls } ∷ session_files version (session + 1) lists

-- those of the sessions, and the start
abbrev pub captured_files : StartView → List (List Captured) → List NamedText
captured_files start lists = session_files start.schema.version 0 lists ++ record { name = codes "start.cap"; bytes = start_text start (length lists) } ∷ []

-- calls that the file of a session of this version may have: with replies that its server may give, and within the limits of its lines
pub record AreSpelled (version : ℕ) (calls : List Captured) : Type 0 where
  pub told : MayTellAll version calls
  pub fit : AllByRecursion (λ call. IsCallLine (line_of call)) calls
