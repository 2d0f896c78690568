-- The names of files in a folder: those of a capture, and those that a command writes.
use Rattle.std.specs.Prelude.{ℕ, zero, suc, ◌/◌, ◌%◌, List, [], ◌∷◌, ◌++◌, codes}
use Rattle.std.specs.Fmt.{decimal}

abbrev pub start_name : List ℕ → List ℕ
start_name folder = folder ++ codes "/start.cap"

-- a number below 1,000 in three digits, and what stands behind them
abbrev pub in_three_digits : ℕ → List ℕ → List ℕ
in_three_digits n rest = decimal (n / 100) ++ (decimal (n / 10 % 10) ++ (decimal (n % 10) ++ rest))

abbrev pub session_name : List ℕ → ℕ → List ℕ
session_name folder session = folder ++ (codes "/session-" ++ in_three_digits session (codes ".cap"))

-- those of the first so many sessions
abbrev pub session_names : List ℕ → ℕ → List (List ℕ)
session_names folder zero = []
session_names folder (suc n) = session_names folder n ++ session_name folder n ∷ []

abbrev pub journal_name : List ℕ → List ℕ
journal_name folder = folder ++ codes "/journal.txt"

abbrev pub report_name : List ℕ → List ℕ
report_name folder = folder ++ codes "/report.txt"

abbrev pub table_of_report_name : List ℕ → List ℕ
table_of_report_name folder = folder ++ codes "/report.csv"

abbrev pub tables_name : List ℕ → List ℕ
tables_name folder = folder ++ codes "/tables.txt"

abbrev pub maps_name : List ℕ → List ℕ
maps_name folder = folder ++ codes "/maps.csv"

abbrev pub fence_name : List ℕ → List ℕ
fence_name folder = folder ++ codes "/fence.txt"

abbrev pub causes_name : List ℕ → List ℕ
causes_name folder = folder ++ codes "/causes.csv"

abbrev pub page_name : List ℕ → List ℕ
page_name folder = folder ++ codes "/page.html"

abbrev pub requires_name : List ℕ → List ℕ
requires_name folder = folder ++ codes "/requires.csv"
