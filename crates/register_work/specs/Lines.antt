-- The lines of what is asked of a keeper, and the status and the line of each cause why it is not done.
use Rattle.std.specs.Prelude.{ℕ, List, [], ◌∷◌, ◌++◌, codes, length}
use Rattle.std.specs.List.{flat_map}
use Rattle.std.specs.Fmt.{decimal}
use Rattle.replay_history.specs.declared.report.Class.{Class}
use Rattle.replay_history.specs.declared.report.Report.{Report}
use Rattle.replay_history.specs.Class.{class_word}
use Rattle.replay_history.specs.Texts.{line, line_text}
use Rattle.run_register.specs.declared.comparison.Difference.{Difference}
use Rattle.run_register.specs.declared.comparison.Difference.TheVariants.{New, Gone, Changed}
use Rattle.register_work.specs.declared.unkept.Unkept.{Unkept}
use Rattle.register_work.specs.declared.unkept.Unkept.TheVariants.{NoRun, OtherRun, BadRun, NoCall, OtherCapture}

-- how many, and of what
abbrev pub counted : ℕ → List ℕ → List ℕ
counted n words = decimal n ++ words

-- how many calls a run has, and how many of them differ
abbrev pub counts_text : Report → List ℕ
counts_text report = counted report.calls (codes " calls, ") ++ counted (length report.lines) (codes " divergent\n")

-- a run that is registered
abbrev pub registered_line : List ℕ → Report → List ℕ
registered_line name report = codes "registered " ++ (name ++ (codes ": " ++ counts_text report))

-- the same of a run in the list of all
abbrev pub run_line : List ℕ → Report → List ℕ
run_line name report = name ++ 32 ∷ (decimal report.calls ++ 32 ∷ (decimal (length report.lines) ++ 10 ∷ []))

-- how many runs there are, and their lines
abbrev pub runs_text : List (List ℕ × Report) → List ℕ
runs_text runs = codes "runs " ++ (decimal (length runs) ++ 10 ∷ flat_map (λ run. run_line run.0 run.1) runs)

abbrev pub accepted_line : List ℕ → ℕ → Class → List ℕ
accepted_line name stamp class = codes "accepted " ++ (name ++ 32 ∷ (decimal stamp ++ 32 ∷ (class_word class ++ 10 ∷ [])))

abbrev pub difference_line : Difference → List ℕ
difference_line (New l) = codes "new " ++ line (line_text l)
difference_line (Gone l) = codes "gone " ++ line (line_text l)
difference_line (Changed l class) = codes "changed " ++ (line_text l ++ 32 ∷ (class_word class ++ 10 ∷ []))

-- the second run beside the first, with what differs
abbrev pub comparison_text : List ℕ → List ℕ → List Difference → List ℕ
comparison_text a b found = codes "compare " ++ (a ++ 32 ∷ (b ++ 10 ∷ (flat_map difference_line found ++ codes "end\n")))

-- ---- what is not done

-- a text that is no report, with its first bad line
abbrev pub bad_report_line : List ℕ → ℕ → List ℕ
bad_report_line name number = codes "bad report: " ++ (name ++ (codes " line " ++ (decimal number ++ 10 ∷ [])))

abbrev pub unkept_status : Unkept → ℕ
unkept_status (NoRun name) = 11
unkept_status (OtherRun name) = 12
unkept_status (BadRun name number) = 13
unkept_status (NoCall stamp) = 14
unkept_status (OtherCapture a n b m) = 15

abbrev pub unkept_line : Unkept → List ℕ
unkept_line (NoRun name) = codes "no such run: " ++ (name ++ 10 ∷ [])
unkept_line (OtherRun name) = codes "other run: " ++ (name ++ 10 ∷ [])
unkept_line (BadRun name number) = bad_report_line name number
unkept_line (NoCall stamp) = codes "no such call: stamp " ++ (decimal stamp ++ 10 ∷ [])
unkept_line (OtherCapture a n b m) = codes "other capture: " ++ (a ++ 32 ∷ (decimal n ++ (codes ", " ++ (b ++ 32 ∷ (decimal m ++ 10 ∷ [])))))
