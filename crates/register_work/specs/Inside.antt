-- Words of private clauses. They need not be believed.
use Rattle.std.specs.Prelude.{◌≡◌, ℕ, List, ◌++◌, Option, None, Result, Ok, Err, ⊤}
use Rattle.std.specs.List.{flat_map}
use Rattle.desk_files.specs.Outside.{Answered, DeviceFailed, Ending, MemoryShort}
use Rattle.run_register.specs.Register.{RunMap}
use Rattle.report_format.specs.ReportFile.{IsBadReport}
use Rattle.replay_history.specs.declared.report.Report.{Report}
use Rattle.register_work.specs.declared.errand.ErrandErr.{ErrandErr}
use Rattle.register_work.specs.declared.errand.ErrandErr.TheVariants.{NotDone, Failed, Memory}
use Rattle.register_work.specs.declared.unkept.Unkept.{Unkept}
use Rattle.register_work.specs.declared.unkept.Unkept.TheVariants.{BadRun, NoRun}
use Rattle.register_work.specs.Errand.{AreRead, Finds, IsFirstBad}
use Rattle.register_work.specs.Lines.{run_line, runs_text}

-- ---- how a step ends

abbrev pub ending : {X : Type 0} → Result X ErrandErr → Ending
ending (Ok x) = Answered
ending (Err (NotDone cause)) = Answered
ending (Err Failed) = DeviceFailed
ending (Err Memory) = MemoryShort

-- where there is a cause, it is such a one
abbrev pub Stops : (Unkept → Type 0) → ErrandErr → Type 0
Stops Is (NotDone cause) = Is cause
Stops Is Failed = ⊤
Stops Is Memory = ⊤

-- the same of a step that asks no keeper
abbrev pub Refuses : (Unkept → Type 0) → ErrandErr → Type 0
Refuses Is (NotDone cause) = Is cause
Refuses Is Failed = ⊥
Refuses Is Memory = ⊤

-- ---- the causes of a step

-- there is no run of this name
abbrev pub IsMissing : Option RunMap → List ℕ → Unkept → Type 0
IsMissing runs name (NoRun other) = (other ≡ name) × Finds runs name None
IsMissing runs name other = ⊥

-- the bytes of the run of this name are no report
abbrev pub IsBadText : List ℕ → List ℕ → Unkept → Type 0
IsBadText name bytes (BadRun other line) = (other ≡ name) × IsBadReport bytes line
IsBadText name bytes other = ⊥

-- those of the first such one of these runs
abbrev pub IsBadIn : List (List ℕ × List ℕ) → Unkept → Type 0
IsBadIn runs (BadRun name line) = IsFirstBad runs name line
IsBadIn runs other = ⊥

-- ---- the list of all runs

-- the text got the lines of the reports of these runs
pub record GotRuns (runs : List (List ℕ × List ℕ)) (before after : List ℕ) : Type 0 where
  pub reads : List (List ℕ × Report)
  pub are_read : AreRead runs reads
  pub text : after ≡ before ++ flat_map (λ read. run_line read.0 read.1) reads

-- the text lists them
pub record AreListedBy (runs : List (List ℕ × List ℕ)) (listed : List ℕ) : Type 0 where
  pub reads : List (List ℕ × Report)
  pub are_read : AreRead runs reads
  pub text : listed ≡ runs_text reads
