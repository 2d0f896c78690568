-- What an errand to a keeper comes to: its answer, or the cause why there is none.
use Rattle.std.specs.Prelude.{◌≡◌, ◌≢◌, ℕ, ◌<◌, ◌≤◌, ◌⊎◌, Bool, true, false, List, [], ◌∷◌, ◌++◌, Option, None, Some}
use Rattle.std.specs.List.{list_any}
use Rattle.std.specs.Option.{option_map}
use Rattle.std.specs.FinMap.{entries, get}
use Rattle.desk_files.specs.Outside.{Answered, Counts, DeviceFailed, Ending, MemoryShort, Told}
use Rattle.replay_history.specs.declared.report.Class.{Class}
use Rattle.replay_history.specs.declared.report.Line.{Line}
use Rattle.replay_history.specs.declared.report.Report.{Report}
use Rattle.replay_history.specs.Class.{class_number}
use Rattle.report_format.specs.ReportFile.{IsBadReport, IsReport}
use Rattle.run_register.specs.declared.kept.Accept.{Accept as Accepted}
use Rattle.run_register.specs.declared.kept.KeepErr.{KeepErr}
use Rattle.run_register.specs.declared.kept.KeepErr.TheVariants as keep_err
use Rattle.run_register.specs.declared.comparison.Difference.{Difference}
use Rattle.run_register.specs.declared.comparison.Difference.TheVariants.{New, Gone, Changed}
use Rattle.run_register.specs.Comparison.{AreDifferences}
use Rattle.run_register.specs.Register.{RunMap, accepts_of, after_accepting, after_adding}
use Rattle.register_work.specs.declared.errand.Errand.{Errand}
use Rattle.register_work.specs.declared.errand.Errand.TheVariants.{Register, Runs, Accept, Compare}
use Rattle.register_work.specs.declared.errand.Answer.{Answer}
use Rattle.register_work.specs.declared.errand.ErrandErr.{ErrandErr}
use Rattle.register_work.specs.declared.errand.ErrandErr.TheVariants.{NotDone, Failed, Memory}
use Rattle.register_work.specs.declared.unkept.Unkept.{Unkept}
use Rattle.register_work.specs.declared.unkept.Unkept.TheVariants.{NoRun, OtherRun, BadRun, NoCall, OtherCapture}
use Rattle.register_work.specs.Keeping.{KeepsAll, Keeping}
use Rattle.register_work.specs.Lines.{accepted_line, comparison_text, registered_line, runs_text}

-- ---- what is kept

-- what is found under this name: the bytes of a run, or none
abbrev pub Finds : Option RunMap → List ℕ → Option (List ℕ) → Type 0
Finds runs name found = Told runs (λ told. get told name ≡ found)

-- a run of this name is kept, whose bytes are this report
pub record IsRun (runs : Option RunMap) (name : List ℕ) (report : Report) : Type 0 where
  pub bytes : List ℕ
  pub kept : Finds runs name (Some bytes)
  pub text : IsReport bytes report

-- a run of this name is kept, whose bytes are no report: this line is their first bad one
pub record IsBadRun (runs : Option RunMap) (name : List ℕ) (line : ℕ) : Type 0 where
  pub bytes : List ℕ
  pub kept : Finds runs name (Some bytes)
  pub bad : IsBadReport bytes line

-- these are all runs, with their bytes, ascending by name
abbrev pub AreRuns : Option RunMap → List (List ℕ × List ℕ) → Type 0
AreRuns runs all = Told runs (λ told. all ≡ entries told)

-- the reports that the bytes of these runs are, each behind its run's name
abbrev pub AreRead : List (List ℕ × List ℕ) → List (List ℕ × Report) → Type 0
AreRead [] [] = Unit {0}
AreRead (run ∷ runs) (read ∷ reads) = (read.0 ≡ run.0) × IsReport run.1 read.1 × AreRead runs reads
AreRead runs other = ⊥

-- all that is kept is reports
abbrev pub AreGood : RunMap → Type 0
AreGood runs = (name bytes : List ℕ) → get runs name ≡ Some bytes → (report : Report) × IsReport bytes report

-- of these runs those in front are read, and the next one, of this name, has this first bad line
pub record IsFirstBad (runs : List (List ℕ × List ℕ)) (name : List ℕ) (line : ℕ) : Type 0 where
  pub front : List (List ℕ × List ℕ)
  pub bytes : List ℕ
  pub rest : List (List ℕ × List ℕ)
  pub parts : runs ≡ front ++ (name, bytes) ∷ rest
  pub reads : List (List ℕ × Report)
  pub good : AreRead front reads
  pub bad : IsBadReport bytes line

-- ---- what is answered

-- the name was free or had just these bytes, and has them now
pub record IsRegistered (name bytes : List ℕ) (report : Report) (k : Keeping) (answer : Answer) : Type 0 where
  pub before : Told k.runs_before (λ told. (get told name ≡ None) ⊎ (get told name ≡ Some bytes))
  pub runs : k.runs_after ≡ option_map (after_adding Answered (name, bytes)) k.runs_before
  pub divergences : k.divergences_after ≡ k.divergences_before
  pub faults : k.faults_after ≡ k.faults_before
  pub text : answer.text ≡ registered_line name report
  pub news : answer.news ≡ false

-- all runs are listed
pub record IsListed (k : Keeping) (answer : Answer) : Type 0 where
  pub all : List (List ℕ × List ℕ)
  pub are_runs : AreRuns k.runs_before all
  pub reads : List (List ℕ × Report)
  pub are_read : AreRead all reads
  pub keeps : KeepsAll k Answered
  pub text : answer.text ≡ runs_text reads
  pub news : answer.news ≡ false

-- the run has such a call, and from now on a divergence of it of this class is accepted
pub record IsAccepted (name : List ℕ) (stamp : ℕ) (class : Class) (k : Keeping) (answer : Answer) : Type 0 where
  pub report : Report
  pub run : IsRun k.runs_before name report
  pub call : stamp < report.calls
  pub runs : k.runs_after ≡ k.runs_before
  pub divergences : k.divergences_after ≡ option_map (after_accepting Answered (name, (stamp, class_number class))) k.divergences_before
  pub faults : k.faults_after ≡ k.faults_before
  pub text : answer.text ≡ accepted_line name stamp class
  pub news : answer.news ≡ false

-- the second run differs there, and the first does not or does by another class
abbrev pub is_news : Difference → Bool
is_news (New l) = true
is_news (Gone l) = false
is_news (Changed l class) = true

-- these lines of a first run and of a second are compared, less what was accepted
pub record TellsDifferences (a b : List ℕ) (first second : List Line) (accepted : List Accepted) (answer : Answer) : Type 0 where
  pub found : List Difference
  pub differences : AreDifferences first second accepted found
  pub text : answer.text ≡ comparison_text a b found
  pub news : answer.news ≡ list_any is_news found

-- two runs of as many calls are, less what was accepted of the first
pub record IsCompared (a b : List ℕ) (k : Keeping) (answer : Answer) : Type 0 where
  pub first : Report
  pub second : Report
  pub first_run : IsRun k.runs_before a first
  pub second_run : IsRun k.runs_before b second
  pub calls : first.calls ≡ second.calls
  pub accepted : List Accepted
  pub are_accepted : Told k.divergences_before (λ told. accepted ≡ accepts_of a told)
  pub tells : TellsDifferences a b first.lines second.lines accepted answer
  pub keeps : KeepsAll k Answered

abbrev pub IsAnswered : Errand → Keeping → Answer → Type 0
IsAnswered (Register name bytes report) = IsRegistered name bytes report
IsAnswered Runs = IsListed
IsAnswered (Accept name stamp class) = IsAccepted name stamp class
IsAnswered (Compare a b) = IsCompared a b

-- ---- what is not done, and why

-- The causes of each errand. What stands before a cause in the list of all did not hold, and a first run goes before the second.
abbrev pub IsCause : Errand → Option RunMap → Unkept → Type 0
IsCause (Register name bytes report) runs (OtherRun other) = (other ≡ name) × Told runs (λ told. (kept : List ℕ) × (get told name ≡ Some kept) × (kept ≢ bytes))
IsCause Runs runs (BadRun name line) = (all : List (List ℕ × List ℕ)) × AreRuns runs all × IsFirstBad all name line
IsCause (Accept name stamp class) runs (NoRun other) = (other ≡ name) × Finds runs name None
IsCause (Accept name stamp class) runs (BadRun other line) = (other ≡ name) × IsBadRun runs name line
IsCause (Accept name stamp class) runs (NoCall other) = (other ≡ stamp) × ((report : Report) × IsRun runs name report × (report.calls ≤ stamp))
IsCause (Compare a b) runs (NoRun other) = ((other ≡ a) × Finds runs a None) ⊎ ((other ≡ b) × ((bytes : List ℕ) × Finds runs a (Some bytes)) × Finds runs b None)
IsCause (Compare a b) runs (BadRun other line) =
    ((other ≡ a) × IsBadRun runs a line × ((bytes : List ℕ) × Finds runs b (Some bytes)))
    ⊎ ((other ≡ b) × ((first : Report) × IsRun runs a first) × IsBadRun runs b line)
IsCause (Compare a b) runs (OtherCapture one n other m) =
    (one ≡ a) × (other ≡ b) × ((first : Report) × (second : Report) × IsRun runs a first × IsRun runs b second × (n ≡ first.calls) × (m ≡ second.calls) × (n ≢ m))
IsCause errand runs other = ⊥

-- a refusal of the keeper itself
abbrev pub of_keeper : KeepErr → ErrandErr
of_keeper keep_err.Failed = Failed
of_keeper keep_err.Memory = Memory

-- an errand that is not done leaves all as it was: for one of its causes, where the keeper failed, or for want of memory
abbrev pub IsNotDone : Errand → Keeping → ErrandErr → Type 0
IsNotDone errand k (NotDone cause) = IsCause errand k.runs_before cause × KeepsAll k Answered
IsNotDone errand k Failed = KeepsAll k DeviceFailed
IsNotDone errand k Memory = KeepsAll k MemoryShort

-- ---- a keeper that could not be closed

-- what becomes of a keeper, but for the faults behind what it answered
abbrev pub unfailed : Keeping → Keeping
unfailed k = record k { faults_after = k.faults_before }

-- an errand was answered, and then the keeper could not be closed
pub record IsUnclosed (errand : Errand) (k : Keeping) (ending : Ending) : Type 0 where
  pub answer : Answer
  pub answered : IsAnswered errand (unfailed k) answer
  pub faults : Counts ending k.faults_before k.faults_after
