-- What stands after calls of a keeper that change nothing, one after the other.
use Rattle.std.proofs.Common.{◌≡◌, ℕ, List, Option, Some, subst, ◌∙◌}
use Rattle.desk_files.specs.Outside.{Answered, Counts, Ending, Told}
use Rattle.replay_history.specs.declared.report.Report.{Report}
use Rattle.report_format.specs.ReportFile.{IsReport}
use Rattle.run_register.specs.Register.{DivergenceSet, RunMap}
use Rattle.register_work.specs.Errand.{Finds, IsRun}
use Rattle.register_work.specs.Keeping.{KeepsAll, Keeping}

-- what becomes of a keeper, by its parts
abbrev pub keeping_of : Option RunMap → Option RunMap → Option DivergenceSet → Option DivergenceSet → ℕ → ℕ → Keeping
keeping_of rb ra db da fb fa = record { runs_before = rb; runs_after = ra; divergences_before = db; divergences_after = da; faults_before = fb; faults_after = fa }

module _ (r0 r1 r2 : Option RunMap) (d0 d1 d2 : Option DivergenceSet) (f0 f1 f2 : ℕ) (first : KeepsAll (keeping_of r0 r1 d0 d1 f0 f1) Answered) where
  pub keeps_on : (ending : Ending) → KeepsAll (keeping_of r1 r2 d1 d2 f1 f2) ending → KeepsAll (keeping_of r0 r2 d0 d2 f0 f2) ending
  keeps_on ending second = record {
    runs = second.runs ∙ first.runs;
    divergences = second.divergences ∙ first.divergences;
    faults = subst (λ (f : ℕ). Counts ending f f2) first.faults second.faults;
  }

-- what is found after such a call was there before it
pub found_before : (r0 r1 : Option RunMap) (name bytes : List ℕ) → r1 ≡ r0 → Finds r1 name (Some bytes) → Finds r0 name (Some bytes)
found_before r0 r1 name bytes same found = subst (λ (r : Option RunMap). Finds r name (Some bytes)) same found

pub told_before : (d0 d1 : Option DivergenceSet) (P : DivergenceSet → Type 0) → d1 ≡ d0 → Told d1 P → Told d0 P
told_before d0 d1 P same told = subst (λ (d : Option DivergenceSet). Told d P) same told

pub is_run : (runs : Option RunMap) (name bytes slice : List ℕ) (report : Report) → Finds runs name (Some bytes) → slice ≡ bytes → IsReport slice report → IsRun runs name report
is_run runs name bytes slice report kept same text = record { bytes = bytes; kept = kept; text = subst (λ (b : List ℕ). IsReport b report) same text }
