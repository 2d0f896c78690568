-- Where no call differs there are no causes, and where a job is not fenced no reads.
use Rattle.std.proofs.Common.{◌≡◌, ◌∙◌, suc, arith, Bool, true, false, List, [], ◌∷◌, length, map, refl, sym, ap, subst}
use Rattle.std.specs.Prelude.{◌↔◌, IsTrue, nat_eq, not}
use Rattle.std.proofs.lemmas.Bool.{both_ways, eqb-true, not-true}
use Rattle.desk_values.specs.declared.capture.Event.{Event}
use Rattle.replay_history.specs.declared.report.Line.{Line}
use Rattle.replay_history.specs.declared.report.Report.{Report}
use Rattle.replay_job.specs.Job.{JobView}
use Rattle.replay_report.specs.Report.{report_in}
use Rattle.divergence_cause.specs.declared.cause.CauseLine.{CauseLine}
use Rattle.divergence_cause.specs.Causes.{AreCauses}
use Rattle.replay_cli.specs.Done.{IsFenced}

pub not_fenced : (job : JobView) (fenced : Bool) → IsTrue fenced ↔ IsFenced job → not fenced ≡ true → ¬ IsFenced job
not_fenced job fenced told isnt is = both_ways fenced (not-true fenced isnt) (told.1 is)

empty_is : (lines : List Line) → nat_eq (length lines) 0 ≡ true → lines ≡ []
empty_is [] is = refl
empty_is (line ∷ lines) is = let none : suc (length lines) ≡ 0 = eqb-true (suc (length lines)) 0 is in absurd (omega (arith, none))

pub no_causes : (job : JobView) (history : List Event) (report : Report) → report ≡ report_in job history → nat_eq (length report.lines) 0 ≡ true → (causes : List CauseLine) → causes ≡ [] → AreCauses job history causes
no_causes job history report is empty causes none = subst (AreCauses job history) (sym none) (record {
  stamps = ap (map (λ (line : Line). line.stamp)) (sym (empty_is report.lines empty) ∙ ap (λ (r : Report). r.lines) is);
  causes = tt;
})
