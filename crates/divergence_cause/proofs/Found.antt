-- The lines of the causes.
use Rattle.std.proofs.Common.{◌≡◌, ◌∙◌, ℕ, ◌<◌, Bool, true, false, List, [], ◌∷◌, length, map, refl, sym, ap, subst}
use Rattle.std.specs.Prelude.{◌↔◌}
use Rattle.std.specs.List.{AllByRecursion, Contains}
use Rattle.std.proofs.lemmas.Bool.{false≢true}
use Rattle.std.proofs.lemmas.Option.{slice_get_within}
use Rattle.desk_schema.proofs.Members.{Contains-here, Contains-there}
use Rattle.desk_values.specs.declared.capture.Event.{Event}
use Rattle.replay_history.specs.declared.report.Line.{Line}
use Rattle.replay_job.specs.Job.{JobView}
use Rattle.replay_job.specs.Runs.{Stage}
use Rattle.replay_report.specs.Report.{report_in}
use Rattle.replay_report.proofs.Reports.{stand_where}
use Rattle.law_replays.specs.End.Answers.{IsReplay}
use Rattle.replay_walk.specs.Walked.{AreTold, MeetsTheSame, marked_at}
use Rattle.divergence_cause.specs.declared.cause.CauseLine.{CauseLine}
use Rattle.divergence_cause.specs.Causes.{AreCauses, IsCause, marked_by}
use Rattle.divergence_cause.specs.Inside.{cause_at, cause_by, line_with}
use Rattle.divergence_cause.proofs.Marking.{line_marked}

module _ (job : JobView) (history : List Event) (last : Stage) (replay : IsReplay job history last) (lines : List Line) (lines_are : lines ≡ (report_in job history).lines)
    (twins : List Bool) (told : AreTold job history (marked_by (length job.calls) lines) twins) where
  caused : (k : ℕ) (twin : Bool) → (twin ≡ true) ↔ MeetsTheSame job history k → IsCause job history k (cause_by twin)
  caused k true told_so = told_so.0 refl
  caused k false told_so = λ meets. false≢true (told_so.1 meets)

  one_found : (line : Line) → Contains lines line → IsCause job history line.stamp (cause_at twins line.stamp)
  one_found line named =
      let stands = (stand_where job history line (λ n c at. (replay.sound.replayable.legal.each n c at).stamp)).0 (subst (λ (ls : List Line). Contains ls line) lines_are named) in
      let within = slice_get_within job.calls line.stamp stands.call stands.at in
      caused line.stamp (marked_at twins line.stamp) (told.each line.stamp within (line_marked (length job.calls) lines line named within))

  each_found : (some : List Line) → ((line : Line) → Contains some line → Contains lines line) → AllByRecursion (λ (line : CauseLine). IsCause job history line.stamp line.cause) (map (line_with twins) some)
  each_found [] within = tt
  each_found (line ∷ some) within = (
    one_found line (within line (Contains-here line some)),
    each_found some (λ other c. within other (Contains-there line some other c)),
  )

  same_stamps : (some : List Line) → map (λ (line : CauseLine). line.stamp) (map (line_with twins) some) ≡ map (λ (line : Line). line.stamp) some
  same_stamps [] = refl
  same_stamps (line ∷ some) = ap (λ (stamps : List ℕ). line.stamp ∷ stamps) (same_stamps some)

  pub are_causes : AreCauses job history (map (line_with twins) lines)
  are_causes = record {
    stamps = same_stamps lines ∙ ap (map (λ (line : Line). line.stamp)) lines_are;
    causes = each_found lines (λ line c. c);
  }
