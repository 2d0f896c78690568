-- The pairs of a replay are those of the start, and then what each answer brought.
use Rattle.std.proofs.Common.{◌≡◌, List, [], ◌∷◌, ◌++◌, Option, sym, ap, ◌∙◌, append_assoc, append-nil}
use Rattle.desk_values.specs.declared.capture.Captured.{Captured}
use Rattle.desk_values.specs.declared.capture.Event.{Event}
use Rattle.desk_values.specs.declared.capture.Event.TheVariants.{Start, Answer}
use Rattle.replay_history.specs.History.{IsTruthfulHistory}
use Rattle.id_pairs.specs.Pairs.{IdPair, learnt}
use Rattle.replay_job.specs.Job.{JobView}
use Rattle.replay_job.specs.Runs.{Executes, Stage, first_stage, learnt_from, learnt_in}
use Rattle.law_ids.specs.Replays.Laws.{PairsAreLearnt}

module _ (job : JobView) where
  pairs_from : (first : Stage) (events : List Event) (last : Stage) → IsTruthfulHistory (Executes job) first events last → last.pairs ≡ first.pairs ++ learnt_in job.calls events
  pairs_from first [] last h = ap (λ (s : Stage). s.pairs) (sym h) ∙ sym (append-nil first.pairs)
  pairs_from first (Start k pause ∷ events) last h = pairs_from first events last h
  pairs_from first (Answer k reply ∷ events) last h =
      let rest = learnt_in job.calls events in
      pairs_from h.0 events last h.2 ∙ ap (λ (pairs : List IdPair). pairs ++ rest) h.1.3 ∙ append_assoc first.pairs (learnt h.1.0.reply reply) rest
      ∙ ap (λ (o : Option Captured). first.pairs ++ (learnt_from o reply ++ rest)) (sym h.1.1)

pub pairs_learnt : PairsAreLearnt
pairs_learnt job history last truthful = pairs_from job (first_stage job) history last truthful
