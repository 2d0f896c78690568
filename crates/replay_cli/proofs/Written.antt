-- The texts of a replay's files.
use Rattle.std.proofs.Common.{◌≡◌, ℕ, List, [], ◌∷◌, ◌++◌, length, drop, refl, ap, ◌∙◌}
use Rattle.desk_values.specs.declared.capture.Event.{Event}
use Rattle.id_pairs.specs.Pairs.{IdPair}
use Rattle.remap_ids.specs.IdMap.{start_pairs}
use Rattle.remap_ids.specs.MapsText.{maps_text}
use Rattle.replay_job.specs.Job.{JobView}
use Rattle.replay_job.specs.Replays.{IsReplay}
use Rattle.replay_job.specs.Runs.{Stage, learnt_in}
use Rattle.law_ids.proofs.Replays.Learnt.{pairs_learnt}

drop_front : {X : Type 0} (xs ys : List X) → drop (length xs) (xs ++ ys) ≡ ys
drop_front [] ys = refl
drop_front (x ∷ xs) ys = drop_front xs ys

-- the pairs behind those of the start are those that were learnt
pub maps_are : (job : JobView) (history : List Event) (last : Stage) (pairs : List IdPair) (own : ℕ) → IsReplay job history last → pairs ≡ last.pairs → own ≡ length (start_pairs job.start) → maps_text (drop own pairs) ≡ maps_text (learnt_in job.calls history)
maps_are job history last pairs own replay pairs_are own_is =
    ap (λ (n : ℕ). maps_text (drop n pairs)) own_is ∙ ap (λ (ps : List IdPair). maps_text (drop (length (start_pairs job.start)) ps)) (pairs_are ∙ pairs_learnt job history last replay.complete.truthful)
    ∙ ap maps_text (drop_front (start_pairs job.start) (learnt_in job.calls history))
