-- The law of pairs of ids.
use Rattle.std.specs.Prelude.{◌≡◌, List, ◌++◌}
use Rattle.desk_values.specs.declared.capture.Event.{Event}
use Rattle.id_pairs.specs.Pairs.{IsIdMap}
use Rattle.replay_job.specs.Job.{IsReplayable, JobView}
use Rattle.remap_ids.specs.IdMap.{start_pairs}
use Rattle.replay_job.specs.Runs.{IsLegalFor, IsTruthfulFor, Stage, learnt_in}

-- however far a replay has come, a captured id stands for one replayed id at most, of its kind, and no two for one
abbrev pub PairsStayOneToOne : Type 0
PairsStayOneToOne = (job : JobView) (history : List Event) (last : Stage) → IsReplayable job
    → IsLegalFor job history → IsTruthfulFor job history last → IsIdMap last.pairs

-- the pairs of a replay are those of the start, and then what each answer brought
abbrev pub PairsAreLearnt : Type 0
PairsAreLearnt = (job : JobView) (history : List Event) (last : Stage) → IsTruthfulFor job history last
    → last.pairs ≡ start_pairs job.start ++ learnt_in job.calls history
