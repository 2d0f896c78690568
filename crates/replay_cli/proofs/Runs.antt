-- The task of a run, by whether it has a target.
use Rattle.std.proofs.Common.{◌≡◌, ℕ, List, Option, None, Some, refl}
use Rattle.desk_words.specs.declared.ways.Ways.{Ways}
use Rattle.desk_words.specs.declared.words.Command.TheVariants.{Run}
use Rattle.replay_job.specs.Job.{JobView}
use Rattle.replay_cli.specs.Decision.{IsRunOf, IsTaskOf, run_task}

module _ (capture out : List ℕ) (ways : Ways) (job : JobView) (run : IsRunOf ways job) where
  task_so : (target : Option ℕ) → ways.target ≡ target → IsTaskOf (Run capture out ways) (run_task out job target)
  task_so None is = (refl, is, run)
  task_so (Some port) is = (refl, is, run)

  pub task_run : IsTaskOf (Run capture out ways) (run_task out job ways.target)
  task_run = task_so ways.target refl
