-- The job of a plan, and that of a trial.
use Rattle.std.specs.Prelude.{◌≡◌, ℕ, List, []}
use Rattle.desk_values.specs.declared.capture.Captured.{Captured}
use Rattle.desk_schema.specs.Start.{StartView}
use Rattle.replay_history.specs.declared.mode.Mode.{Mode}
use Rattle.replay_history.specs.declared.mode.Mode.TheVariants.{Order}
use Rattle.object_depends.specs.declared.fact.Fact.{Fact}
use Rattle.captured_calls.specs.Verdict.{Preparation}
use Rattle.remap_ids.specs.Services.{ServicePair}
use Rattle.replay_job.specs.Job.{JobView}

-- a plan of a capture from the first start that is replayed on the second
abbrev pub job_of : StartView → StartView → Preparation → List ServicePair → Mode → ℕ → ℕ → JobView
job_of start target plan remap mode think connect =
    record { start = start; target = target; calls = plan.calls; facts = plan.facts; remap = remap; mode = mode; think = think; connect = connect }

-- a trial replays a capture as it is, in its order and without pauses
pub record IsTrial (captured : StartView) (recorded : List Captured) (job : JobView) : Type 0 where
  pub start : job.start ≡ captured
  pub target : job.target ≡ captured
  pub calls : job.calls ≡ recorded
  pub remap : job.remap ≡ []
  pub mode : job.mode ≡ Order
  pub think : job.think ≡ 0
  pub connect : job.connect ≡ 0

-- what a replay in the captured order has to know of a call
abbrev pub plain_fact : Captured → Fact
plain_fact call = record { session = call.session; seen = call.seen; number = call.number; refs = 0; writes = 0 }
