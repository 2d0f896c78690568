-- A job as contracts see it, and which jobs can be replayed.
use Rattle.std.specs.Prelude.{◌≡◌, ℕ, ◌≤◌, List, length}
use Rattle.desk_values.specs.declared.capture.Captured.{Captured}
use Rattle.desk_values.specs.Limits.{last_moment}
use Rattle.desk_schema.specs.Sound.{IsSoundStart}
use Rattle.desk_schema.specs.Start.{StartView}
use Rattle.desk_schema.specs.Target.{IsTarget}
use Rattle.server_words.specs.State.{opening}
use Rattle.server_words.specs.Step.{Gives}
use Rattle.replay_history.specs.declared.mode.Mode.{Mode}
use Rattle.replay_history.specs.Limits.{percent_limit}
use Rattle.replay_history.specs.Capture.{IsLegalCapture}
use Rattle.replay_history.specs.Gap.{IsCallAt}
use Rattle.object_depends.specs.declared.fact.Fact.{Fact}
use Rattle.object_depends.specs.Facts.{AreSound, fact_at}
use Rattle.remap_ids.specs.Services.{ServicePair}
use Rattle.replay_job.specs.declared.job.Job.{Job}

pub record JobView : Type 0 where
  -- the start of the capture, and the one that the replay begins with
  pub start : StartView
  pub target : StartView
  -- the calls by stamp, and what is known of each
  pub calls : List Captured
  pub facts : List Fact
  -- what the captured services are sent as
  pub remap : List ServicePair
  pub mode : Mode
  -- percentages of the time before a call: of each but a session's first one, and of that one
  pub think : ℕ
  pub connect : ℕ

-- all of a job but its room to spare
abbrev pub seen : Job → JobView
seen job = record { start = job.start; target = job.target; calls = job.calls.items; facts = job.facts; remap = job.remap; mode = job.mode; think = job.think; connect = job.connect }

-- what is known of a call agrees with it
pub record IsKnownOf (call : Captured) (fact : Fact) : Type 0 where
  pub session : fact.session ≡ call.session
  pub seen : fact.seen ≡ call.seen
  pub number : fact.number ≡ call.number

pub record AreKnownOf (calls : List Captured) (facts : List Fact) : Type 0 where
  pub count : length facts ≡ length calls
  pub each : (k : ℕ) (call : Captured) → IsCallAt calls k call → IsKnownOf call (fact_at facts k)
  pub sound : AreSound facts

-- the moments at which calls begin are within those of a capture
abbrev pub HasMoments : List Captured → Type 0
HasMoments calls = (k : ℕ) (call : Captured) → IsCallAt calls k call → call.began ≤ last_moment

-- the job is a legal capture over a start that keeps its rules, as every start does, with what is known of its calls, a start
-- to begin with, and moments and percentages within their limits
pub record IsReplayable (job : JobView) : Type 0 where
  pub sound : IsSoundStart job.start
  pub legal : IsLegalCapture job.start.rows Gives (opening job.start) job.calls
  pub known : AreKnownOf job.calls job.facts
  pub moments : HasMoments job.calls
  pub target : IsTarget job.start job.target
  pub think : job.think ≤ percent_limit
  pub connect : job.connect ≤ percent_limit
