-- Which calls of a replay meet just what they met in the capture, but for ids.
use Rattle.std.specs.Prelude.{ℕ, take}
use Rattle.desk_values.specs.declared.capture.Captured.{Captured}
use Rattle.server_words.specs.State.{State, opening}
use Rattle.server_words.specs.Step.{Gives}
use Rattle.replay_history.specs.Capture.{IsRun}
use Rattle.remap_ids.specs.Sent.{sent}
use Rattle.law_server.specs.Renaming.Laws.{view_before}
use Rattle.law_server.specs.Renaming.Twins.{AreTwinCalls, AreTwinViews}
use Rattle.replay_job.specs.Job.{JobView}
use Rattle.replay_job.specs.Runs.{Stage}

-- the state of the captured server before the call with this stamp
abbrev pub CameBefore : JobView → ℕ → State → Type 0
CameBefore job k state = IsRun Gives (opening job.start) (take k job.calls) state

-- What the call's session sees at the stage before its answer is what it saw in the capture, but for ids; and what is sent is
-- the call, but for ids and for services that are both known or both unknown.
pub record IsTwinCall (job : JobView) (call : Captured) (captured : State) (before : Stage) : Type 0 where
  pub views : AreTwinViews before.pairs (view_before captured call.session call.call)
      (view_before before.state call.session (sent before.pairs job.remap call.call))
  pub calls : AreTwinCalls job.start.schema before.pairs call.call (sent before.pairs job.remap call.call)
