-- The ids in a job's calls are low.
use Rattle.std.proofs.Common.{ℕ, ◌≤◌, arith}
use Rattle.std.specs.Prelude.{◌^◌}
use Rattle.std.specs.List.{AllByRecursion}
use Rattle.desk_values.specs.declared.value.Value.{Value}
use Rattle.desk_values.specs.declared.value.Value.TheVariants as value
use Rattle.desk_values.specs.declared.call.Call.{Call}
use Rattle.desk_values.specs.declared.call.Call.TheVariants.{Connect, Sql, Disconnect}
use Rattle.desk_values.specs.declared.capture.Captured.{Captured}
use Rattle.server_words.proofs.Members.{each_weaker}
use Rattle.replay_history.specs.Capture.{IsKnown, binds_of}
use Rattle.replay_history.specs.Gap.{IsCallAt}
use Rattle.law_ids.specs.Counters.{IsBelow}
use Rattle.law_ids.proofs.Starts.{known_low}
use Rattle.remap_ids.specs.Sent.{HasLowIds, IsLow}
use Rattle.replay_job.specs.Job.{IsReplayable, JobView}

module _ (job : JobView) (replayable : IsReplayable job) where
  low_value : (id : Value) → IsBelow (2 ^ 40) id → IsLow id
  low_value (value.Row n) is = is
  low_value (value.Draw q n) is = is
  low_value value.Null is = tt
  low_value (value.Int n) is = tt
  low_value (value.Text text) is = tt

  low_call : (k : ℕ) (call : Call) → AllByRecursion (IsKnown job.start.rows job.calls k) (binds_of call) → HasLowIds call
  low_call k (Connect service) known = tt
  low_call k (Sql text binds) known =
      let run = replayable.legal.replies in
      each_weaker (IsKnown job.start.rows job.calls k) IsLow (λ id is. low_value id (known_low job.start job.calls run.0 k id replayable.sound run.1 (omega (arith, replayable.legal.count)) is)) binds known
  low_call k Disconnect known = tt

  pub has_low_ids : (k : ℕ) (call : Captured) → IsCallAt job.calls k call → HasLowIds call.call
  has_low_ids k call at = low_call k call.call (replayable.legal.each k call at).known
