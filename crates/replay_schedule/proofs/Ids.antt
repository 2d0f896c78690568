-- What holds of the ids in a job's calls: they are low, and a reply draws few.
use Rattle.std.proofs.Common.{◌≡◌, ℕ, zero, suc, ◌+◌, ◌≤◌, inl, inr, Bool, List, [], ◌∷◌, length, ap, arith}
use Rattle.std.specs.Prelude.{◌^◌}
use Rattle.std.specs.List.{AllByRecursion}
use Rattle.std.proofs.lemmas.Bool.{cases_Bool}
use Rattle.desk_values.specs.declared.value.Value.{Value}
use Rattle.desk_values.specs.declared.value.Value.TheVariants as value
use Rattle.desk_values.specs.declared.call.Call.{Call}
use Rattle.desk_values.specs.declared.call.Call.TheVariants.{Connect, Sql, Disconnect}
use Rattle.desk_values.specs.declared.capture.Captured.{Captured}
use Rattle.server_words.specs.Draws.{drawn_from}
use Rattle.server_words.specs.State.{State, opening}
use Rattle.server_words.specs.Step.{Gives}
use Rattle.server_words.proofs.Members.{each_weaker}
use Rattle.replay_history.specs.Capture.{IsKnown, IsRun, binds_of}
use Rattle.replay_history.specs.Gap.{IsCallAt}
use Rattle.law_ids.specs.Counters.{IsBelow}
use Rattle.law_ids.proofs.Starts.{known_low}
use Rattle.law_ids.proofs.Steps.{step_count, step_next}
use Rattle.remap_ids.specs.Sent.{HasLowIds, IsLow}
use Rattle.replay_job.specs.Job.{IsReplayable, JobView}

module _ (job : JobView) (replayable : IsReplayable job) where
  low_value : (id : Value) → IsBelow (2 ^ 40) id → IsLow id
  low_value (value.Row n) is = is
  low_value (value.Draw q n) is = is
  low_value value.Null is = tt
  low_value (value.Int n) is = tt
  low_value (value.Text text) is = tt

  low_call : (k : ℕ) (sent_call : Call) → AllByRecursion (IsKnown job.start.rows job.calls k) (binds_of sent_call) → HasLowIds sent_call
  low_call k (Connect service) known = tt
  low_call k (Sql text binds) known =
      let run = replayable.legal.replies in
      each_weaker (IsKnown job.start.rows job.calls k) IsLow (λ id is. low_value id (known_low job.start job.calls run.0 k id replayable.sound run.1 (omega (arith, replayable.legal.count)) is)) binds known
  low_call k Disconnect known = tt

  pub has_low_ids : (k : ℕ) (one : Captured) → IsCallAt job.calls k one → HasLowIds one.call
  has_low_ids k one at = low_call k one.call (replayable.legal.each k one at).known

  drawn_few : (test : ℕ → Bool) (from : ℕ) (nexts : List ℕ) → length (drawn_from test from nexts) ≤ length nexts
  drawn_few test from [] = omega arith
  drawn_few test from (n ∷ nexts) = let rest = drawn_few test (from + 1) nexts in elim (cases_Bool (test from)) [ inl draws ↦ rw draws (omega (arith, rest)) | inr skips ↦ rw skips (omega (arith, rest)) ]

  run_few : (first last : State) (calls : List Captured) (k : ℕ) (one : Captured) → IsRun Gives first calls last → IsCallAt calls k one → length one.reply.draws ≤ length first.next_values
  run_few first last [] k one run at = absurd (cc)
  run_few first last (c ∷ calls) zero one run at =
      let same : one ≡ c = cc in
      let next = step_next first run.0 c.session c.call c.reply run.1 in
      let few = drawn_few next.test 0 first.next_values in
      omega (arith, few, ap length next.draws, ap (λ (x : Captured). length x.reply.draws) same)
  run_few first last (c ∷ calls) (suc k) one run at =
      let count = step_count first run.0 c.session c.call c.reply run.1 in
      let few = run_few run.0 last calls k one run.2 at in
      omega (arith, few, count)

  pub draws_few : (k : ℕ) (one : Captured) → IsCallAt job.calls k one → length one.reply.draws ≤ 16
  draws_few k one at =
      let run = replayable.legal.replies in
      let few = run_few (opening job.start) run.0 job.calls k one run.1 at in
      let sequences = replayable.sound.sound.sequences in
      omega (arith, few, sequences.most, sequences.counts)
