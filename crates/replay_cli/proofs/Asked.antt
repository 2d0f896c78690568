-- What serving, errands and replays against another server come to, as parts of what a task does.
use Rattle.std.proofs.Common.{◌≡◌, ◌≤◌, ℕ, List, Option, Result, Ok, Err, inl, inr}
use Rattle.desk_files.specs.Hosts.{Connections}
use Rattle.std.specs.Prelude.{IfErr, IfOk}
use Rattle.desk_schema.specs.Start.{StartView}
use Rattle.register_work.specs.declared.errand.Answer.{Answer}
use Rattle.register_work.specs.declared.errand.Errand.{Errand}
use Rattle.register_work.specs.declared.errand.Errand.TheVariants.{Register, Runs, Accept, Compare}
use Rattle.register_work.specs.Errand.{IsAnswered}
use Rattle.register_work.specs.Keeping.{Keeping}
use Rattle.replay_cli.specs.declared.failure.Failure.{Failure}
use Rattle.replay_cli.specs.declared.failure.Failure.TheVariants.{BadCommand, Refused, Differs, NotDone, NotSent, DeviceFault, OutOfMemory}
use Rattle.replay_cli.specs.declared.plan.Plan.{Plan}
use Rattle.replay_cli.specs.Decision.{ToKeep, ToSend, ToServe}
use Rattle.replay_job.specs.Job.{JobView}
use Rattle.replay_cli.specs.Done.{IsKept}
use Rattle.replay_cli.specs.Hosting.{Dialling, Hosting, IsDialUnasked, IsHostUnasked, IsKeeperUntouched}
use Rattle.replay_cli.specs.Inside.Serving.{DialFaults, HostFaults, KeepFails, PlanFails, SendFails, ServeFails, WorkFaults}

module _ (h : Hosting) (untouched : IsKeeperUntouched h) (undialled : IsDialUnasked h) where
  pub serve_fails : (out : List ℕ) (start : StartView) (most port : ℕ) (failure : Failure) → ServeFails start most h.before h.after failure → PlanFails (ToServe out start most port) h failure
  serve_fails out start most port BadCommand fails = absurd fails
  serve_fails out start most port (Refused refusal) fails = absurd fails
  serve_fails out start most port (Differs finding) fails = (fails.0, fails.1, untouched, undialled)
  serve_fails out start most port (NotDone cause) fails = absurd fails
  serve_fails out start most port (NotSent cause) fails = absurd fails
  serve_fails out start most port DeviceFault fails = ((untouched.runs, untouched.divergences), tt)
  serve_fails out start most port OutOfMemory fails = ((untouched.runs, untouched.divergences), tt)

  pub serve_faults : (done : Result Plan Failure) → HostFaults done h.faults_before h.faults_after → WorkFaults done h
  serve_faults (Ok plan) faults = (faults, untouched.faults)
  serve_faults (Err BadCommand) faults = (faults, untouched.faults)
  serve_faults (Err (Refused refusal)) faults = (faults, untouched.faults)
  serve_faults (Err (Differs finding)) faults = (faults, untouched.faults)
  serve_faults (Err (NotDone cause)) faults = (faults, untouched.faults)
  serve_faults (Err (NotSent cause)) faults = (faults, untouched.faults)
  serve_faults (Err DeviceFault) faults = inl (faults, untouched.faults)
  serve_faults (Err OutOfMemory) faults = (faults, untouched.faults)

-- an errand that is done meets no fault
pub no_fault : (errand : Errand) (k : Keeping) (answer : Answer) → IsAnswered errand k answer → k.faults_after ≡ k.faults_before
no_fault (Register name bytes report) k answer is = is.faults
no_fault Runs k answer is = is.keeps.faults
no_fault (Accept name stamp class) k answer is = is.faults
no_fault (Compare a b) k answer is = is.keeps.faults

module _ (h : Hosting) (unasked : IsHostUnasked h) (undialled : IsDialUnasked h) (errand : Errand) where
  pub keep_fails : (failure : Failure) → KeepFails errand h.keeper failure → PlanFails (ToKeep errand) h failure
  keep_fails BadCommand fails = absurd fails
  keep_fails (Refused refusal) fails = absurd fails
  keep_fails (Differs finding) fails = absurd fails
  keep_fails (NotDone cause) fails = (fails.0, (unasked, fails.1, undialled))
  keep_fails (NotSent cause) fails = absurd fails
  keep_fails DeviceFault (inl fails) = (inl (fails.runs, fails.divergences), tt)
  keep_fails DeviceFault (inr left) = (inr left, tt)
  keep_fails OutOfMemory (inl fails) = (inl (fails.runs, fails.divergences), tt)
  keep_fails OutOfMemory (inr left) = (inr left, tt)

  pub keep_faults : (done : Result Plan Failure) → IfOk done (IsKept errand h.keeper) → IfErr done (KeepFails errand h.keeper) → WorkFaults done h
  keep_faults (Ok plan) kept fails = (unasked.1, no_fault errand h.keeper _ kept.0)
  keep_faults (Err BadCommand) kept fails = absurd fails
  keep_faults (Err (Refused refusal)) kept fails = absurd fails
  keep_faults (Err (Differs finding)) kept fails = absurd fails
  keep_faults (Err (NotDone cause)) kept fails = (unasked.1, fails.1.faults)
  keep_faults (Err (NotSent cause)) kept fails = absurd fails
  keep_faults (Err DeviceFault) kept (inl fails) = inr (unasked.1, fails.faults)
  keep_faults (Err DeviceFault) kept (inr left) = inr (unasked.1, left.faults)
  keep_faults (Err OutOfMemory) kept (inl fails) = (unasked.1, fails.faults)
  keep_faults (Err OutOfMemory) kept (inr left) = (unasked.1, left.faults)

-- ---- a replay against another server

module _ (h : Hosting) (unasked : IsHostUnasked h) (untouched : IsKeeperUntouched h) (out : List ℕ) (job : JobView) (port : ℕ) where
  pub send_fails : (failure : Failure) → SendFails job h.dial failure → PlanFails (ToSend out job port) h failure
  send_fails BadCommand fails = absurd fails
  send_fails (Refused refusal) fails = absurd fails
  send_fails (Differs finding) fails = absurd fails
  send_fails (NotDone cause) fails = absurd fails
  send_fails (NotSent cause) fails = (fails, unasked, untouched)
  send_fails DeviceFault fails = absurd fails
  send_fails OutOfMemory fails = ((untouched.runs, untouched.divergences), fails.1)

  pub send_faults : (done : Result Plan Failure) → IfErr done (SendFails job h.dial) → WorkFaults done h
  send_faults (Ok plan) fails = (unasked.1, untouched.faults)
  send_faults (Err BadCommand) fails = absurd fails
  send_faults (Err (Refused refusal)) fails = absurd fails
  send_faults (Err (Differs finding)) fails = absurd fails
  send_faults (Err (NotDone cause)) fails = absurd fails
  send_faults (Err (NotSent cause)) fails = (unasked.1, untouched.faults)
  send_faults (Err DeviceFault) fails = absurd fails
  send_faults (Err OutOfMemory) fails = (unasked.1, untouched.faults)

-- ---- the dial, where it is not asked

module _ (dial : Dialling) (stands : dial.counts_before.faults ≤ dial.counts_after.faults) where
  pub serve_dial : (start : StartView) (most : ℕ) (before after : Option Connections) (done : Result Plan Failure) → IfErr done (ServeFails start most before after) → DialFaults done dial
  serve_dial start most before after (Ok plan) fails = stands
  serve_dial start most before after (Err BadCommand) fails = absurd fails
  serve_dial start most before after (Err (Refused refusal)) fails = absurd fails
  serve_dial start most before after (Err (Differs finding)) fails = stands
  serve_dial start most before after (Err (NotDone cause)) fails = absurd fails
  serve_dial start most before after (Err (NotSent cause)) fails = absurd fails
  serve_dial start most before after (Err DeviceFault) fails = stands
  serve_dial start most before after (Err OutOfMemory) fails = stands

  pub keep_dial : (errand : Errand) (k : Keeping) (done : Result Plan Failure) → IfErr done (KeepFails errand k) → DialFaults done dial
  keep_dial errand k (Ok plan) fails = stands
  keep_dial errand k (Err BadCommand) fails = absurd fails
  keep_dial errand k (Err (Refused refusal)) fails = absurd fails
  keep_dial errand k (Err (Differs finding)) fails = absurd fails
  keep_dial errand k (Err (NotDone cause)) fails = stands
  keep_dial errand k (Err (NotSent cause)) fails = absurd fails
  keep_dial errand k (Err DeviceFault) fails = stands
  keep_dial errand k (Err OutOfMemory) fails = stands
