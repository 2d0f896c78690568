-- What the work of a task answers, and how the counts of the host and of the keeper move in it.
use Rattle.std.specs.Prelude.{◌≡◌, ℕ, ◌≤◌, ◌⊎◌, nat_lt, List, [], length, Option, Result, Ok, Err, ⊤}
use Rattle.desk_files.specs.Outside.{Answered, DeviceFailed, HasRisen, MemoryShort}
use Rattle.desk_files.specs.Hosts.{Connections}
use Rattle.desk_schema.specs.Start.{StartView}
use Rattle.capture_serve.specs.Failing.{IsFinding}
use Rattle.capture_serve.specs.Service.{HasGivenBackAll}
use Rattle.register_work.specs.declared.errand.Errand.{Errand}
use Rattle.register_work.specs.declared.errand.Answer.{Answer}
use Rattle.register_work.specs.declared.errand.ErrandErr.{ErrandErr}
use Rattle.register_work.specs.declared.errand.ErrandErr.TheVariants as errand_err
use Rattle.run_register.specs.declared.kept.KeepErr.{KeepErr}
use Rattle.run_register.specs.declared.kept.KeepErr.TheVariants as keep_err
use Rattle.register_work.specs.Errand.{IsCause, IsUnclosed}
use Rattle.register_work.specs.Keeping.{KeepsAll, Keeping}
use Rattle.replay_cli.specs.declared.failure.Failure.{Failure}
use Rattle.replay_cli.specs.declared.failure.Failure.TheVariants.{BadCommand, Refused, Differs, NotDone, NotSent, DeviceFault, OutOfMemory}
use Rattle.replay_cli.specs.declared.plan.Plan.{Plan}
use Rattle.replay_cli.specs.Decision.{Task, ToKeep, ToSend, ToServe}
use Rattle.replay_cli.specs.Done.{sent_files}
use Rattle.replay_cli.specs.Lines.{replayed_line}
use Rattle.replay_cli.specs.Hosting.{Dialling, HasNoFault, Hosting, IsDialUnasked, IsHostUnasked, IsKeeperUntouched, IsUnasked}
use Rattle.replay_cli.specs.Ending.{HasDialled, KeptAs, IsCauseOf, IsFoundOf, IsUnsent, IsUnsentOf}
use Rattle.replay_job.specs.Job.{JobView}
use Rattle.replay_report.specs.Report.{heard_report_in}
use Rattle.remote_desk.specs.Desk.{RemoteView}
use Rattle.remote_desk.specs.History.{plain}
use Rattle.remote_target.specs.declared.remote_err.RemoteErr.{RemoteErr}
use Rattle.remote_target.specs.declared.remote_err.RemoteErr.TheVariants as remote
use Rattle.remote_target.specs.Dialled.{DialsOnce}
use Rattle.replay_cli.specs.declared.unsent.Unsent.TheVariants as unsent

-- how the work of a task may fail: something is found to differ of what was served, an errand is not done, the host or the keeper
-- fails, or memory is short
abbrev pub PlanFails : Task → Hosting → Failure → Type 0
PlanFails task h BadCommand = ⊥
PlanFails task h (Refused refusal) = ⊥
PlanFails task h (Differs finding) = IsFoundOf task finding h
PlanFails task h (NotDone cause) = IsCauseOf task cause h
PlanFails task h (NotSent cause) = IsUnsentOf task cause h
PlanFails task h DeviceFault = KeptAs task DeviceFailed h × HasDialled task h.dial
PlanFails task h OutOfMemory = KeptAs task MemoryShort h × HasDialled task h.dial

-- just one of the two failed
abbrev pub OneFailed : Hosting → Type 0
OneFailed h =
    ((HasRisen h.faults_before h.faults_after × (h.faults_before ≤ h.faults_after)) × (h.keeper.faults_after ≡ h.keeper.faults_before))
    ⊎ ((h.faults_after ≡ h.faults_before) × (HasRisen h.keeper.faults_before h.keeper.faults_after × (h.keeper.faults_before ≤ h.keeper.faults_after)))

-- the count of one rises at a fault, and both stand otherwise
abbrev pub WorkFaults : Result Plan Failure → Hosting → Type 0
WorkFaults (Ok plan) h = HasNoFault h
WorkFaults (Err BadCommand) h = HasNoFault h
WorkFaults (Err (Refused refusal)) h = HasNoFault h
WorkFaults (Err (Differs finding)) h = HasNoFault h
WorkFaults (Err (NotDone cause)) h = HasNoFault h
WorkFaults (Err (NotSent cause)) h = HasNoFault h
WorkFaults (Err DeviceFault) h = OneFailed h
WorkFaults (Err OutOfMemory) h = HasNoFault h

-- no work but serving asks the host, none but errands the keeper, and none the dial but a replay against another server
abbrev pub AsksFor : Task → Hosting → Type 0
AsksFor (ToSend out job port) h = IsHostUnasked h × IsKeeperUntouched h
AsksFor (ToServe out start most port) h = IsKeeperUntouched h × IsDialUnasked h
AsksFor (ToKeep errand) h = IsHostUnasked h × IsDialUnasked h
AsksFor other h = IsUnasked h

-- how an errand may fail
abbrev pub KeepFails : Errand → Keeping → Failure → Type 0
KeepFails errand k BadCommand = ⊥
KeepFails errand k (Refused refusal) = ⊥
KeepFails errand k (Differs finding) = ⊥
KeepFails errand k (NotDone cause) = IsCause errand k.runs_before cause × KeepsAll k Answered
KeepFails errand k (NotSent cause) = ⊥
KeepFails errand k DeviceFault = KeepsAll k DeviceFailed ⊎ IsUnclosed errand k DeviceFailed
KeepFails errand k OutOfMemory = KeepsAll k MemoryShort ⊎ IsUnclosed errand k MemoryShort

-- what a keeper that could not be closed is told as
abbrev pub unclosed : KeepErr → Failure
unclosed keep_err.Failed = DeviceFault
unclosed keep_err.Memory = OutOfMemory

-- What comes of an errand that ended so, where the keeper was closed so behind it. A cause why it is not done stays where closing lacked
-- memory alone, and a device that failed goes before it.
abbrev pub settled : Result Answer ErrandErr → Result (Unit {0}) KeepErr → Result Plan Failure
settled (Ok answer) (Ok done) = Ok (record { line = answer.text; differs = answer.news; writes = [] })
settled (Ok answer) (Err error) = Err (unclosed error)
settled (Err (errand_err.NotDone cause)) (Ok done) = Err (NotDone cause)
settled (Err (errand_err.NotDone cause)) (Err keep_err.Failed) = Err DeviceFault
settled (Err (errand_err.NotDone cause)) (Err keep_err.Memory) = Err (NotDone cause)
settled (Err errand_err.Failed) closed = Err DeviceFault
settled (Err errand_err.Memory) (Ok done) = Err OutOfMemory
settled (Err errand_err.Memory) (Err error) = Err (unclosed error)

-- the count of the dial rises where the link failed, and never falls
abbrev pub DialFaults : Result Plan Failure → Dialling → Type 0
DialFaults (Err (NotSent unsent.Link)) dial = HasRisen dial.counts_before.faults dial.counts_after.faults × (dial.counts_before.faults ≤ dial.counts_after.faults)
DialFaults other dial = dial.counts_before.faults ≤ dial.counts_after.faults

-- what is told of a replay against another server
pub record IsToldSent (out : List ℕ) (desk : RemoteView) (plan : Plan) : Type 0 where
  pub line : plan.line ≡ replayed_line (length desk.job.calls) (length (heard_report_in desk.job (plain desk.events)).lines)
  pub differs : plan.differs ≡ nat_lt 0 (length (heard_report_in desk.job (plain desk.events)).lines)
  pub writes : plan.writes ≡ sent_files out desk.job desk.events

-- what an error of a replay against another server is told as
abbrev pub failed_as : RemoteErr → Failure
failed_as remote.Link = NotSent unsent.Link
failed_as (remote.OtherJob kept) = NotSent unsent.Job
failed_as (remote.Mismatch session place kept answered) = NotSent (unsent.Mismatch session place kept answered)
failed_as remote.Memory = OutOfMemory

-- how a replay against another server may fail: it comes to no end, or memory is short
abbrev pub SendFails : JobView → Dialling → Failure → Type 0
SendFails job dial BadCommand = ⊥
SendFails job dial (Refused refusal) = ⊥
SendFails job dial (Differs finding) = ⊥
SendFails job dial (NotDone cause) = ⊥
SendFails job dial (NotSent cause) = IsUnsent job cause dial
SendFails job dial DeviceFault = ⊥
SendFails job dial OutOfMemory =
    (dial.counts_before.faults ≤ dial.counts_after.faults) × DialsOnce job.calls (Err remote.Memory) dial.before dial.after dial.counts_before dial.counts_after

-- how serving may fail: something is found to differ, the host fails, or memory is short
abbrev pub ServeFails : StartView → ℕ → Option Connections → Option Connections → Failure → Type 0
ServeFails start most before after BadCommand = ⊥
ServeFails start most before after (Refused refusal) = ⊥
ServeFails start most before after (Differs finding) = IsFinding start finding × HasGivenBackAll most before after
ServeFails start most before after (NotDone cause) = ⊥
ServeFails start most before after (NotSent cause) = ⊥
ServeFails start most before after DeviceFault = ⊤
ServeFails start most before after OutOfMemory = ⊤

-- the count of the host rises where it failed, and stands otherwise
abbrev pub HostFaults : Result Plan Failure → ℕ → ℕ → Type 0
HostFaults (Ok plan) before after = after ≡ before
HostFaults (Err BadCommand) before after = after ≡ before
HostFaults (Err (Refused refusal)) before after = after ≡ before
HostFaults (Err (Differs finding)) before after = after ≡ before
HostFaults (Err (NotDone cause)) before after = after ≡ before
HostFaults (Err (NotSent cause)) before after = after ≡ before
HostFaults (Err DeviceFault) before after = HasRisen before after × (before ≤ after)
HostFaults (Err OutOfMemory) before after = after ≡ before
