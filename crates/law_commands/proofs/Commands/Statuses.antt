-- With which statuses commands end.
use Rattle.std.proofs.Common.{◌≡◌, ◌≢◌, ◌⊎◌, ℕ, inl, inr, Bool, true, false, List, Option, Ok}
use Rattle.desk_files.specs.Outside.{FileMap}
use Rattle.run_register.specs.Register.{RunMap}
use Rattle.replay_history.specs.declared.report.Report.{Report}
use Rattle.register_work.specs.declared.errand.Errand.{Errand}
use Rattle.register_work.specs.declared.errand.Errand.TheVariants as errand
use Rattle.register_work.specs.declared.unkept.Unkept.{Unkept}
use Rattle.register_work.specs.declared.unkept.Unkept.TheVariants.{NoRun, OtherRun, BadRun, NoCall, OtherCapture}
use Rattle.register_work.specs.Errand.{IsCause}
use Rattle.register_work.specs.Lines.{unkept_status}
use Rattle.replay_cli.specs.Decision.{ToKeep, ToMake, ToPage, ToReplay, ToSend, ToServe, ToShow, ToTell, ToTry}
use Rattle.replay_cli.specs.Ending.{Ends, IsOutside}
use Rattle.replay_cli.specs.Hosting.{Hosting}
use Rattle.replay_cli.specs.Lines.{done_status, failure_status}
use Rattle.law_commands.proofs.Commands.Asked.{done_end, errands_end, quiet_end}
use Rattle.law_commands.proofs.Commands.Sent.{sent_runs_end}
use Rattle.law_commands.specs.Commands.Complete.{MayEnd}
use Rattle.law_commands.specs.Commands.Statuses.{FailuresEndSo, IsAnswerable, TasksEndSo}

-- outside of the others there is want of memory alone, where no device failed
short_of : (result : ℕ) → result ≢ 5 → IsOutside result → result ≡ 6
short_of result unfailed (inl five) = absurd (unfailed five)
short_of result unfailed (inr six) = six

replayed_end : (differs : Bool) (result : ℕ) → result ≡ done_status differs → (result ≡ 0) ⊎ ((result ≡ 1) ⊎ (result ≡ 6))
replayed_end true result is = inr (inl is)
replayed_end false result is = inl is

-- a registration has one cause why it is not done, whatever else is kept
unregistered_end : (name bytes : List ℕ) (report : Report) (runs : Option RunMap) (cause : Unkept) (result : ℕ) → IsCause (errand.Register name bytes report) runs cause → result ≡ unkept_status cause → MayEnd (errand.Register name bytes report) result
unregistered_end name bytes report runs (OtherRun other) result caused is = inr (inr is)
unregistered_end name bytes report runs (NoRun other) result caused is = absurd caused
unregistered_end name bytes report runs (BadRun other line) result caused is = absurd caused
unregistered_end name bytes report runs (NoCall other) result caused is = absurd caused
unregistered_end name bytes report runs (OtherCapture one n other m) result caused is = absurd caused

module _ (files after : FileMap) (faults_before faults_after : ℕ) (h : Hosting) (result : ℕ) (before printed : Option (List ℕ)) (unfailed : result ≢ 5) where
  registered_end : (name bytes : List ℕ) (report : Report) → Ends (Ok (ToKeep (errand.Register name bytes report))) files after faults_before faults_after h result before printed → MayEnd (errand.Register name bytes report) result
  registered_end name bytes report (inl done) = done_end (errand.Register name bytes report) h.keeper done.0 result done.1.0 done.3
  registered_end name bytes report (inr (inl found)) = absurd found.1
  registered_end name bytes report (inr (inr (inl undone))) = unregistered_end name bytes report h.keeper.runs_before undone.0 result undone.1.0 undone.3
  registered_end name bytes report (inr (inr (inr (inl unsent)))) = absurd unsent.1
  registered_end name bytes report (inr (inr (inr (inr outside)))) = inr (inl (short_of result unfailed outside.0))

  kept_end : (asked : Errand) → IsAnswerable asked h → Ends (Ok (ToKeep asked)) files after faults_before faults_after h result before printed → MayEnd asked result
  kept_end (errand.Register name bytes report) tells ends = registered_end name bytes report ends
  kept_end errand.Runs tells ends = errands_end errand.Runs files after faults_before faults_after h result before printed tells ends unfailed
  kept_end (errand.Accept name stamp class) tells ends = errands_end (errand.Accept name stamp class) files after faults_before faults_after h result before printed tells ends unfailed
  kept_end (errand.Compare a b) tells ends = errands_end (errand.Compare a b) files after faults_before faults_after h result before printed tells ends unfailed

pub tasks_end : TasksEndSo
tasks_end (ToKeep asked) files after faults_before faults_after h result before printed is ends unfailed = kept_end files after faults_before faults_after h result before printed unfailed asked is ends
tasks_end (ToSend out job port) files after faults_before faults_after h result before printed is ends unfailed = sent_runs_end out job port files after faults_before faults_after h result before printed is ends unfailed
tasks_end (ToReplay out job) files after faults_before faults_after h result before printed is (inl done) unfailed = replayed_end done.0.differs result done.3
tasks_end (ToReplay out job) files after faults_before faults_after h result before printed is (inr (inl found)) unfailed = absurd found.1
tasks_end (ToReplay out job) files after faults_before faults_after h result before printed is (inr (inr (inl undone))) unfailed = absurd undone.1
tasks_end (ToReplay out job) files after faults_before faults_after h result before printed is (inr (inr (inr (inl unsent)))) unfailed = absurd unsent.1
tasks_end (ToReplay out job) files after faults_before faults_after h result before printed is (inr (inr (inr (inr outside)))) unfailed = inr (inr (short_of result unfailed outside.0))
tasks_end (ToServe out start most port) files after faults_before faults_after h result before printed is (inl done) unfailed = inl (quiet_end done.0.differs result done.1.0.quiet done.3)
tasks_end (ToServe out start most port) files after faults_before faults_after h result before printed is (inr (inl found)) unfailed = inr (inr found.3)
tasks_end (ToServe out start most port) files after faults_before faults_after h result before printed is (inr (inr (inl undone))) unfailed = absurd undone.1
tasks_end (ToServe out start most port) files after faults_before faults_after h result before printed is (inr (inr (inr (inl unsent)))) unfailed = absurd unsent.1
tasks_end (ToServe out start most port) files after faults_before faults_after h result before printed is (inr (inr (inr (inr outside)))) unfailed = inr (inl (short_of result unfailed outside.0))
tasks_end (ToTell out facts) files after faults_before faults_after h result before printed is (inl done) unfailed = inl (quiet_end done.0.differs result done.1.0.1 done.3)
tasks_end (ToTell out facts) files after faults_before faults_after h result before printed is (inr (inl found)) unfailed = absurd found.1
tasks_end (ToTell out facts) files after faults_before faults_after h result before printed is (inr (inr (inl undone))) unfailed = absurd undone.1
tasks_end (ToTell out facts) files after faults_before faults_after h result before printed is (inr (inr (inr (inl unsent)))) unfailed = absurd unsent.1
tasks_end (ToTell out facts) files after faults_before faults_after h result before printed is (inr (inr (inr (inr outside)))) unfailed = inr (short_of result unfailed outside.0)
tasks_end (ToMake n out) files after faults_before faults_after h result before printed is (inl done) unfailed = inl (quiet_end done.0.differs result done.1.0.1 done.3)
tasks_end (ToMake n out) files after faults_before faults_after h result before printed is (inr (inl found)) unfailed = absurd found.1
tasks_end (ToMake n out) files after faults_before faults_after h result before printed is (inr (inr (inl undone))) unfailed = absurd undone.1
tasks_end (ToMake n out) files after faults_before faults_after h result before printed is (inr (inr (inr (inl unsent)))) unfailed = absurd unsent.1
tasks_end (ToMake n out) files after faults_before faults_after h result before printed is (inr (inr (inr (inr outside)))) unfailed = inr (short_of result unfailed outside.0)
tasks_end (ToTry n) files after faults_before faults_after h result before printed is (inl done) unfailed = inl (quiet_end done.0.differs result done.1.0.2 done.3)
tasks_end (ToTry n) files after faults_before faults_after h result before printed is (inr (inl found)) unfailed = absurd found.1
tasks_end (ToTry n) files after faults_before faults_after h result before printed is (inr (inr (inl undone))) unfailed = absurd undone.1
tasks_end (ToTry n) files after faults_before faults_after h result before printed is (inr (inr (inr (inl unsent)))) unfailed = absurd unsent.1
tasks_end (ToTry n) files after faults_before faults_after h result before printed is (inr (inr (inr (inr outside)))) unfailed = inr (short_of result unfailed outside.0)
tasks_end (ToPage page calls divergent) files after faults_before faults_after h result before printed is (inl done) unfailed = inl (quiet_end done.0.differs result done.1.0.1 done.3)
tasks_end (ToPage page calls divergent) files after faults_before faults_after h result before printed is (inr (inl found)) unfailed = absurd found.1
tasks_end (ToPage page calls divergent) files after faults_before faults_after h result before printed is (inr (inr (inl undone))) unfailed = absurd undone.1
tasks_end (ToPage page calls divergent) files after faults_before faults_after h result before printed is (inr (inr (inr (inl unsent)))) unfailed = absurd unsent.1
tasks_end (ToPage page calls divergent) files after faults_before faults_after h result before printed is (inr (inr (inr (inr outside)))) unfailed = inr (short_of result unfailed outside.0)
tasks_end (ToShow view asked) files after faults_before faults_after h result before printed is (inl done) unfailed = inl (quiet_end done.0.differs result done.1.0.1 done.3)
tasks_end (ToShow view asked) files after faults_before faults_after h result before printed is (inr (inl found)) unfailed = absurd found.1
tasks_end (ToShow view asked) files after faults_before faults_after h result before printed is (inr (inr (inl undone))) unfailed = absurd undone.1
tasks_end (ToShow view asked) files after faults_before faults_after h result before printed is (inr (inr (inr (inl unsent)))) unfailed = absurd unsent.1
tasks_end (ToShow view asked) files after faults_before faults_after h result before printed is (inr (inr (inr (inr outside)))) unfailed = inr (short_of result unfailed outside.0)

pub failures_end : FailuresEndSo
failures_end failure files after faults_before faults_after h result before printed ends unfailed = elim ends.2 as (λ _. (result ≡ failure_status failure) ⊎ (result ≡ 6)) [
  | inl told ↦ inl told.0
  | inr outside ↦ inr (short_of result unfailed outside)
]
