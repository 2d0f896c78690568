-- What stands behind a run that ended with 0 or 1, from its verdict and its end.
use Rattle.std.proofs.Common.{◌≡◌, ℕ, ◌≤◌, ◌⊎◌, inl, inr, Bool, true, false, List, [], length, Option, None, Some, Result, Ok, Err, refl, sym, ap, subst, ◌∙◌, arith}
use Rattle.std.specs.Prelude.{◌↔◌, nat_lt}
use Rattle.desk_files.specs.Outside.{Appends, FileMap}
use Rattle.desk_files.specs.Writes.{with_all}
use Rattle.desk_files.specs.declared.writes.Write.{Write}
use Rattle.desk_values.specs.declared.capture.Event.{Event}
use Rattle.desk_words.specs.declared.ways.Ways.{Ways}
use Rattle.desk_words.specs.declared.words.Command.{Command}
use Rattle.desk_words.specs.declared.words.Command.TheVariants.{Run}
use Rattle.captured_calls.specs.Verdict.{verdict}
use Rattle.captured_calls.proofs.Legality.{plan_calls}
use Rattle.replay_history.specs.declared.report.Line.{Line}
use Rattle.replay_job.specs.Job.{JobView}
use Rattle.replay_job.specs.Replays.{IsSoundJob}
use Rattle.replay_job.specs.Runs.{Stage}
use Rattle.replay_report.specs.Report.{report_in}
use Rattle.law_replays.proofs.End.Whole.{each_once, tables_carried}
use Rattle.law_replays.proofs.Reports.Named.{lines_name}
use Rattle.replay_cli.specs.declared.failure.Failure.{Failure}
use Rattle.replay_cli.specs.declared.failure.Failure.TheVariants.{BadCommand, Refused, Differs, NotDone, NotSent, DeviceFault, OutOfMemory}
use Rattle.replay_cli.specs.declared.failure.Refusal.{Refusal}
use Rattle.replay_cli.specs.declared.failure.Refusal.TheVariants.{Missing, TooLong, BadLine, BadReport, BadRemap, BadChange, NotLegal, Unshown}
use Rattle.replay_cli.specs.declared.unshown.Unshown.TheVariants as unshown
use Rattle.replay_cli.specs.declared.plan.Plan.{Plan}
use Rattle.replay_cli.specs.Decision.{Decides, Failing, Legal, RunIn, Task, ToReplay, Verdict, VerdictOf, run_job, run_task}
use Rattle.replay_cli.specs.Done.{IsDoneBy}
use Rattle.replay_cli.specs.Ending.{Ends, IsOutside}
use Rattle.replay_cli.specs.Hosting.{Hosting}
use Rattle.replay_cli.specs.Lines.{done_status, failure_status, refusal_status}
use Rattle.replay_cli.proofs.Sound.{is_replay, legal_planned, verdict_sound}
use Rattle.law_commands.proofs.Commands.Ends.{no_lines}
use Rattle.law_commands.specs.Commands.Headline.{IsJobOf, KeepsPromise, RunsKeepThePromise}

-- ---- the status

not_two : (result n : ℕ) → (result ≡ 0) ⊎ (result ≡ 1) → 2 ≤ n → result ≡ n → ⊥
not_two result n (inl zero) two is = omega (arith, zero, two, is)
not_two result n (inr one) two is = omega (arith, one, two, is)

not_outside : (result : ℕ) → (result ≡ 0) ⊎ (result ≡ 1) → IsOutside result → ⊥
not_outside result done (inl five) = not_two result 5 done (omega arith) five
not_outside result done (inr six) = not_two result 6 done (omega arith) six

refused_two : (refusal : Refusal) → 2 ≤ refusal_status refusal
refused_two (Missing name) = omega arith
refused_two (TooLong name) = omega arith
refused_two (BadLine name line) = omega arith
refused_two (BadReport name line) = omega arith
refused_two (BadRemap n) = omega arith
refused_two (BadChange n) = omega arith
refused_two (NotLegal cause) = omega arith
refused_two (Unshown (unshown.BadJournal name line)) = omega arith
refused_two (Unshown (unshown.BadReads name line)) = omega arith
refused_two (Unshown (unshown.Unfit found)) = omega arith
refused_two (Unshown (unshown.NoCall stamp)) = omega arith

-- a command that is refused has another status than one that is done
failed_two : (want : Result Task Refusal → Type 0) (failure : Failure) → Failing want (Err failure) → 2 ≤ failure_status failure
failed_two want BadCommand is = absurd is
failed_two want (Refused refusal) is = refused_two refusal
failed_two want (Differs finding) is = absurd is
failed_two want (NotDone cause) is = absurd is
failed_two want (NotSent cause) is = absurd is
failed_two want DeviceFault is = absurd is
failed_two want OutOfMemory is = absurd is

quiet_of : (differs : Bool) (result : ℕ) → result ≡ done_status differs → result ≡ 0 → differs ≡ false
quiet_of true result is zero = absurd (omega (arith, is, zero))
quiet_of false result is zero = refl

status_tells : (differs : Bool) (result : ℕ) (lines : List Line) → result ≡ done_status differs → differs ≡ nat_lt 0 (length lines) → (result ≡ 0) ↔ (lines ≡ [])
status_tells differs result lines is named = (
  λ zero. no_lines lines (sym named ∙ quiet_of differs result is zero),
  λ none. is ∙ ap done_status (named ∙ ap (λ (ls : List Line). nat_lt 0 (length ls)) none),
)

-- ---- the replay

module _ (words : List (List ℕ)) (files after : FileMap) (folder out : List ℕ) (ways : Ways) (faults_before faults_after : ℕ) (h : Hosting) (result : ℕ) (before printed : Option (List ℕ)) where
  -- a replay of this job was done and told
  kept_done : (job : JobView) → IsJobOf files folder ways job → IsSoundJob job → (plan : Plan) (history : List Event) (last : Stage) → IsDoneBy out job plan history last
      → after ≡ with_all plan.writes files → result ≡ done_status plan.differs → Appends plan.line before printed → KeepsPromise files after folder out ways result before printed
  kept_done job is_job sound plan history last done written status line =
      let replay = is_replay job history last sound done.0 in
      record {
        job = job;
        is_job = is_job;
        history = history;
        last = last;
        replay = done.0;
        once = each_once job history last replay.complete;
        named = lines_name job history last replay;
        are_files = record {
          told = done.2.told;
          is_told = done.2.told_is;
          written = written ∙ ap (λ (writes : List Write). with_all writes files) done.2.writes_are;
          status = status_tells plan.differs result (report_in job history).lines status done.1.differs;
          line = subst (λ (text : List ℕ). Appends text before printed) done.1.line line;
        };
        carried = λ waits none captured came. tables_carried job history last captured replay waits none came;
      }

  kept_end : (job : JobView) → IsJobOf files folder ways job → IsSoundJob job → (result ≡ 0) ⊎ (result ≡ 1)
      → Ends (Ok (ToReplay out job)) files after faults_before faults_after h result before printed → KeepsPromise files after folder out ways result before printed
  kept_end job is_job sound status (inl done) = kept_done job is_job sound done.0 done.1.0.0 done.1.0.1 done.1.0.2 done.2 done.3 done.4
  kept_end job is_job sound status (inr (inl found)) = absurd found.1
  kept_end job is_job sound status (inr (inr (inl undone))) = absurd undone.1
  kept_end job is_job sound status (inr (inr (inr (inl unsent)))) = absurd unsent.1
  kept_end job is_job sound status (inr (inr (inr (inr outside)))) = absurd (not_outside result status outside.0)

  -- by the steps of the decision
  kept_run : (task : Task) → ways.target ≡ None → (result ≡ 0) ⊎ (result ≡ 1) → RunIn files folder out ways (Ok task) → Verdict words files (Ok task)
      → Ends (Ok task) files after faults_before faults_after h result before printed → KeepsPromise files after folder out ways result before printed
  kept_run task none status is decided ends =
      let read = is.0 in
      let remap = is.2.0 in
      let target = is.2.2.0 in
      let legal = is.2.2.2.0 in
      let planned = legal_planned read.start (verdict read.start read.sessions) legal is.2.2.2.1 in
      let job : JobView = run_job (record { start = read.start; calls = planned.0.calls; facts = planned.0.facts }) target remap ways in
      let run : run_task out (run_job legal target remap ways) ways.target ≡ task = cc (is.2.2.2.2) in
      let whole : ToReplay out job ≡ run_task out (run_job legal target remap ways) ways.target =
      ap (λ (l : Legal). ToReplay out (run_job l target remap ways)) planned.2 ∙ ap (run_task out (run_job legal target remap ways)) (sym none) in
      let same : task ≡ ToReplay out job = sym run ∙ sym whole in
      let sound : IsSoundJob job = verdict_sound words files out job (subst (λ (t : Task). Verdict words files (Ok t)) same decided) in
      let is_job : IsJobOf files folder ways job = record {
        read = read;
        is_read = is.1;
        start = refl;
        calls = plan_calls read.start read.sessions planned.0 planned.1;
        legal = sound.replayable.legal;
        services = is.2.1;
        target = is.2.2.1;
        mode = refl;
        think = refl;
        connect = refl;
      } in
      kept_end job is_job sound status (subst (λ (t : Task). Ends (Ok t) files after faults_before faults_after h result before printed) same ends)

  kept_verdict : (answer : Result Task Failure) → ways.target ≡ None → (result ≡ 0) ⊎ (result ≡ 1) → VerdictOf (Some (Run folder out ways)) files answer → Verdict words files answer
      → Ends answer files after faults_before faults_after h result before printed → KeepsPromise files after folder out ways result before printed
  kept_verdict (Ok task) none status is decided ends = kept_run task none status is decided ends
  kept_verdict (Err failure) none status is decided ends = elim ends.2 as (λ _. KeepsPromise files after folder out ways result before printed) [
    | inl told ↦ absurd (not_two result (failure_status failure) status (failed_two (Decides (Run folder out ways) files) failure is) told.0)
    | inr outside ↦ absurd (not_outside result status outside)
  ]

pub kept_promise : RunsKeepThePromise
kept_promise words files after folder out ways faults_before faults_after h result before printed command none (inl some) status =
    kept_verdict words files after folder out ways faults_before faults_after h result before printed some.0 none status (subst (λ (c : Option Command). VerdictOf c files some.0) command some.1) some.1 some.2
kept_promise words files after folder out ways faults_before faults_after h result before printed command none (inr outside) status = absurd (not_outside result status outside.0)
