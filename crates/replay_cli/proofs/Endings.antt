-- How a command ends, from what its work came to and what was printed.
use Rattle.std.proofs.Common.{◌≡◌, ◌≢◌, ℕ, ◌≤◌, ◌⊎◌, inl, inr, Bool, true, false, List, length, arith, Option, Some, None, Result, Ok, Err, refl, sym, ap, subst, ◌∙◌}
use Rattle.std.specs.Prelude.{IsSomeAnd, IsErrOf, IsNone}
use Rattle.std.proofs.Math.Seq.{take-length}
use Rattle.desk_files.specs.declared.fault.WriteErr.{WriteErr}
use Rattle.desk_files.specs.declared.fault.WriteErr.TheVariants.{Failed, Memory}
use Rattle.desk_files.specs.declared.writes.Write.{Write}
use Rattle.desk_files.specs.Answers.{write_ending}
use Rattle.desk_files.specs.Outside.{Appends, Counts, DeviceFailed, Ending, FileMap, MemoryShort, Told, HasRisen}
use Rattle.desk_files.specs.Writes.{LeavesOfWrites, with_all}
use Rattle.replay_cli.specs.declared.failure.Refusal.{Refusal}
use Rattle.replay_cli.specs.declared.failure.Refusal.TheVariants.{Missing, TooLong, BadLine, BadReport, BadRemap, BadChange, NotLegal, Unshown}
use Rattle.replay_cli.specs.declared.failure.Failure.{Failure}
use Rattle.replay_cli.specs.declared.failure.Failure.TheVariants.{BadCommand, Refused, Differs, NotDone, NotSent, DeviceFault, OutOfMemory}
use Rattle.replay_cli.specs.declared.unsent.Unsent.{Unsent}
use Rattle.replay_cli.specs.declared.unsent.Unsent.TheVariants as unsent
use Rattle.replay_cli.specs.declared.unshown.Unshown.{Unshown as NotShown}
use Rattle.replay_cli.specs.declared.unshown.Unshown.TheVariants as unshown
use Rattle.replay_cli.specs.declared.plan.Plan.{Plan}
use Rattle.desk_words.specs.declared.words.Command.{Command}
use Rattle.register_work.specs.declared.unkept.Unkept.{Unkept}
use Rattle.register_work.specs.declared.unkept.Unkept.TheVariants.{NoRun, OtherRun, BadRun, NoCall, OtherCapture}
use Rattle.register_work.specs.Lines.{unkept_status}
use Rattle.replay_cli.specs.Lines.{done_status, refusal_status, unsent_status, unshown_status}
use Rattle.desk_words.specs.Command.{command_of}
use Rattle.capture_serve.specs.declared.failing.Finding.{Finding}
use Rattle.replay_cli.specs.Decision.{Decides, Task, ToKeep, ToMake, ToPage, ToReplay, ToSend, ToServe, ToShow, ToTell, ToTry, Verdict, VerdictOf}
use Rattle.replay_cli.specs.Done.{IsDone}
use Rattle.replay_cli.specs.Inside.Steps.{FailedAt, Step, Stops}
use Rattle.replay_cli.specs.Hosting.{Dialling, HasKept, HasNoFault, Hosting, IsUnasked}
use Rattle.replay_cli.specs.Ending.{Causes, Ends, EndsSo, HasDialled, KeptAs, IsCauseOf, IsEndingOf, IsFoundOf, IsOutside, IsUnsentOf, Reports, Stands, line_of, moves, status_of}
use Rattle.replay_cli.specs.Inside.Ending.{LeftOver, OneRose, RunFaults, RunSays}
use Rattle.replay_cli.specs.Inside.Serving.{DialFaults, PlanFails, WorkFaults}
use Rattle.replay_cli.proofs.Dialled.{few_dialled, undialled}
use Rattle.replay_cli.proofs.StepLaws.{told_both, told_at}
use Rattle.replay_cli.proofs.Unique.{verdict_one}
use Rattle.desk_files.proofs.WriteLaws.{told, some_and}

-- ---- the work

pub verdict_is : (words : List (List ℕ)) (files : FileMap) (command : Command) (task : Task) → command_of words ≡ Some command → Decides command files (Ok task) → Verdict words files (Ok task)
verdict_is words files command task is decided = subst (λ (c : Option Command). VerdictOf c files (Ok task)) (sym is) decided

abbrev pub failure_of : WriteErr → Failure
failure_of Failed = DeviceFault
failure_of Memory = OutOfMemory

module _ (h : Hosting) where
  -- what writing leaves, as a part of the whole
  of_left : (wanted : Result Task Failure → Type 0) (files after : FileMap) (f0 f1 f2 : ℕ) (task : Task) (plan : Plan) (error : WriteErr) → wanted (Ok task) → IsDone task plan h → HasNoFault h → f1 ≡ f0 → LeavesOfWrites plan.writes files (Err error) after → Counts (write_ending (Err error)) f1 f2 → RunSays wanted files after f0 f2 h (Err (failure_of error))
  of_left wanted files after f0 f1 f2 task plan Failed is done still same left failed = inr (task, is, inr (plan, done, still, inr (left, subst (λ (f : ℕ). HasRisen f f2) same failed.0)))
  of_left wanted files after f0 f1 f2 task plan Memory is done still same left failed = inr (task, is, inr (plan, done, still, inl left))

  pub run_cut : (c0 c1 c2 : Option FileMap) (f0 f1 f2 : ℕ) (words : List (List ℕ)) (command : Command) (task : Task) (plan : Plan) (writes : List Write) (error : WriteErr)
      → command_of words ≡ Some command → Step (λ files. Decides command files) c0 c1 f0 f1 (Ok task) → IsDone task plan h → HasNoFault h → writes ≡ plan.writes
      → Told c1 (λ files. IsSomeAnd c2 (LeavesOfWrites writes files (Err error))) → Counts (write_ending (Err error)) f1 f2
      → Told c0 (λ files. IsSomeAnd c2 (λ after. RunSays (Verdict words files) files after f0 f2 h (Err (failure_of error))))
  run_cut c0 c1 c2 f0 f1 f2 words command task plan writes error is step done still same left counts =
      told_both c0 (λ files decided some. some_and c2 (λ after l. of_left (Verdict words files) files after f0 f1 f2 task plan error (verdict_is words files command task is decided) done still step.faults (subst (λ (ws : List Write). LeavesOfWrites ws files (Err error) after) same l) counts) some) step.says (told_at _ c0 c1 step.content left)

  pub run_done : (c0 c1 c2 : Option FileMap) (f0 f1 f2 : ℕ) (words : List (List ℕ)) (command : Command) (task : Task) (plan : Plan) (writes : List Write)
      → command_of words ≡ Some command → Step (λ files. Decides command files) c0 c1 f0 f1 (Ok task) → IsDone task plan h → HasNoFault h → writes ≡ plan.writes → Told c1 (λ files. IsSomeAnd c2 (LeavesOfWrites writes files (Ok tt)))
      → Told c0 (λ files. IsSomeAnd c2 (λ after. RunSays (Verdict words files) files after f0 f2 h (Ok plan)))
  run_done c0 c1 c2 f0 f1 f2 words command task plan writes is step done still same left =
      told_both c0 (λ files decided some. some_and c2 (λ after l. (task, verdict_is words files command task is decided, done, still, l ∙ ap (λ ws. with_all ws files) same)) some) step.says (told_at _ c0 c1 step.content left)

  -- the work stops where deciding does
  stopped : (words : List (List ℕ)) (files : FileMap) (command : Command) (f0 f1 : ℕ) (failure : Failure) → IsUnasked h → command_of words ≡ Some command → Stops (Decides command files) failure → RunSays (Verdict words files) files files f0 f1 h (Err failure)
  stopped words files command f0 f1 BadCommand unasked is stops = absurd stops
  stopped words files command f0 f1 (Refused refusal) unasked is stops = (subst (λ (c : Option Command). VerdictOf c files (Err (Refused refusal))) (sym is) stops, refl, unasked)
  stopped words files command f0 f1 (Differs finding) unasked is stops = absurd stops
  stopped words files command f0 f1 (NotDone cause) unasked is stops = absurd stops
  stopped words files command f0 f1 (NotSent cause) unasked is stops = absurd stops
  stopped words files command f0 f1 DeviceFault unasked is stops = inl (refl, unasked)
  stopped words files command f0 f1 OutOfMemory unasked is stops = inl (refl, unasked)

  pub run_stopped : (c0 c1 : Option FileMap) (f0 f1 : ℕ) (words : List (List ℕ)) (command : Command) (failure : Failure) → IsUnasked h → command_of words ≡ Some command → Step (λ files. Decides command files) c0 c1 f0 f1 (Err failure)
      → Told c0 (λ files. IsSomeAnd c1 (λ after. RunSays (Verdict words files) files after f0 f1 h (Err failure)))
  run_stopped None c1 f0 f1 words command failure unasked is step = tt
  run_stopped (Some files) c1 f0 f1 words command failure unasked is step =
      subst (λ (c : Option FileMap). IsSomeAnd c (λ after. RunSays (Verdict words files) files after f0 f1 h (Err failure))) (sym step.content) (stopped words files command f0 f1 failure unasked is step.says)

  -- or where its task fails
  failed : (wanted : Result Task Failure → Type 0) (files : FileMap) (task : Task) (f0 f1 : ℕ) (failure : Failure) → wanted (Ok task) → PlanFails task h failure → RunSays wanted files files f0 f1 h (Err failure)
  failed wanted files task f0 f1 BadCommand is fails = absurd fails
  failed wanted files task f0 f1 (Refused refusal) is fails = absurd fails
  failed wanted files task f0 f1 (Differs finding) is fails = (task, is, fails, refl)
  failed wanted files task f0 f1 (NotDone cause) is fails = (task, is, fails, refl)
  failed wanted files task f0 f1 (NotSent cause) is fails = (task, is, fails, refl)
  failed wanted files task f0 f1 DeviceFault is fails = inr (task, is, inl (refl, fails.0, fails.1))
  failed wanted files task f0 f1 OutOfMemory is fails = inr (task, is, inl (refl, fails.0, fails.1))

  pub run_failed : (c0 c1 : Option FileMap) (f0 f1 : ℕ) (words : List (List ℕ)) (command : Command) (task : Task) (failure : Failure) → command_of words ≡ Some command → Step (λ files. Decides command files) c0 c1 f0 f1 (Ok task) → PlanFails task h failure
      → Told c0 (λ files. IsSomeAnd c1 (λ after. RunSays (Verdict words files) files after f0 f1 h (Err failure)))
  run_failed None c1 f0 f1 words command task failure is step fails = tt
  run_failed (Some files) c1 f0 f1 words command task failure is step fails =
      subst (λ (c : Option FileMap). IsSomeAnd c (λ after. RunSays (Verdict words files) files after f0 f1 h (Err failure))) (sym step.content) (failed (Verdict words files) files task f0 f1 failure (verdict_is words files command task is step.says) fails)

-- how the counts move where the files' count stood, and then the others moved so
pub moved_then : (done : Result Plan Failure) (f0 f1 : ℕ) (h : Hosting) → f1 ≡ f0 → WorkFaults done h → RunFaults done f0 f1 h
moved_then (Ok plan) f0 f1 h files work = (files, work)
moved_then (Err BadCommand) f0 f1 h files work = (files, work)
moved_then (Err (Refused refusal)) f0 f1 h files work = (files, work)
moved_then (Err (Differs finding)) f0 f1 h files work = (files, work)
moved_then (Err (NotDone cause)) f0 f1 h files work = (files, work)
moved_then (Err (NotSent cause)) f0 f1 h files work = (files, work)
moved_then (Err DeviceFault) f0 f1 h files work = inr (files, work)
moved_then (Err OutOfMemory) f0 f1 h files work = (files, work)

-- ---- the end

outside : (done : Result Plan Failure) (result : ℕ) (b a : Option (List ℕ)) (s0 s1 : ℕ) → Reports done result b a s0 s1 → status_of done ≡ 5 ⊎ status_of done ≡ 6 → IsOutside result
outside done result b a s0 s1 (inl own) (inl five) = inl (own.0 ∙ five)
outside done result b a s0 s1 (inl own) (inr six) = inr (own.0 ∙ six)
outside done result b a s0 s1 (inr (inl short)) is = inr short.0
outside done result b a s0 s1 (inr (inr fault)) is = inl fault.0

own_or_outside : (done : Result Plan Failure) (result : ℕ) (b a : Option (List ℕ)) (s0 s1 : ℕ) → Reports done result b a s0 s1 → ((result ≡ status_of done) × Appends (line_of done) b a) ⊎ (IsOutside result)
own_or_outside done result b a s0 s1 (inl own) = inl (own.0, own.1)
own_or_outside done result b a s0 s1 (inr (inl short)) = inr (inr short.0)
own_or_outside done result b a s0 s1 (inr (inr fault)) = inr (inl fault.0)

-- a fault is told by the status of one
five_of : (result : ℕ) (b a : Option (List ℕ)) (s0 s1 : ℕ) → Reports (Err DeviceFault) result b a s0 s1 → result ≡ 5
five_of result b a s0 s1 (inl own) = own.0
five_of result b a s0 s1 (inr (inl short)) = absurd (short.3 refl)
five_of result b a s0 s1 (inr (inr fault)) = fault.0

module _ (h : Hosting) where
  left_ends : (wanted : Result Task Failure → Type 0) (ending : Ending) (files after : FileMap) (f0 f1 result : ℕ) (b a : Option (List ℕ)) → LeftOver wanted ending files after f0 f1 h → IsOutside result → IsEndingOf ending result → EndsSo wanted files after f0 f1 h result b a
  left_ends wanted ending files after f0 f1 result b a (inl same) is of = inr (is, same.0, same.1)
  left_ends wanted ending files after f0 f1 result b a (inr left) is of = inl (Ok left.0, left.1, inr (inr (inr (inr (is, (ending, of, left.2))))))

  -- the keeper tells what it did where something is found to differ, where an errand is not done, and where a replay against another
  -- server comes to no end
  kept_found : (task : Task) (finding : Finding) → IsFoundOf task finding h → KeptAs task MemoryShort h × HasDialled task h.dial
  kept_found (ToServe out start most port) finding found = ((found.2.runs, found.2.divergences), tt)
  kept_found (ToReplay out job) finding found = absurd found
  kept_found (ToSend out job port) finding found = absurd found
  kept_found (ToTell out facts) finding found = absurd found
  kept_found (ToMake n out) finding found = absurd found
  kept_found (ToTry n) finding found = absurd found
  kept_found (ToPage page calls divergent) finding found = absurd found
  kept_found (ToShow view asked) finding found = absurd found
  kept_found (ToKeep errand) finding found = absurd found

  kept_caused : (task : Task) (cause : Unkept) → IsCauseOf task cause h → KeptAs task MemoryShort h × HasDialled task h.dial
  kept_caused (ToKeep errand) cause caused = (inl (caused.1.1.runs, caused.1.1.divergences), tt)
  kept_caused (ToServe out start most port) cause caused = absurd caused
  kept_caused (ToReplay out job) cause caused = absurd caused
  kept_caused (ToSend out job port) cause caused = absurd caused
  kept_caused (ToTell out facts) cause caused = absurd caused
  kept_caused (ToMake n out) cause caused = absurd caused
  kept_caused (ToTry n) cause caused = absurd caused
  kept_caused (ToPage page calls divergent) cause caused = absurd caused
  kept_caused (ToShow view asked) cause caused = absurd caused

  kept_unsent : (task : Task) (cause : Unsent) → IsUnsentOf task cause h → KeptAs task MemoryShort h × HasDialled task h.dial
  kept_unsent (ToSend out job port) cause sent =
      ((sent.2.runs, sent.2.divergences), few_dialled job.calls h.dial.before h.dial.after h.dial.counts_before h.dial.counts_after sent.0.error sent.0.once)
  kept_unsent (ToReplay out job) cause sent = absurd sent
  kept_unsent (ToTell out facts) cause sent = absurd sent
  kept_unsent (ToServe out start most port) cause sent = absurd sent
  kept_unsent (ToMake n out) cause sent = absurd sent
  kept_unsent (ToTry n) cause sent = absurd sent
  kept_unsent (ToPage page calls divergent) cause sent = absurd sent
  kept_unsent (ToShow view asked) cause sent = absurd sent
  kept_unsent (ToKeep errand) cause sent = absurd sent

  pub ends : (wanted : Result Task Failure → Type 0) (files after : FileMap) (f0 f1 : ℕ) (done : Result Plan Failure) (result : ℕ) (b a : Option (List ℕ)) (s0 s1 : ℕ) → RunSays wanted files after f0 f1 h done → Reports done result b a s0 s1 → EndsSo wanted files after f0 f1 h result b a
  ends wanted files after f0 f1 (Ok plan) result b a s0 s1 says reports = elim (own_or_outside (Ok plan) result b a s0 s1 reports) [
    | inl own ↦ inl (Ok says.0, says.1, inl (plan, says.2, says.4, own.0, own.1))
    | inr is ↦ inl (Ok says.0, says.1, inr (inr (inr (inr (is, (MemoryShort, is, inr (plan, says.2, says.3, inl (length plan.writes, says.4 ∙ ap (λ ws. with_all ws files) (sym (take-length plan.writes))))))))))
  ]
  ends wanted files after f0 f1 (Err BadCommand) result b a s0 s1 says reports = inl (Err BadCommand, says.0, (says.1, says.2, own_or_outside (Err BadCommand) result b a s0 s1 reports))
  ends wanted files after f0 f1 (Err (Refused refusal)) result b a s0 s1 says reports = inl (Err (Refused refusal), says.0, (says.1, says.2, own_or_outside (Err (Refused refusal)) result b a s0 s1 reports))
  ends wanted files after f0 f1 (Err (Differs finding)) result b a s0 s1 says reports = elim (own_or_outside (Err (Differs finding)) result b a s0 s1 reports) [
    | inl own ↦ inl (Ok says.0, says.1, inr (inl (finding, says.2, says.3, own.0, own.1)))
    | inr is ↦ let kept = kept_found says.0 finding says.2 in inl (Ok says.0, says.1, inr (inr (inr (inr (is, (MemoryShort, is, inl (says.3, kept.0, kept.1)))))))
  ]
  ends wanted files after f0 f1 (Err (NotDone cause)) result b a s0 s1 says reports = elim (own_or_outside (Err (NotDone cause)) result b a s0 s1 reports) [
    | inl own ↦ inl (Ok says.0, says.1, inr (inr (inl (cause, says.2, says.3, own.0, own.1))))
    | inr is ↦ let kept = kept_caused says.0 cause says.2 in inl (Ok says.0, says.1, inr (inr (inr (inr (is, (MemoryShort, is, inl (says.3, kept.0, kept.1)))))))
  ]
  ends wanted files after f0 f1 (Err (NotSent cause)) result b a s0 s1 says reports = elim (own_or_outside (Err (NotSent cause)) result b a s0 s1 reports) [
    | inl own ↦ inl (Ok says.0, says.1, inr (inr (inr (inl (cause, says.2, says.3, own.0, own.1)))))
    | inr is ↦ let kept = kept_unsent says.0 cause says.2 in inl (Ok says.0, says.1, inr (inr (inr (inr (is, (MemoryShort, is, inl (says.3, kept.0, kept.1)))))))
  ]
  ends wanted files after f0 f1 (Err DeviceFault) result b a s0 s1 says reports =
      let five = five_of result b a s0 s1 reports in left_ends wanted DeviceFailed files after f0 f1 result b a says (inl five) five
  ends wanted files after f0 f1 (Err OutOfMemory) result b a s0 s1 says reports =
      let is = outside (Err OutOfMemory) result b a s0 s1 reports (inr refl) in left_ends wanted MemoryShort files after f0 f1 result b a says is is

  pub told_ends : (c0 c1 : Option FileMap) (words : List (List ℕ)) (f0 f1 : ℕ) (done : Result Plan Failure) (result : ℕ) (b a : Option (List ℕ)) (s0 s1 : ℕ) → Told c0 (λ files. IsSomeAnd c1 (λ after. RunSays (Verdict words files) files after f0 f1 h done)) → Reports done result b a s0 s1
      → Told c0 (λ files. IsSomeAnd c1 (λ after. EndsSo (Verdict words files) files after f0 f1 h result b a))
  told_ends c0 c1 words f0 f1 done result b a s0 s1 says reports = told c0 (λ files some. some_and c1 (λ after s. ends (Verdict words files) files after f0 f1 done result b a s0 s1 s reports) some) says

  kept_as : (task : Task) → HasKept h → KeptAs task MemoryShort h
  kept_as (ToKeep errand) kept = inl kept
  kept_as (ToServe out start most port) kept = kept
  kept_as (ToReplay out job) kept = kept
  kept_as (ToSend out job port) kept = kept
  kept_as (ToTell out facts) kept = kept
  kept_as (ToMake n out) kept = kept
  kept_as (ToTry n) kept = kept
  kept_as (ToPage page calls divergent) kept = kept
  kept_as (ToShow view asked) kept = kept

  -- it ends so with each verdict, since there is one
  each_end : (words : List (List ℕ)) (files after : FileMap) (f0 f1 result : ℕ) (b a : Option (List ℕ)) → EndsSo (Verdict words files) files after f0 f1 h result b a → (verdict : Result Task Failure) → Verdict words files verdict → Ends verdict files after f0 f1 h result b a
  each_end words files after f0 f1 result b a (inl some) verdict is = subst (λ (v : Result Task Failure). Ends v files after f0 f1 h result b a) (verdict_one words files some.0 verdict some.1 is) some.2
  each_end words files after f0 f1 result b a (inr none) (Ok task) is = inr (inr (inr (inr (none.0, (MemoryShort, none.0, inl (none.1, kept_as task (none.2.1.runs, none.2.1.divergences), undialled task h.dial none.2.2.0 none.2.2.1))))))
  each_end words files after f0 f1 result b a (inr none) (Err failure) is = (none.1, none.2, inr none.0)

  pub told_each : (c0 c1 : Option FileMap) (words : List (List ℕ)) (f0 f1 result : ℕ) (b a : Option (List ℕ)) → Told c0 (λ files. IsSomeAnd c1 (λ after. EndsSo (Verdict words files) files after f0 f1 h result b a))
      → Told c0 (λ files. IsSomeAnd c1 (λ after. (verdict : Result Task Failure) → Verdict words files verdict → Ends verdict files after f0 f1 h result b a))
  told_each c0 c1 words f0 f1 result b a says = told c0 (λ files some. some_and c1 (λ after s. each_end words files after f0 f1 result b a s) some) says

-- ---- the causes

-- a refusal has a status of its own
record IsOwn (status : ℕ) : Type 0 where
  no_command : status ≢ 2
  no_fault : status ≢ 5
  no_link : status ≢ 10

unshown_own : (cause : NotShown) → IsOwn (unshown_status cause)
unshown_own (unshown.BadJournal name line) = record { no_command = λ e. omega (arith, e); no_fault = λ e. omega (arith, e); no_link = λ e. omega (arith, e) }
unshown_own (unshown.BadReads name line) = record { no_command = λ e. omega (arith, e); no_fault = λ e. omega (arith, e); no_link = λ e. omega (arith, e) }
unshown_own (unshown.Unfit found) = record { no_command = λ e. omega (arith, e); no_fault = λ e. omega (arith, e); no_link = λ e. omega (arith, e) }
unshown_own (unshown.NoCall stamp) = record { no_command = λ e. omega (arith, e); no_fault = λ e. omega (arith, e); no_link = λ e. omega (arith, e) }

refused_own : (refusal : Refusal) → IsOwn (refusal_status refusal)
refused_own (Missing name) = record { no_command = λ e. omega (arith, e); no_fault = λ e. omega (arith, e); no_link = λ e. omega (arith, e) }
refused_own (TooLong name) = record { no_command = λ e. omega (arith, e); no_fault = λ e. omega (arith, e); no_link = λ e. omega (arith, e) }
refused_own (BadLine name line) = record { no_command = λ e. omega (arith, e); no_fault = λ e. omega (arith, e); no_link = λ e. omega (arith, e) }
refused_own (BadReport name line) = record { no_command = λ e. omega (arith, e); no_fault = λ e. omega (arith, e); no_link = λ e. omega (arith, e) }
refused_own (BadRemap n) = record { no_command = λ e. omega (arith, e); no_fault = λ e. omega (arith, e); no_link = λ e. omega (arith, e) }
refused_own (BadChange n) = record { no_command = λ e. omega (arith, e); no_fault = λ e. omega (arith, e); no_link = λ e. omega (arith, e) }
refused_own (NotLegal cause) = record { no_command = λ e. omega (arith, e); no_fault = λ e. omega (arith, e); no_link = λ e. omega (arith, e) }
refused_own (Unshown cause) = unshown_own cause

cause_own : (cause : Unkept) → IsOwn (unkept_status cause)
cause_own (NoRun name) = record { no_command = λ e. omega (arith, e); no_fault = λ e. omega (arith, e); no_link = λ e. omega (arith, e) }
cause_own (OtherRun name) = record { no_command = λ e. omega (arith, e); no_fault = λ e. omega (arith, e); no_link = λ e. omega (arith, e) }
cause_own (BadRun name line) = record { no_command = λ e. omega (arith, e); no_fault = λ e. omega (arith, e); no_link = λ e. omega (arith, e) }
cause_own (NoCall stamp) = record { no_command = λ e. omega (arith, e); no_fault = λ e. omega (arith, e); no_link = λ e. omega (arith, e) }
cause_own (OtherCapture one n other m) = record { no_command = λ e. omega (arith, e); no_fault = λ e. omega (arith, e); no_link = λ e. omega (arith, e) }

done_own : (differs : Bool) → IsOwn (done_status differs)
done_own true = record { no_command = λ e. omega (arith, e); no_fault = λ e. omega (arith, e); no_link = λ e. omega (arith, e) }
done_own false = record { no_command = λ e. omega (arith, e); no_fault = λ e. omega (arith, e); no_link = λ e. omega (arith, e) }

unsent_own : (cause : Unsent) → (unsent_status cause ≢ 2) × (unsent_status cause ≢ 5)
unsent_own unsent.Link = (λ e. omega (arith, e), λ e. omega (arith, e))
unsent_own unsent.Job = (λ e. omega (arith, e), λ e. omega (arith, e))
unsent_own (unsent.Mismatch session place kept answered) = (λ e. omega (arith, e), λ e. omega (arith, e))

two_means : (done : Result Plan Failure) → status_of done ≡ 2 → IsErrOf done BadCommand
two_means (Ok plan) two = absurd ((done_own plan.differs).no_command two)
two_means (Err BadCommand) two = refl
two_means (Err (Refused refusal)) two = absurd ((refused_own refusal).no_command two)
two_means (Err (Differs finding)) two = absurd (omega (arith, two))
two_means (Err (NotDone cause)) two = absurd ((cause_own cause).no_command two)
two_means (Err (NotSent cause)) two = absurd ((unsent_own cause).0 two)
two_means (Err DeviceFault) two = absurd (omega (arith, two))
two_means (Err OutOfMemory) two = absurd (omega (arith, two))

-- one of the three counts rose
SomeRose : ℕ → ℕ → Hosting → Type 0
SomeRose f0 f1 h = HasRisen f0 f1 ⊎ (HasRisen h.faults_before h.faults_after ⊎ HasRisen h.keeper.faults_before h.keeper.faults_after)

one_rose : (f0 f1 : ℕ) (h : Hosting) → OneRose f0 f1 h → SomeRose f0 f1 h
unfolding SomeRose
one_rose f0 f1 h (inl files) = inl files.0.0
one_rose f0 f1 h (inr (same, inl host)) = inr (inl host.0.0)
one_rose f0 f1 h (inr (same, inr keeper)) = inr (inr keeper.1.0)

five_means : (done : Result Plan Failure) (f0 f1 : ℕ) (h : Hosting) → RunFaults done f0 f1 h → status_of done ≡ 5 → SomeRose f0 f1 h
five_means (Ok plan) f0 f1 h faults five = absurd ((done_own plan.differs).no_fault five)
five_means (Err BadCommand) f0 f1 h faults five = absurd (omega (arith, five))
five_means (Err (Refused refusal)) f0 f1 h faults five = absurd ((refused_own refusal).no_fault five)
five_means (Err (Differs finding)) f0 f1 h faults five = absurd (omega (arith, five))
five_means (Err (NotDone cause)) f0 f1 h faults five = absurd ((cause_own cause).no_fault five)
five_means (Err (NotSent cause)) f0 f1 h faults five = absurd ((unsent_own cause).1 five)
five_means (Err DeviceFault) f0 f1 h faults five = one_rose f0 f1 h faults
five_means (Err OutOfMemory) f0 f1 h faults five = absurd (omega (arith, five))

both_stand : (done : Result Plan Failure) (f0 f1 : ℕ) (h : Hosting) → RunFaults done f0 f1 h → ¬ IsErrOf done DeviceFault → (f1 ≡ f0) × HasNoFault h
both_stand (Ok plan) f0 f1 h faults other = faults
both_stand (Err BadCommand) f0 f1 h faults other = faults
both_stand (Err (Refused refusal)) f0 f1 h faults other = faults
both_stand (Err (Differs finding)) f0 f1 h faults other = faults
both_stand (Err (NotDone cause)) f0 f1 h faults other = faults
both_stand (Err (NotSent cause)) f0 f1 h faults other = faults
both_stand (Err DeviceFault) f0 f1 h faults other = absurd (other refl)
both_stand (Err OutOfMemory) f0 f1 h faults other = faults

-- no count falls
record Grow (f0 f1 : ℕ) (h : Hosting) : Type 0 where
  files : f0 ≤ f1
  host : h.faults_before ≤ h.faults_after
  keeper : h.keeper.faults_before ≤ h.keeper.faults_after

grow_still : (f0 f1 : ℕ) (h : Hosting) → (f1 ≡ f0) × HasNoFault h → Grow f0 f1 h
grow_still f0 f1 h still = record { files = omega (arith, still.0); host = omega (arith, still.1.0); keeper = omega (arith, still.1.1) }

all_grow : (done : Result Plan Failure) (f0 f1 : ℕ) (h : Hosting) → RunFaults done f0 f1 h → Grow f0 f1 h
all_grow (Ok plan) f0 f1 h faults = grow_still f0 f1 h faults
all_grow (Err BadCommand) f0 f1 h faults = grow_still f0 f1 h faults
all_grow (Err (Refused refusal)) f0 f1 h faults = grow_still f0 f1 h faults
all_grow (Err (Differs finding)) f0 f1 h faults = grow_still f0 f1 h faults
all_grow (Err (NotDone cause)) f0 f1 h faults = grow_still f0 f1 h faults
all_grow (Err (NotSent cause)) f0 f1 h faults = grow_still f0 f1 h faults
all_grow (Err DeviceFault) f0 f1 h (inl files) = record { files = files.0.1; host = omega (arith, files.1.0); keeper = omega (arith, files.1.1) }
all_grow (Err DeviceFault) f0 f1 h (inr (same, inl host)) = record { files = omega (arith, same); host = host.0.1; keeper = omega (arith, host.1) }
all_grow (Err DeviceFault) f0 f1 h (inr (same, inr keeper)) = record { files = omega (arith, same); host = omega (arith, keeper.0); keeper = keeper.1.1 }
all_grow (Err OutOfMemory) f0 f1 h faults = grow_still f0 f1 h faults

some_rose : (f0 f1 : ℕ) (h : Hosting) (s0 s1 : ℕ) → SomeRose f0 f1 h → HasRisen f0 f1 ⊎ (HasRisen h.faults_before h.faults_after ⊎ (HasRisen h.keeper.faults_before h.keeper.faults_after ⊎ HasRisen s0 s1))
unfolding SomeRose
some_rose f0 f1 h s0 s1 (inl files) = inl files
some_rose f0 f1 h s0 s1 (inr (inl host)) = inr (inl host)
some_rose f0 f1 h s0 s1 (inr (inr keeper)) = inr (inr (inl keeper))

fault_of : (done : Result Plan Failure) (result : ℕ) (b a : Option (List ℕ)) (f0 f1 : ℕ) (h : Hosting) (s0 s1 : ℕ) → RunFaults done f0 f1 h → Reports done result b a s0 s1 → result ≡ 5 → HasRisen f0 f1 ⊎ (HasRisen h.faults_before h.faults_after ⊎ (HasRisen h.keeper.faults_before h.keeper.faults_after ⊎ HasRisen s0 s1))
fault_of done result b a f0 f1 h s0 s1 faults (inl own) five = some_rose f0 f1 h s0 s1 (five_means done f0 f1 h faults (sym own.0 ∙ five))
fault_of done result b a f0 f1 h s0 s1 faults (inr (inl short)) five = absurd (omega (arith, short.0, five))
fault_of done result b a f0 f1 h s0 s1 faults (inr (inr fault)) five = inr (inr (inr fault.1))

-- ---- the count of the dial

dial_grows : (done : Result Plan Failure) (dial : Dialling) → DialFaults done dial → dial.counts_before.faults ≤ dial.counts_after.faults
dial_grows (Ok plan) dial faults = faults
dial_grows (Err BadCommand) dial faults = faults
dial_grows (Err (Refused refusal)) dial faults = faults
dial_grows (Err (Differs finding)) dial faults = faults
dial_grows (Err (NotDone cause)) dial faults = faults
dial_grows (Err (NotSent unsent.Link)) dial faults = faults.1
dial_grows (Err (NotSent unsent.Job)) dial faults = faults
dial_grows (Err (NotSent (unsent.Mismatch session place kept answered))) dial faults = faults
dial_grows (Err DeviceFault) dial faults = faults
dial_grows (Err OutOfMemory) dial faults = faults

ten_means : (done : Result Plan Failure) (dial : Dialling) → DialFaults done dial → status_of done ≡ 10 → HasRisen dial.counts_before.faults dial.counts_after.faults
ten_means (Ok plan) dial faults ten = absurd ((done_own plan.differs).no_link ten)
ten_means (Err BadCommand) dial faults ten = absurd (omega (arith, ten))
ten_means (Err (Refused refusal)) dial faults ten = absurd ((refused_own refusal).no_link ten)
ten_means (Err (Differs finding)) dial faults ten = absurd (omega (arith, ten))
ten_means (Err (NotDone cause)) dial faults ten = absurd ((cause_own cause).no_link ten)
ten_means (Err (NotSent unsent.Link)) dial faults ten = faults.0
ten_means (Err (NotSent unsent.Job)) dial faults ten = absurd (omega (arith, ten))
ten_means (Err (NotSent (unsent.Mismatch session place kept answered))) dial faults ten = absurd (omega (arith, ten))
ten_means (Err DeviceFault) dial faults ten = absurd (omega (arith, ten))
ten_means (Err OutOfMemory) dial faults ten = absurd (omega (arith, ten))

link_of : (done : Result Plan Failure) (dial : Dialling) (result : ℕ) (b a : Option (List ℕ)) (s0 s1 : ℕ) → DialFaults done dial → Reports done result b a s0 s1 → result ≡ 10 → HasRisen dial.counts_before.faults dial.counts_after.faults
link_of done dial result b a s0 s1 faults (inl own) ten = ten_means done dial faults (sym own.0 ∙ ten)
link_of done dial result b a s0 s1 faults (inr (inl short)) ten = absurd (omega (arith, short.0, ten))
link_of done dial result b a s0 s1 faults (inr (inr fault)) ten = absurd (omega (arith, fault.0, ten))

-- a failure of deciding asks no dial
pub decided_dial : (failure : Failure) (f0 f1 : ℕ) (dial : Dialling) → FailedAt failure f0 f1 → dial.counts_before.faults ≤ dial.counts_after.faults → DialFaults (Err failure) dial
decided_dial BadCommand f0 f1 dial fails grows = absurd fails
decided_dial (Refused refusal) f0 f1 dial fails grows = grows
decided_dial (Differs finding) f0 f1 dial fails grows = absurd fails
decided_dial (NotDone cause) f0 f1 dial fails grows = absurd fails
decided_dial (NotSent cause) f0 f1 dial fails grows = absurd fails
decided_dial DeviceFault f0 f1 dial fails grows = grows
decided_dial OutOfMemory f0 f1 dial fails grows = grows

-- ---- all causes

module _ (f0 f1 : ℕ) (h : Hosting) (s0 s1 : ℕ) where
  all_stand : (done : Result Plan Failure) (result : ℕ) (b a : Option (List ℕ)) → RunFaults done f0 f1 h → Reports done result b a s0 s1 → result ≢ 5 → Stands (moves f0 f1 h.faults_before h.faults_after h.keeper.faults_before h.keeper.faults_after h.dial.counts_before.faults h.dial.counts_after.faults s0 s1)
  all_stand done result b a faults (inl own) other =
      let both = both_stand done f0 f1 h faults (λ e. other (own.0 ∙ ap status_of e)) in
      record { files = both.0; host = both.1.0; keeper = both.1.1; out = own.2 }
  all_stand done result b a faults (inr (inl short)) other =
      let both = both_stand done f0 f1 h faults short.3 in
      record { files = both.0; host = both.1.0; keeper = both.1.1; out = short.2 }
  all_stand done result b a faults (inr (inr fault)) other = absurd (other fault.0)

command_of_two : (words : List (List ℕ)) (done : Result Plan Failure) (result : ℕ) (b a : Option (List ℕ)) (s0 s1 : ℕ) → (IsErrOf done BadCommand → IsNone (command_of words)) → Reports done result b a s0 s1 → result ≡ 2 → IsNone (command_of words)
command_of_two words done result b a s0 s1 only (inl own) two = only (two_means done (sym own.0 ∙ two))
command_of_two words done result b a s0 s1 only (inr (inl short)) two = absurd (omega (arith, short.0, two))
command_of_two words done result b a s0 s1 only (inr (inr fault)) two = absurd (omega (arith, fault.0, two))

pub causes : (words : List (List ℕ)) (done : Result Plan Failure) (result : ℕ) (b a : Option (List ℕ)) (f0 f1 : ℕ) (h : Hosting) (s0 s1 : ℕ) → (IsErrOf done BadCommand → IsNone (command_of words)) → RunFaults done f0 f1 h → DialFaults done h.dial → Reports done result b a s0 s1 → s0 ≤ s1
    → Causes words result (moves f0 f1 h.faults_before h.faults_after h.keeper.faults_before h.keeper.faults_after h.dial.counts_before.faults h.dial.counts_after.faults s0 s1)
causes words done result b a f0 f1 h s0 s1 only faults dial reports out =
    let grown = all_grow done f0 f1 h faults in
    record {
      command = command_of_two words done result b a s0 s1 only reports;
      fault = fault_of done result b a f0 f1 h s0 s1 faults reports;
      link = link_of done h.dial result b a s0 s1 dial reports;
      stands = all_stand f0 f1 h s0 s1 done result b a faults reports;
      files = grown.files;
      host = grown.host;
      keeper = grown.keeper;
      dial = dial_grows done h.dial dial;
      out = out;
    }
