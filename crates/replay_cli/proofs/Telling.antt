-- What words may come to, from how deciding and doing their task may fail.
use Rattle.std.proofs.Common.{◌≡◌, ◌≢◌, ℕ, [], Option, Some, None, Result, Ok, Err, inl, inr, refl, sym, subst}
use Rattle.desk_files.specs.declared.fault.WriteErr.{WriteErr}
use Rattle.desk_files.specs.declared.fault.WriteErr.TheVariants.{Failed, Memory}
use Rattle.desk_files.specs.Outside.{DeviceFailed, Ending, MemoryShort}
use Rattle.desk_words.specs.declared.words.Command.{Command}
use Rattle.desk_words.specs.declared.words.Command.TheVariants.{Run, Prepare, Serve, Generate, Trial, Register, Runs, Accept, Compare, Page, Show}
use Rattle.capture_serve.specs.declared.failing.Finding.{Finding}
use Rattle.capture_serve.specs.Service.{HasGivenBackAll}
use Rattle.replay_cli.specs.declared.failure.Failure.{Failure}
use Rattle.replay_cli.specs.declared.failure.Failure.TheVariants.{BadCommand, Refused, Differs, NotDone, NotSent, DeviceFault, OutOfMemory}
use Rattle.replay_cli.specs.declared.plan.Plan.{Plan}
use Rattle.register_work.specs.declared.errand.Errand.{Errand}
use Rattle.register_work.specs.declared.unkept.Unkept.{Unkept}
use Rattle.replay_cli.specs.Decision.{IsErrandOf, IsTaskOf, MayBeRefused, Task, ToKeep, ToMake, ToPage, ToReplay, ToSend, ToServe, ToShow, ToTell, ToTry}
use Rattle.replay_cli.specs.Done.{HandsBack, IsDone}
use Rattle.replay_cli.specs.Hosting.{HasKept, Hosting, IsUnasked}
use Rattle.replay_cli.specs.Ending.{GivesAllBack, IsCauseOf, IsFoundOf, IsNothingAsked, KeptAs, MayAsk, MayComeTo, MayDiffer, MayHaveKept, SomeHandsBack}
use Rattle.replay_cli.specs.Inside.Serving.{AsksFor, PlanFails}
use Rattle.replay_cli.specs.Inside.Steps.{MayFail}
use Rattle.replay_cli.proofs.Endings.{failure_of}

-- where the keeper was not asked, it has what it had
kept_unasked : (h : Hosting) → IsUnasked h → HasKept h
kept_unasked h unasked = (unasked.1.runs, unasked.1.divergences)

-- and so where a file is written: no errand writes one
kept_writing : (task : Task) (h : Hosting) (plan : Plan) → IsDone task plan h → plan.writes ≢ [] → HasKept h
kept_writing (ToServe out start most port) h plan done some = (done.1.runs, done.1.divergences)
kept_writing (ToKeep errand) h plan done some = absurd (some done.0.1)
kept_writing (ToReplay out job) h plan done some = kept_unasked h done.1
kept_writing (ToTell out facts) h plan done some = kept_unasked h done.1
kept_writing (ToMake n out) h plan done some = kept_unasked h done.1
kept_writing (ToTry n) h plan done some = kept_unasked h done.1
kept_writing (ToPage page calls divergent) h plan done some = kept_unasked h done.1
kept_writing (ToShow view asked) h plan done some = kept_unasked h done.1
kept_writing (ToSend out job port) h plan done some = (done.2.runs, done.2.divergences)

-- the command is one of these words
told_of : (found : Option Command) (command : Command) (h : Hosting) (done : Result Plan Failure) → found ≡ Some command → MayComeTo (Some command) h done → MayComeTo found h done
told_of found command h done is may = subst (λ (c : Option Command). MayComeTo c h done) (sym is) may

refused_told : (command : Command) (h : Hosting) (failure : Failure) → IsUnasked h → MayFail (MayBeRefused command) failure → MayComeTo (Some command) h (Err failure)
refused_told command h BadCommand unasked may = absurd may
refused_told command h (Refused refusal) unasked may = (may, unasked)
refused_told command h (Differs finding) unasked may = absurd may
refused_told command h (NotDone cause) unasked may = absurd may
refused_told command h (NotSent cause) unasked may = absurd may
refused_told command h DeviceFault unasked may = inl (kept_unasked h unasked)
refused_told command h OutOfMemory unasked may = inl (kept_unasked h unasked)

differs_told : (command : Command) (task : Task) (finding : Finding) (h : Hosting) → IsTaskOf command task → IsFoundOf task finding h → MayDiffer command finding h
differs_told command (ToReplay out job) finding h is found = absurd found
differs_told command (ToSend out job port) finding h is found = absurd found
differs_told command (ToTell out facts) finding h is found = absurd found
differs_told command (ToMake n out) finding h is found = absurd found
differs_told command (ToTry n) finding h is found = absurd found
differs_told command (ToPage page calls divergent) finding h is found = absurd found
differs_told command (ToShow view asked) finding h is found = absurd found
differs_told command (ToKeep errand) finding h is found = absurd found
differs_told (Run capture out ways) (ToServe folder start most port) finding h is found = absurd is
differs_told (Prepare capture out) (ToServe folder start most port) finding h is found = absurd is
differs_told (Serve capture name connections door) (ToServe folder start most port) finding h is found = ((start, is.3, found.0), subst (λ (n : ℕ). HasGivenBackAll n h.before h.after) is.1 found.1, found.2, found.3)
differs_told (Generate n out) (ToServe folder start most port) finding h is found = absurd is
differs_told (Trial n) (ToServe folder start most port) finding h is found = absurd is
differs_told (Register out run) (ToServe folder start most port) finding h is found = absurd is
differs_told Runs (ToServe folder start most port) finding h is found = absurd is
differs_told (Accept run stamp class) (ToServe folder start most port) finding h is found = absurd is
differs_told (Compare base other) (ToServe folder start most port) finding h is found = absurd is
differs_told (Page captured left) (ToServe folder start most port) finding h is found = absurd is
differs_told (Show captured left stamp) (ToServe folder start most port) finding h is found = absurd is

errand_of : (command : Command) (errand : Errand) → IsTaskOf command (ToKeep errand) → IsErrandOf command errand
errand_of (Run capture out ways) errand is = absurd is
errand_of (Prepare capture out) errand is = absurd is
errand_of (Serve capture name connections door) errand is = absurd is
errand_of (Generate n out) errand is = absurd is
errand_of (Trial n) errand is = absurd is
errand_of (Register out run) errand is = is
errand_of Runs errand is = is
errand_of (Accept run stamp class) errand is = is
errand_of (Compare base other) errand is = is
errand_of (Page capture out) errand is = absurd is
errand_of (Show capture out stamp) errand is = absurd is

cause_told : (command : Command) (task : Task) (cause : Unkept) (h : Hosting) → IsTaskOf command task → IsCauseOf task cause h → MayComeTo (Some command) h (Err (NotDone cause))
cause_told command (ToReplay out job) cause h is caused = absurd caused
cause_told command (ToSend out job port) cause h is caused = absurd caused
cause_told command (ToTell out facts) cause h is caused = absurd caused
cause_told command (ToServe folder start most port) cause h is caused = absurd caused
cause_told command (ToMake n out) cause h is caused = absurd caused
cause_told command (ToTry n) cause h is caused = absurd caused
cause_told command (ToPage page calls divergent) cause h is caused = absurd caused
cause_told command (ToShow view asked) cause h is caused = absurd caused
cause_told command (ToKeep errand) cause h is caused = (errand, errand_of command errand is, caused)

kept_told : (command : Command) (task : Task) (ending : Ending) (h : Hosting) → IsTaskOf command task → KeptAs task ending h → MayHaveKept command ending h
kept_told command (ToKeep errand) ending h is (inl kept) = inl kept
kept_told command (ToKeep errand) ending h is (inr left) = inr (errand, errand_of command errand is, left)
kept_told command (ToServe out start most port) ending h is kept = inl kept
kept_told command (ToReplay out job) ending h is kept = inl kept
kept_told command (ToSend out job port) ending h is kept = inl kept
kept_told command (ToTell out facts) ending h is kept = inl kept
kept_told command (ToMake n out) ending h is kept = inl kept
kept_told command (ToTry n) ending h is kept = inl kept
kept_told command (ToPage page calls divergent) ending h is kept = inl kept
kept_told command (ToShow view asked) ending h is kept = inl kept

failed_told : (command : Command) (task : Task) (h : Hosting) (failure : Failure) → IsTaskOf command task → PlanFails task h failure → MayComeTo (Some command) h (Err failure)
failed_told command task h BadCommand is fails = absurd fails
failed_told command task h (Refused refusal) is fails = absurd fails
failed_told command task h (Differs finding) is fails = differs_told command task finding h is fails
failed_told command task h (NotDone cause) is fails = cause_told command task cause h is fails
failed_told command task h (NotSent cause) is fails = (task, is, fails)
failed_told command task h DeviceFault is fails = kept_told command task DeviceFailed h is fails.0
failed_told command task h OutOfMemory is fails = kept_told command task MemoryShort h is fails.0

pub told_refused : (found : Option Command) (command : Command) (h : Hosting) (failure : Failure) → found ≡ Some command → IsUnasked h → MayFail (MayBeRefused command) failure → MayComeTo found h (Err failure)
told_refused found command h failure is unasked may = told_of found command h (Err failure) is (refused_told command h failure unasked may)

pub told_failed : (found : Option Command) (command : Command) (task : Task) (h : Hosting) (failure : Failure) → found ≡ Some command → IsTaskOf command task → PlanFails task h failure → MayComeTo found h (Err failure)
told_failed found command task h failure is of fails = told_of found command h (Err failure) is (failed_told command task h failure of fails)

pub told_done : (found : Option Command) (command : Command) (task : Task) (h : Hosting) (plan : Plan) → found ≡ Some command → IsTaskOf command task → IsDone task plan h → MayComeTo found h (Ok plan)
told_done found command task h plan is of done = told_of found command h (Ok plan) is (task, of, done)

unwritten : (command : Command) (h : Hosting) (error : WriteErr) → HasKept h → MayComeTo (Some command) h (Err (failure_of error))
unwritten command h Failed kept = inl kept
unwritten command h Memory kept = inl kept

pub told_unwritten : (found : Option Command) (command : Command) (task : Task) (h : Hosting) (plan : Plan) (error : WriteErr) → found ≡ Some command → IsDone task plan h → plan.writes ≢ [] → MayComeTo found h (Err (failure_of error))
told_unwritten found command task h plan error is done some = told_of found command h (Err (failure_of error)) is (unwritten command h error (kept_writing task h plan done some))

pub told_short : (found : Option Command) (h : Hosting) → IsUnasked h → MayComeTo found h (Err OutOfMemory)
told_short None h unasked = (inr refl, unasked)
told_short (Some command) h unasked = inl (kept_unasked h unasked)

-- ---- who asks the host, the keeper and the dial

pub unasked_may : (found : Option Command) (h : Hosting) → IsUnasked h → MayAsk found h
unasked_may None h unasked = unasked
unasked_may (Some (Run capture out ways)) h unasked = (unasked.0, unasked.1, λ own. unasked.2)
unasked_may (Some (Prepare capture out)) h unasked = unasked
unasked_may (Some (Serve capture start connections port)) h unasked = (unasked.1, unasked.2)
unasked_may (Some (Generate n out)) h unasked = unasked
unasked_may (Some (Trial n)) h unasked = unasked
unasked_may (Some (Register out run)) h unasked = (unasked.0, unasked.2)
unasked_may (Some Runs) h unasked = (unasked.0, unasked.2)
unasked_may (Some (Accept run stamp class)) h unasked = (unasked.0, unasked.2)
unasked_may (Some (Compare base other)) h unasked = (unasked.0, unasked.2)
unasked_may (Some (Page capture out)) h unasked = unasked
unasked_may (Some (Show capture out stamp)) h unasked = unasked

task_may : (command : Command) (task : Task) (h : Hosting) → IsTaskOf command task → AsksFor task h → MayAsk (Some command) h
task_may command (ToReplay out job) h is asks = unasked_may (Some command) h asks
task_may (Run capture out ways) (ToSend folder job port) h is asks = (asks.0, asks.1, λ own. absurd (cc (is.1, own)))
task_may (Prepare capture out) (ToSend folder job port) h is asks = absurd is
task_may (Serve capture name connections door) (ToSend folder job port) h is asks = absurd is
task_may (Generate n out) (ToSend folder job port) h is asks = absurd is
task_may (Trial n) (ToSend folder job port) h is asks = absurd is
task_may (Register out run) (ToSend folder job port) h is asks = absurd is
task_may Runs (ToSend folder job port) h is asks = absurd is
task_may (Accept run stamp class) (ToSend folder job port) h is asks = absurd is
task_may (Compare base other) (ToSend folder job port) h is asks = absurd is
task_may (Page captured left) (ToSend folder job port) h is asks = absurd is
task_may (Show captured left stamp) (ToSend folder job port) h is asks = absurd is
task_may command (ToTell out facts) h is asks = unasked_may (Some command) h asks
task_may command (ToMake n out) h is asks = unasked_may (Some command) h asks
task_may command (ToTry n) h is asks = unasked_may (Some command) h asks
task_may command (ToPage page calls divergent) h is asks = unasked_may (Some command) h asks
task_may command (ToShow view asked) h is asks = unasked_may (Some command) h asks
task_may (Run capture out ways) (ToServe folder start most port) h is asks = absurd is
task_may (Prepare capture out) (ToServe folder start most port) h is asks = absurd is
task_may (Serve capture name connections door) (ToServe folder start most port) h is asks = asks
task_may (Generate n out) (ToServe folder start most port) h is asks = absurd is
task_may (Trial n) (ToServe folder start most port) h is asks = absurd is
task_may (Register out run) (ToServe folder start most port) h is asks = absurd is
task_may Runs (ToServe folder start most port) h is asks = absurd is
task_may (Accept run stamp class) (ToServe folder start most port) h is asks = absurd is
task_may (Compare base other) (ToServe folder start most port) h is asks = absurd is
task_may (Page captured left) (ToServe folder start most port) h is asks = absurd is
task_may (Show captured left stamp) (ToServe folder start most port) h is asks = absurd is
task_may (Run capture out ways) (ToKeep errand) h is asks = absurd is
task_may (Prepare capture out) (ToKeep errand) h is asks = absurd is
task_may (Serve capture name connections door) (ToKeep errand) h is asks = absurd is
task_may (Generate n out) (ToKeep errand) h is asks = absurd is
task_may (Trial n) (ToKeep errand) h is asks = absurd is
task_may (Register out run) (ToKeep errand) h is asks = asks
task_may Runs (ToKeep errand) h is asks = asks
task_may (Accept run stamp class) (ToKeep errand) h is asks = asks
task_may (Compare base other) (ToKeep errand) h is asks = asks
task_may (Page captured left) (ToKeep errand) h is asks = absurd is
task_may (Show captured left stamp) (ToKeep errand) h is asks = absurd is

pub may_ask : (found : Option Command) (command : Command) (task : Task) (h : Hosting) → found ≡ Some command → IsTaskOf command task → AsksFor task h → MayAsk found h
may_ask found command task h is of asks = subst (λ (c : Option Command). MayAsk c h) (sym is) (task_may command task h of asks)

-- ---- what is given back

module _ (h : Hosting) (closes closes' : ℕ) where
  -- where memory was short for the words themselves, and where they are no command
  pub short_gives : (found : Option Command) → IsNothingAsked h closes closes' → GivesAllBack found h closes closes' (Err OutOfMemory)
  short_gives None none = none
  short_gives (Some command) none = inl none

  pub bad_gives : (found : Option Command) → IsNothingAsked h closes closes' → GivesAllBack found h closes closes' (Err BadCommand)
  bad_gives None none = none
  bad_gives (Some command) none = none

  gives_so : (found : Option Command) (command : Command) (done : Result Plan Failure) → found ≡ Some command → GivesAllBack (Some command) h closes closes' done → GivesAllBack found h closes closes' done
  gives_so found command done is gives = subst (λ (c : Option Command). GivesAllBack c h closes closes' done) (sym is) gives

  -- where deciding failed
  undecided : (command : Command) (failure : Failure) → IsNothingAsked h closes closes' → MayFail (MayBeRefused command) failure → GivesAllBack (Some command) h closes closes' (Err failure)
  undecided command BadCommand none may = absurd may
  undecided command (Refused refusal) none may = none
  undecided command (Differs finding) none may = absurd may
  undecided command (NotDone cause) none may = absurd may
  undecided command (NotSent cause) none may = absurd may
  undecided command DeviceFault none may = inl none
  undecided command OutOfMemory none may = inl none

  pub refused_gives : (found : Option Command) (command : Command) (failure : Failure) → found ≡ Some command → IsNothingAsked h closes closes' → MayFail (MayBeRefused command) failure → GivesAllBack found h closes closes' (Err failure)
  refused_gives found command failure is none may = gives_so found command (Err failure) is (undecided command failure none may)

  -- where doing it failed
  undone : (command : Command) (task : Task) (failure : Failure) → PlanFails task h failure → SomeHandsBack command h closes closes' → GivesAllBack (Some command) h closes closes' (Err failure)
  undone command task BadCommand fails some = absurd fails
  undone command task (Refused refusal) fails some = absurd fails
  undone command task (Differs finding) fails some = some
  undone command task (NotDone cause) fails some = some
  undone command task (NotSent cause) fails some = some
  undone command task DeviceFault fails some = inr some
  undone command task OutOfMemory fails some = inr some

  pub failed_gives : (found : Option Command) (command : Command) (task : Task) (failure : Failure) → found ≡ Some command → IsTaskOf command task → PlanFails task h failure → HandsBack task h closes closes' → GivesAllBack found h closes closes' (Err failure)
  failed_gives found command task failure is of fails hands = gives_so found command (Err failure) is (undone command task failure fails (task, of, hands))

  -- where it was done, and written or not
  pub done_gives : (found : Option Command) (command : Command) (task : Task) (plan : Plan) → found ≡ Some command → IsTaskOf command task → HandsBack task h closes closes' → GivesAllBack found h closes closes' (Ok plan)
  done_gives found command task plan is of hands = gives_so found command (Ok plan) is (task, of, hands)

  pub unwritten_gives : (found : Option Command) (command : Command) (task : Task) (error : WriteErr) → found ≡ Some command → IsTaskOf command task → HandsBack task h closes closes' → GivesAllBack found h closes closes' (Err (failure_of error))
  unwritten_gives found command task Failed is of hands = gives_so found command (Err DeviceFault) is (inr (task, of, hands))
  unwritten_gives found command task Memory is of hands = gives_so found command (Err OutOfMemory) is (inr (task, of, hands))
