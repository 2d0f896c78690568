-- What doing the work of a command answers.
use Rattle.std.specs.Prelude.{◌≡◌, ℕ, ◌≤◌, ◌⊎◌, Result, Ok, Err}
use Rattle.desk_files.specs.Outside.{DeviceFailed, Ending, FileMap, HasRisen, MemoryShort}
use Rattle.desk_files.specs.Writes.{with_all}
use Rattle.replay_cli.specs.declared.failure.Failure.{Failure}
use Rattle.replay_cli.specs.declared.failure.Failure.TheVariants.{BadCommand, Refused, Differs, NotDone, NotSent, DeviceFault, OutOfMemory}
use Rattle.replay_cli.specs.declared.plan.Plan.{Plan}
use Rattle.replay_cli.specs.Decision.{Task}
use Rattle.replay_cli.specs.Done.{IsDone}
use Rattle.replay_cli.specs.Hosting.{HasNoFault, Hosting, IsUnasked}
use Rattle.replay_cli.specs.Ending.{IsCauseOf, IsFoundOf, IsUnsentOf, LeftOf}
use Rattle.replay_cli.specs.Inside.Serving.{OneFailed}

-- the files are as before and neither the host nor the keeper was asked, or it is as after some of the work of a task that was wanted
abbrev pub LeftOver : (Result Task Failure → Type 0) → Ending → FileMap → FileMap → ℕ → ℕ → Hosting → Type 0
LeftOver wanted ending before after fb fa h = ((after ≡ before) × IsUnasked h) ⊎ ((task : Task) × wanted (Ok task) × LeftOf task ending before after fb fa h)

-- what doing the work answers
abbrev pub RunSays : (Result Task Failure → Type 0) → FileMap → FileMap → ℕ → ℕ → Hosting → Result Plan Failure → Type 0
RunSays wanted before after fb fa h (Ok plan) = (task : Task) × wanted (Ok task) × IsDone task plan h × HasNoFault h × (after ≡ with_all plan.writes before)
RunSays wanted before after fb fa h (Err BadCommand) = wanted (Err BadCommand) × (after ≡ before) × IsUnasked h
RunSays wanted before after fb fa h (Err (Refused refusal)) = wanted (Err (Refused refusal)) × (after ≡ before) × IsUnasked h
RunSays wanted before after fb fa h (Err (Differs finding)) = (task : Task) × wanted (Ok task) × IsFoundOf task finding h × (after ≡ before)
RunSays wanted before after fb fa h (Err (NotDone cause)) = (task : Task) × wanted (Ok task) × IsCauseOf task cause h × (after ≡ before)
RunSays wanted before after fb fa h (Err (NotSent cause)) = (task : Task) × wanted (Ok task) × IsUnsentOf task cause h × (after ≡ before)
RunSays wanted before after fb fa h (Err DeviceFault) = LeftOver wanted DeviceFailed before after fb fa h
RunSays wanted before after fb fa h (Err OutOfMemory) = LeftOver wanted MemoryShort before after fb fa h

-- the count of the files rose and the others stand, or theirs stands and one of the others rose
abbrev pub OneRose : ℕ → ℕ → Hosting → Type 0
OneRose fb fa h = ((HasRisen fb fa × (fb ≤ fa)) × HasNoFault h) ⊎ ((fa ≡ fb) × OneFailed h)

-- how the counts of faults of the files, of the host and of the keeper move in it
abbrev pub RunFaults : Result Plan Failure → ℕ → ℕ → Hosting → Type 0
RunFaults (Ok plan) fb fa h = (fa ≡ fb) × HasNoFault h
RunFaults (Err BadCommand) fb fa h = (fa ≡ fb) × HasNoFault h
RunFaults (Err (Refused refusal)) fb fa h = (fa ≡ fb) × HasNoFault h
RunFaults (Err (Differs finding)) fb fa h = (fa ≡ fb) × HasNoFault h
RunFaults (Err (NotDone cause)) fb fa h = (fa ≡ fb) × HasNoFault h
RunFaults (Err (NotSent cause)) fb fa h = (fa ≡ fb) × HasNoFault h
RunFaults (Err DeviceFault) fb fa h = OneRose fb fa h
RunFaults (Err OutOfMemory) fb fa h = (fa ≡ fb) × HasNoFault h
