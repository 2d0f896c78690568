-- With which statuses each command may end, of files that are told and where no device failed.
use Rattle.std.specs.Prelude.{◌≡◌, ◌≢◌, ◌⊎◌, ℕ, List, Option, Ok, Err}
use Rattle.desk_files.specs.Outside.{FileMap, HasRisen}
use Rattle.register_work.specs.declared.errand.Errand.{Errand}
use Rattle.register_work.specs.declared.errand.Errand.TheVariants as errand
use Rattle.replay_cli.specs.declared.failure.Failure.{Failure}
use Rattle.replay_cli.specs.Decision.{Task, ToKeep, ToMake, ToPage, ToReplay, ToSend, ToServe, ToShow, ToTell, ToTry}
use Rattle.replay_cli.specs.Ending.{Ends}
use Rattle.replay_cli.specs.Hosting.{Hosting}
use Rattle.replay_cli.specs.Lines.{failure_status}
use Rattle.law_commands.specs.Commands.Complete.{MayEnd, MayEndSent, TellsReports}

-- what the keeper of an errand is to tell: reports alone; of one that registers a report, nothing
abbrev pub IsAnswerable : Errand → Hosting → Type 0
IsAnswerable (errand.Register name bytes report) h = Unit {0}
IsAnswerable errand.Runs h = TellsReports h
IsAnswerable (errand.Accept name stamp class) h = TellsReports h
IsAnswerable (errand.Compare a b) h = TellsReports h

-- and against another server no line fails
abbrev pub IsUnharmed : Task → Hosting → Type 0
IsUnharmed (ToKeep asked) h = IsAnswerable asked h
IsUnharmed (ToSend out job port) h = ¬ HasRisen h.dial.counts_before.faults h.dial.counts_after.faults
IsUnharmed (ToReplay out job) h = Unit {0}
IsUnharmed (ToTell out facts) h = Unit {0}
IsUnharmed (ToServe out start most port) h = Unit {0}
IsUnharmed (ToMake n out) h = Unit {0}
IsUnharmed (ToTry n) h = Unit {0}
IsUnharmed (ToPage page calls divergent) h = Unit {0}
IsUnharmed (ToShow view asked) h = Unit {0}

-- `run`, `prepare`, `serve`, `generate`, `trial`, `page`, `show` and the four of the register
abbrev pub MayEndAs : Task → ℕ → Type 0
MayEndAs (ToReplay out job) n = (n ≡ 0) ⊎ ((n ≡ 1) ⊎ (n ≡ 6))
MayEndAs (ToSend out job port) n = MayEndSent n
MayEndAs (ToTell out facts) n = (n ≡ 0) ⊎ (n ≡ 6)
MayEndAs (ToServe out start most port) n = (n ≡ 0) ⊎ ((n ≡ 6) ⊎ (n ≡ 9))
MayEndAs (ToMake calls out) n = (n ≡ 0) ⊎ (n ≡ 6)
MayEndAs (ToTry calls) n = (n ≡ 0) ⊎ (n ≡ 6)
MayEndAs (ToPage page calls divergent) n = (n ≡ 0) ⊎ (n ≡ 6)
MayEndAs (ToShow view asked) n = (n ≡ 0) ⊎ (n ≡ 6)
MayEndAs (ToKeep asked) n = MayEnd asked n

-- where the words and the files come to a task, with one of its statuses
abbrev pub TasksEndSo : Type 0
TasksEndSo = (task : Task) (files after : FileMap) (faults_before faults_after : ℕ) (h : Hosting) (result : ℕ) (before printed : Option (List ℕ))
    → IsUnharmed task h → Ends (Ok task) files after faults_before faults_after h result before printed → result ≢ 5 → MayEndAs task result

-- and where they come to a failure, with its own, or with that of want of memory
abbrev pub FailuresEndSo : Type 0
FailuresEndSo = (failure : Failure) (files after : FileMap) (faults_before faults_after : ℕ) (h : Hosting) (result : ℕ) (before printed : Option (List ℕ))
    → Ends (Err failure) files after faults_before faults_after h result before printed → result ≢ 5 → (result ≡ failure_status failure) ⊎ (result ≡ 6)
