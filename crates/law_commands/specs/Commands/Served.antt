-- What serving leaves, as other commands read it.
use Rattle.std.specs.Prelude.{◌≡◌, ◌≢◌, ℕ, ◌≤◌, List, length, Option, Some, Result, Ok, Err}
use Rattle.std.specs.List.{AllByRecursion, sum_by}
use Rattle.desk_files.specs.Hosts.{Connections}
use Rattle.desk_files.specs.Limits.{file_limit}
use Rattle.desk_files.specs.Outside.{FileMap}
use Rattle.desk_files.specs.Writes.{with_all}
use Rattle.desk_files.specs.declared.writes.Write.{Write}
use Rattle.desk_schema.specs.Start.{StartView}
use Rattle.capture_format.specs.declared.start.StartFile.{StartFile}
use Rattle.captured_calls.specs.Facts.{facts_of}
use Rattle.captured_calls.specs.Stamps.{all_calls, by_stamp}
use Rattle.captured_calls.specs.Verdict.{CanBeLegal}
use Rattle.remap_ids.specs.Services.{ServicePair}
use Rattle.desk_words.specs.declared.ways.Ways.{Ways}
use Rattle.desk_words.specs.declared.words.Command.TheVariants.{Run, Prepare}
use Rattle.desk_words.specs.Command.{command_of}
use Rattle.replay_cli.specs.Decision.{Task, ToTell, Verdict, run_job, run_task}
use Rattle.replay_cli.specs.Done.{IsServed}
use Rattle.replay_cli.specs.Limits.{capture_limit}
use Rattle.replay_cli.specs.Lines.{failure_status}
use Rattle.replay_cli.specs.declared.failure.Failure.{Failure}
use Rattle.replay_cli.specs.declared.plan.Plan.{Plan}
use Rattle.law_commands.specs.Commands.Complete.{AreCapture, HasRemap, HasTarget}

-- each file that is written is within the limit of one, and all are within that of a capture
abbrev pub AreSmall : List Write → Type 0
AreSmall writes = AllByRecursion (λ (write : Write). length write.bytes ≤ file_limit) writes × (sum_by (λ (write : Write). length write.bytes) writes ≤ capture_limit)

-- the start file that serving leaves
abbrev pub start_file : {out : List ℕ} {start : StartView} {most : ℕ} {plan : Plan} {before after : Option Connections} → IsServed out start most plan before after → StartFile
start_file {start = start} served = record { start = start; sessions = served.capture.connections }

-- The calls that were captured can be a legal capture, which is by stamp all that was recorded. The files that are written are a capture with just
-- these calls, whatever was there before, as long as they are within the limits of files.
abbrev pub ServedCapturesAreLegal : Type 0
ServedCapturesAreLegal =
    (files : FileMap) (out : List ℕ) (start : StartView) (most : ℕ) (plan : Plan) (before after : Option Connections)
    → (served : IsServed out start most plan before after)
    → CanBeLegal start (all_calls served.capture.sessions)
    × (by_stamp (all_calls served.capture.sessions) ≡ served.service.recording.calls)
    × (AreSmall plan.writes → AreCapture (with_all plan.writes files) out (start_file served) served.capture.sessions)

-- so `run` replays what was recorded
abbrev pub ServedCapturesAreReplayed : Type 0
ServedCapturesAreReplayed =
    (words : List (List ℕ)) (files : FileMap) (folder out : List ℕ) (ways : Ways) (services : List ServicePair) (start target : StartView) (most : ℕ) (plan : Plan) (before after : Option Connections)
    → command_of words ≡ Some (Run folder out ways) → (served : IsServed folder start most plan before after) → AreSmall plan.writes
    → HasRemap (with_all plan.writes files) ways.remap services → HasTarget (with_all plan.writes files) ways.change start target
    → let calls = served.service.recording.calls in
    Verdict words (with_all plan.writes files)
    (Ok (run_task out (run_job (record { start = start; calls = calls; facts = facts_of start.schema calls }) target services ways) ways.target))

-- and `prepare` tells which of it wait for which
abbrev pub ServedCapturesArePrepared : Type 0
ServedCapturesArePrepared =
    (words : List (List ℕ)) (files : FileMap) (folder out : List ℕ) (start : StartView) (most : ℕ) (plan : Plan) (before after : Option Connections)
    → command_of words ≡ Some (Prepare folder out) → (served : IsServed folder start most plan before after) → AreSmall plan.writes
    → Verdict words (with_all plan.writes files) (Ok (ToTell out (facts_of start.schema served.service.recording.calls)))

-- a verdict that is no bad capture
abbrev pub IsNotBad : Result Task Failure → Type 0
IsNotBad (Ok task) = Unit {0}
IsNotBad (Err failure) = failure_status failure ≢ 3

-- and whatever the sizes of the files are, `run` finds no bad capture
abbrev pub ServedCapturesAreNotBad : Type 0
ServedCapturesAreNotBad =
    (words : List (List ℕ)) (files : FileMap) (folder out : List ℕ) (ways : Ways) (start : StartView) (most : ℕ) (plan : Plan) (before after : Option Connections)
    → command_of words ≡ Some (Run folder out ways) → IsServed folder start most plan before after
    → (verdict : Result Task Failure) → Verdict words (with_all plan.writes files) verdict → IsNotBad verdict

-- nor does `prepare`
abbrev pub ServedCapturesAreNotBadToPrepare : Type 0
ServedCapturesAreNotBadToPrepare =
    (words : List (List ℕ)) (files : FileMap) (folder out : List ℕ) (start : StartView) (most : ℕ) (plan : Plan) (before after : Option Connections)
    → command_of words ≡ Some (Prepare folder out) → IsServed folder start most plan before after
    → (verdict : Result Task Failure) → Verdict words (with_all plan.writes files) verdict → IsNotBad verdict
