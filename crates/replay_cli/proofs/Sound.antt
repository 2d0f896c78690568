-- The jobs that the words and the files come to can be replayed.
use Rattle.std.proofs.Common.{◌≡◌, ℕ, ◌+◌, ◌-◌, ◌≤◌, List, [], ◌∷◌, length, Option, None, Some, Result, Ok, Err, refl, sym, ap, subst, ◌∙◌, arith}
use Rattle.std.specs.Prelude.{IfSome}
use Rattle.desk_values.specs.declared.capture.Captured.{Captured}
use Rattle.desk_values.specs.declared.capture.Event.{Event}
use Rattle.desk_files.specs.Outside.{FileMap}
use Rattle.desk_schema.specs.File.{IsStart}
use Rattle.desk_schema.specs.Sound.{IsSoundStart}
use Rattle.desk_schema.specs.Start.{StartView}
use Rattle.desk_schema.proofs.Files.{sound_start}
use Rattle.capture_format.specs.declared.start.StartFile.{StartFile}
use Rattle.captured_calls.specs.Sessions.{AreSessionsFrom}
use Rattle.captured_calls.specs.declared.refusal.Refusal.{Refusal as Illegal}
use Rattle.captured_calls.specs.Verdict.{Preparation as Planned, verdict}
use Rattle.replay_job.specs.Job.{JobView}
use Rattle.replay_job.specs.Replays.{IsReplay, IsSoundJob}
use Rattle.replay_job.specs.Runs.{Stage}
use Rattle.replay_job.proofs.Jobs.{plan_sound_job}
use Rattle.replay_cli.specs.declared.capture.Opened.{Opened}
use Rattle.replay_cli.specs.declared.failure.Refusal.{Refusal}
use Rattle.desk_words.specs.Command.{command_of}
use Rattle.desk_words.specs.Within.{HasWays, IsWithinLimits}
use Rattle.desk_words.specs.declared.ways.Ways.{Ways}
use Rattle.desk_words.specs.declared.words.Command.{Command}
use Rattle.desk_words.specs.declared.words.Command.TheVariants.{Run, Prepare, Serve, Generate, Trial, Register, Runs, Accept, Compare, Page, Show}
use Rattle.desk_words.proofs.Limiting.{within_limits}
use Rattle.replay_cli.specs.FileNames.{session_names}
use Rattle.replay_cli.specs.Decision.{Legal, Read, ReadIn, RunIn, SessionOf, Task, ToReplay, ToSend, Verdict, VerdictOf, legal_from, run_job, run_task}
use Rattle.replay_cli.specs.Done.{IsReplayOf}
use Rattle.replay_cli.specs.Steps.{Reading}
use Rattle.replay_cli.proofs.Sessions.{count_names}
use Rattle.replay_cli.proofs.Targets.{start_of, target_in, target_of}

-- ---- the files

are_read : (version : ℕ) (files : FileMap) (room session : ℕ) (names : List (List ℕ)) (lists : List (List Captured)) → Reading (SessionOf version) files room session names (Ok lists) → AreSessionsFrom session lists × (length lists ≡ length names)
are_read version files room session [] lists read = let none : lists ≡ [] = cc read in subst (λ (ls : List (List Captured)). AreSessionsFrom session ls × (length ls ≡ 0)) (sym none) (tt, refl)
are_read version files room session (name ∷ names) lists read =
    let item = read.2.0 in
    let others = read.2.2.0 in
    let rest = are_read version files (room - length read.0) (session + 1) names others read.2.2.1 in
    let all : lists ≡ item ∷ others = cc (read.2.2.2) in
    subst (λ (ls : List (List Captured)). AreSessionsFrom session ls × (length ls ≡ length (name ∷ names))) (sym all) ((read.2.1.calls_are, rest.0), (let same = rest.1 in omega (arith, same)))

file_in_opened : StartFile → Result Opened Refusal → StartFile
file_in_opened file (Ok opened) = opened.file
file_in_opened file (Err refusal) = file

read_in : Read → Result Read Refusal → Read
read_in read (Ok other) = other
read_in read (Err refusal) = read

-- what was read of a capture
record IsWellRead (read : Read) : Type 0 where
  is_start : IsStart read.start
  start : IsSoundStart read.start
  lists : AreSessionsFrom 0 read.sessions
  few : length read.sessions ≤ 64

well_read : (files : FileMap) (capture : List ℕ) (read : Read) → ReadIn files capture (Ok read) → IsWellRead read
unfolding file_in_opened read_in
well_read files capture read is =
    let opened = is.0 in
    let file = is.1.2.0 in
    let file_is : file ≡ opened.file = ap (file_in_opened file) is.1.2.2 in
    let start_file = is.1.2.1 in
    let sessions = is.2.0 in
    let names = session_names capture opened.file.sessions in
    let all = are_read opened.file.start.schema.version files opened.left 0 names sessions is.2.1 in
    let count = count_names capture opened.file.sessions in
    let limit : file.sessions ≤ 64 = start_file.sessions in
    let same_count : file.sessions ≡ opened.file.sessions = ap (λ (f : StartFile). f.sessions) file_is in
    subst IsWellRead (ap (read_in read) is.2.2) (record {
      is_start = subst (λ (f : StartFile). IsStart f.start) file_is start_file.is_start;
      start = subst (λ (f : StartFile). IsSoundStart f.start) file_is (sound_start file.start start_file.is_start);
      lists = all.0;
      few = (let len = all.1 in omega (arith, len, count, limit, same_count));
    })

-- ---- the job

pub legal_planned : (start : StartView) (answer : Result Planned Illegal) (legal : Legal) → legal_from start answer ≡ Ok legal → (planned : Planned) × (answer ≡ Ok planned) × (record { start = start; calls = planned.calls; facts = planned.facts } ≡ legal)
legal_planned start (Ok planned) legal e = (planned, refl, cc (e))
legal_planned start (Err cause) legal e = absurd (cc e)

-- the task is a replay of this job
HasJob : JobView → Result Task Refusal → Type 0
HasJob job (Ok (ToReplay out other)) = other ≡ job
HasJob job (Ok (ToSend out other port)) = other ≡ job
HasJob job other = ⊥

job_run : (job other : JobView) (out : List ℕ) (target : Option ℕ) → HasJob job (Ok (run_task out other target)) → other ≡ job
unfolding HasJob
job_run job other out None has = has
job_run job other out (Some port) has = has

run_sound : (files : FileMap) (capture folder : List ℕ) (ways : Ways) (task : Task) (job : JobView) → HasWays ways → RunIn files capture folder ways (Ok task) → HasJob job (Ok task) → IsSoundJob job
run_sound files capture folder ways task job limits is has =
    let read = is.0 in
    let well = well_read files capture read is.1 in
    let remap = is.2.0 in
    let target = is.2.2.0 in
    let may = target_in files ways.change read.start target is.2.2.1 in
    let target_start = start_of ways.change read.start target well.is_start may in
    let legal = is.2.2.2.0 in
    let planned = legal_planned read.start (verdict read.start read.sessions) legal is.2.2.2.1 in
    let sound = plan_sound_job read.start target read.sessions planned.0 remap ways.mode ways.think ways.connect well.lists well.few planned.1 well.start (sound_start target target_start) (target_of ways.change read.start target may) limits.think limits.connect in
    subst IsSoundJob (ap (λ (l : Legal). run_job l target remap ways) planned.2 ∙ job_run job (run_job legal target remap ways) folder ways.target (subst (HasJob job) (sym is.2.2.2.2) has)) sound

decided_sound : (files : FileMap) (command : Option Command) (task : Task) (job : JobView) → IfSome command IsWithinLimits → VerdictOf command files (Ok task) → HasJob job (Ok task) → IsSoundJob job
unfolding HasJob
decided_sound files None task job within is has = absurd (cc is)
decided_sound files (Some (Run capture folder ways)) task job within is has = run_sound files capture folder ways task job within.2 is has
decided_sound files (Some (Prepare capture folder)) task job within is has = absurd (subst (HasJob job) (sym is.2.2) has)
decided_sound files (Some (Serve capture start connections port)) task job within is has = absurd (subst (HasJob job) (sym is.2) has)
decided_sound files (Some (Generate n folder)) task job within is has = absurd (subst (HasJob job) (sym is) has)
decided_sound files (Some (Trial n)) task job within is has = absurd (subst (HasJob job) (sym is) has)
decided_sound files (Some (Register folder run)) task job within is has = absurd (subst (HasJob job) (sym is.2.2) has)
decided_sound files (Some Runs) task job within is has = absurd (subst (HasJob job) (sym is) has)
decided_sound files (Some (Accept run stamp class)) task job within is has = absurd (subst (HasJob job) (sym is) has)
decided_sound files (Some (Compare base other)) task job within is has = absurd (subst (HasJob job) (sym is) has)
decided_sound files (Some (Page capture folder)) task job within is has = absurd (subst (HasJob job) (sym is.2) has)
decided_sound files (Some (Show capture folder stamp)) task job within is has = absurd (subst (HasJob job) (sym is.2.2) has)

pub verdict_sound : (words : List (List ℕ)) (files : FileMap) (out : List ℕ) (job : JobView) → Verdict words files (Ok (ToReplay out job)) → IsSoundJob job
unfolding HasJob
verdict_sound words files out job is = decided_sound files (command_of words) (ToReplay out job) job (within_limits words) is refl

pub sent_sound : (words : List (List ℕ)) (files : FileMap) (out : List ℕ) (job : JobView) (port : ℕ) → Verdict words files (Ok (ToSend out job port)) → IsSoundJob job
unfolding HasJob
sent_sound words files out job port is = decided_sound files (command_of words) (ToSend out job port) job (within_limits words) is refl

-- a replay of a sound job is one in the words of jobs
pub is_replay : (job : JobView) (history : List Event) (last : Stage) → IsSoundJob job → IsReplayOf job history last → IsReplay job history last
is_replay job history last sound is = record { sound = sound; complete = is.0 }
