-- The steps of a command go through where the files are a capture.
use Rattle.std.proofs.Common.{◌≡◌, ℕ, ◌+◌, ◌-◌, ◌≤◌, List, [], ◌∷◌, length, Option, None, Some, Ok, refl, sym, ap, ◌∙◌, arith}
use Rattle.std.proofs.lemmas.Bool.{le-ltb}
use Rattle.std.proofs.lemmas.List.Sums.{sum_by-cons}
use Rattle.desk_values.specs.declared.capture.Captured.{Captured}
use Rattle.desk_files.specs.Outside.{FileMap}
use Rattle.desk_files.specs.Limits.{file_limit}
use Rattle.desk_schema.specs.Start.{StartView}
use Rattle.replay_cli.specs.Limits.{capture_limit}
use Rattle.capture_format.specs.declared.start.StartFile.{StartFile}
use Rattle.prepare_plan.specs.Lists.{all_calls, by_stamp}
use Rattle.law_commands.specs.Legality.First.{plan_of}
use Rattle.law_commands.proofs.Legality.Taken.{plan_given}
use Rattle.desk_words.specs.declared.words.Command.TheVariants.{Run, Prepare, Serve, Generate, Trial, Register, Runs, Accept, Compare}
use Rattle.register_work.specs.declared.errand.Errand.TheVariants as errand
use Rattle.remap_ids.specs.Services.{ServicePair}
use Rattle.replay_cli.specs.Decision.{Legal, ReadIn, RemapIn, SessionOf, TargetIn, ToTell, ToServe, ToMake, ToTry, ToKeep, legal_from, remap_of, run_job, run_task}
use Rattle.replay_cli.specs.Steps.{Reading, file_in, file_of}
use Rattle.replay_cli.specs.FileNames.{report_name, session_names, start_name}
use Rattle.law_commands.specs.Commands.Complete.{AreCapture, AreThere, HasRemap, HasTarget, CapturesAreMade, CapturesArePrepared, CapturesAreReplayed, CapturesAreTried, DivergencesAreAccepted, IsThere, LegalCapturesArePrepared, LegalCapturesAreReplayed, ReportsAreRegistered, RunsAreCompared, RunsAreListed, StartsAreServed, total}
use Rattle.replay_cli.proofs.Endings.{verdict_is}

-- a file that is there is read where there is room
file_read : (files : FileMap) (room : ℕ) (name bytes : List ℕ) → IsThere files name bytes → length bytes ≤ room → file_in files room name ≡ Ok bytes
file_read files room name bytes there small =
    ap (λ (file : Option (List ℕ)). file_of file room name) there.0
    ∙ rw (le-ltb file_limit (length bytes) there.1, le-ltb room (length bytes) small) refl

-- so are those of the sessions
all_read : (version : ℕ) (files : FileMap) (room session : ℕ) (names texts : List (List ℕ)) (lists : List (List Captured)) → AreThere files version session names texts lists → total texts ≤ room → Reading (SessionOf version) files room session names (Ok lists)
all_read version files room session [] [] [] there small = refl
all_read version files room session (name ∷ names) (bytes ∷ texts) (calls ∷ lists) there small =
    let first : total (bytes ∷ texts) ≡ length bytes + total texts = sum_by-cons (λ b. length b) bytes texts in
    (bytes, file_read files room name bytes there.0 (omega (arith, first, small)), (calls, there.1, (lists, all_read version files (room - length bytes) (session + 1) names texts lists there.2 (omega (arith, first, small)), refl)))
all_read version files room session [] (bytes ∷ texts) lists there small = absurd there
all_read version files room session [] [] (calls ∷ lists) there small = absurd there
all_read version files room session (name ∷ names) [] lists there small = absurd there
all_read version files room session (name ∷ names) (bytes ∷ texts) [] there small = absurd there

-- and those of a capture
capture_read : (files : FileMap) (folder : List ℕ) (file : StartFile) (lists : List (List Captured)) → AreCapture files folder file lists → ReadIn files folder (Ok (record { start = file.start; sessions = lists }))
capture_read files folder file lists are =
    let room : length are.bytes ≤ capture_limit = omega (arith, are.together) in
    let left : total are.texts ≤ capture_limit - length are.bytes = omega (arith, are.together) in (
      record { file = file; left = capture_limit - length are.bytes },
      (are.bytes, file_read files capture_limit (start_name folder) are.bytes are.there room, (file, are.start, refl)),
      (lists, all_read file.start.schema.version files (capture_limit - length are.bytes) 0 (session_names folder file.sessions) are.texts lists are.sessions left, refl),
    )

-- and the remap file
remap_read : (files : FileMap) (name : Option (List ℕ)) (services : List ServicePair) → HasRemap files name services → RemapIn files name (Ok services)
remap_read files None services none = ap (λ pairs. Ok pairs) (sym none)
remap_read files (Some name) services has = (has.0, file_read files file_limit name has.0 has.1 has.1.1, ap remap_of has.2)

-- and the change file
target_read : (files : FileMap) (name : Option (List ℕ)) (start target : StartView) → HasTarget files name start target → TargetIn files start name (Ok target)
target_read files None start target same = ap (λ begins. Ok begins) (sym same)
target_read files (Some name) start target has = (has.0, file_read files file_limit name has.0 has.1 has.1.1, has.2)

pub replayed : CapturesAreReplayed
replayed words files folder out ways file lists services target plan command are has changes is =
    let legal : Legal = record { start = file.start; calls = plan.calls; facts = plan.facts } in
    verdict_is words files (Run folder out ways) (run_task out (run_job legal target services ways) ways.target) command
    (record { start = file.start; sessions = lists }, capture_read files folder file lists are, (services, remap_read files ways.remap services has, (target, target_read files ways.change file.start target changes, (legal, ap (legal_from file.start) is, refl))))

pub prepared : CapturesArePrepared
prepared words files folder out file lists plan command are is =
    verdict_is words files (Prepare folder out) (ToTell out plan.facts) command
    (record { start = file.start; sessions = lists }, capture_read files folder file lists are, (record { start = file.start; calls = plan.calls; facts = plan.facts }, ap (legal_from file.start) is, refl))

pub legal_replayed : LegalCapturesAreReplayed
legal_replayed words files folder out ways file lists services target command are has changes can =
    replayed words files folder out ways file lists services target (plan_of file.start (by_stamp (all_calls lists))) command are has changes (plan_given file.start lists can.0 can.1 can.2)

pub legal_prepared : LegalCapturesArePrepared
legal_prepared words files folder out file lists command are can =
    prepared words files folder out file lists (plan_of file.start (by_stamp (all_calls lists))) command are (plan_given file.start lists can.0 can.1 can.2)

pub served : StartsAreServed
served words files folder name bytes connections port file command there is =
    verdict_is words files (Serve folder name connections port) (ToServe folder file.start connections port) command
    (file, (bytes, file_read files file_limit name bytes there there.1, is), refl)

pub made : CapturesAreMade
made words files calls out command = verdict_is words files (Generate calls out) (ToMake calls out) command refl

pub tried : CapturesAreTried
tried words files calls command = verdict_is words files (Trial calls) (ToTry calls) command refl

pub registered : ReportsAreRegistered
registered words files out run bytes report command there is =
    verdict_is words files (Register out run) (ToKeep (errand.Register run bytes report)) command
    (bytes, file_read files file_limit (report_name out) bytes there there.1, (report, is, refl))

pub listed : RunsAreListed
listed words files command = verdict_is words files Runs (ToKeep errand.Runs) command refl

pub accepted : DivergencesAreAccepted
accepted words files run stamp class command = verdict_is words files (Accept run stamp class) (ToKeep (errand.Accept run stamp class)) command refl

pub compared : RunsAreCompared
compared words files base other command = verdict_is words files (Compare base other) (ToKeep (errand.Compare base other)) command refl
