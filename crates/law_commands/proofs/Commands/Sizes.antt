-- Whatever the sizes of the files that serving leaves, they are no bad capture.
use Rattle.std.proofs.Common.{◌≡◌, ◌≢◌, ◌∙◌, ℕ, ◌+◌, ◌-◌, Bool, true, false, if◌then◌else◌, List, [], ◌∷◌, length, map, Option, None, Some, Result, Ok, Err, inl, inr, refl, sym, ap, subst, arith}
use Rattle.std.specs.Prelude.{nat_lt}
use Rattle.std.specs.FinMap.{get}
use Rattle.std.specs.List.{range_with_len}
use Rattle.desk_values.specs.declared.capture.Captured.{Captured}
use Rattle.desk_files.specs.Hosts.{Connections}
use Rattle.desk_files.specs.Limits.{file_limit}
use Rattle.desk_files.specs.Outside.{FileMap}
use Rattle.desk_files.specs.Writes.{with_all}
use Rattle.desk_files.specs.declared.writes.Write.{Write}
use Rattle.desk_schema.specs.Start.{StartView}
use Rattle.capture_format.specs.SessionFile.{IsSessionFile}
use Rattle.capture_format.specs.StartFile.{IsStartFile, start_text}
use Rattle.capture_format.specs.declared.start.StartFile.{StartFile}
use Rattle.captured_calls.specs.Stamps.{all_calls}
use Rattle.captured_calls.specs.Verdict.{CanBeLegal, Preparation, verdict}
use Rattle.captured_calls.specs.declared.refusal.Refusal.{Refusal as Illegal}
use Rattle.remap_ids.specs.Services.{ServicePair, services_of}
use Rattle.remap_ids.specs.declared.remap.RemapErr.{RemapErr}
use Rattle.desk_words.specs.declared.ways.Ways.{Ways}
use Rattle.desk_words.specs.declared.words.Command.{Command}
use Rattle.desk_words.specs.declared.words.Command.TheVariants.{Run, Prepare}
use Rattle.desk_words.specs.Command.{command_of}
use Rattle.replay_cli.specs.declared.capture.Opened.{Opened}
use Rattle.replay_cli.specs.Decision.{Decides, Legal, OpenedIn, PrepareIn, Read, ReadIn, RemapIn, RunIn, SessionOf, StartOf, TargetIn, TargetOf, Task, ToTell, Verdict, VerdictOf, legal_from, remap_of, run_job, run_task}
use Rattle.replay_cli.specs.Done.{IsServed}
use Rattle.replay_cli.specs.FileNames.{session_name, session_names, start_name}
use Rattle.replay_cli.specs.Limits.{capture_limit}
use Rattle.replay_cli.specs.Lines.{refusal_status}
use Rattle.replay_cli.specs.Steps.{Is, Reading, Then, file_in, file_of}
use Rattle.replay_cli.specs.declared.failure.Failure.{Failure}
use Rattle.replay_cli.specs.declared.failure.Failure.TheVariants.{BadCommand, DeviceFault, Differs, NotDone, NotSent, OutOfMemory, Refused}
use Rattle.replay_cli.specs.declared.failure.Refusal.{Refusal}
use Rattle.replay_cli.specs.declared.failure.Refusal.TheVariants.{TooLong}
use Rattle.replay_cli.specs.declared.plan.Plan.{Plan}
use Rattle.replay_cli.proofs.Unique.{IsOne, read_one}
use Rattle.law_commands.specs.Commands.Served.{IsNotBad, ServedCapturesAreNotBad, ServedCapturesAreNotBadToPrepare, start_file}
use Rattle.law_commands.proofs.Commands.Served.{AreHeld, as_many, files_from, names_are, served_legal, sessions_held, start_held, texts_from}
use Rattle.law_commands.proofs.Legality.Taken.{plan_given}

-- ---- steps that answer, and not by a bad capture

-- an answer that is no bad capture, and where it is a value, one of these
abbrev IsWell : {X : Type 0} → (X → Type 0) → Result X Refusal → Type 0
IsWell P (Ok x) = P x
IsWell P (Err refusal) = refusal_status refusal ≢ 3

-- there is such an answer
abbrev Answers : {X : Type 0} → (X → Type 0) → (Result X Refusal → Type 0) → Type 0
Answers {X = X} P want = (answer : Result X Refusal) × want answer × IsWell P answer

one_then : {X Y : Type 0} (P : X → Type 0) (Q : Y → Type 0) (first : Result X Refusal → Type 0) (next : X → Result Y Refusal → Type 0) → Answers P first → ((x : X) → P x → Answers Q (next x)) → Answers Q (Then first next)
one_then {X = X} {Y = Y} P Q first next one more = both one.0 one.1 one.2 where
  later : (x : X) → first (Ok x) → (answer : Result Y Refusal) → next x answer → IsWell Q answer → Answers Q (Then first next)
  later x is (Ok y) there well = (Ok y, (x, is, there), well)
  later x is (Err refusal) there well = (Err refusal, inr (x, is, there), well)

  both : (answer : Result X Refusal) → first answer → IsWell P answer → Answers Q (Then first next)
  both (Ok x) is well = let rest = more x well in later x is rest.0 rest.1 rest.2
  both (Err refusal) is well = (Err refusal, inl is, well)

-- no refusal of these steps is a bad capture
abbrev Safe : {X : Type 0} → (Result X Refusal → Type 0) → Type 0
Safe {X = X} want = (refusal : Refusal) → want (Err refusal) → refusal_status refusal ≢ 3

safe_then : {X Y : Type 0} (first : Result X Refusal → Type 0) (next : X → Result Y Refusal → Type 0) → Safe first → ((x : X) → first (Ok x) → Safe (next x)) → Safe (Then first next)
safe_then first next one more refusal (inl is) = one refusal is
safe_then first next one more refusal (inr (x, is, there)) = more x is refusal there

safe_is : {X : Type 0} (P : X → Type 0) (answer : Result X Refusal) → IsWell P answer → Safe (Is answer)
safe_is P answer well refusal is = subst (IsWell P) is well

safe_well : {X : Type 0} (P : X → Type 0) (want : Result X Refusal → Type 0) → IsOne want → Answers P want → Safe want
safe_well P want one (answer, is, well) refusal there = subst (IsWell P) (one answer (Err refusal) is there) well

known : {X : Type 0} (P : X → Type 0) (want : Result X Refusal → Type 0) → IsOne want → Answers P want → (x : X) → want (Ok x) → P x
known P want one (answer, is, well) x there = subst (IsWell P) (one answer (Ok x) is there) well

-- ---- files

long_or : (long longer : Bool) (name bytes : List ℕ) → IsWell (λ (b : List ℕ). b ≡ bytes) (if long then Err (TooLong name) else if longer then Err (TooLong name) else Ok bytes)
long_or true longer name bytes = λ e. omega (arith, e)
long_or false true name bytes = λ e. omega (arith, e)
long_or false false name bytes = refl

held_file : (files : FileMap) (room : ℕ) (name bytes : List ℕ) → get files name ≡ Some bytes → Answers (λ (b : List ℕ). b ≡ bytes) (Is (file_in files room name))
held_file files room name bytes held = (file_in files room name, refl, subst (λ (found : Option (List ℕ)). IsWell (λ (b : List ℕ). b ≡ bytes) (file_of found room name)) (sym held) (long_or (nat_lt file_limit (length bytes)) (nat_lt room (length bytes)) name bytes))

any_well : {X : Type 0} (P : X → Type 0) (answer : Result X Refusal) → IsWell P answer → IsWell (λ (x : X). Unit {0}) answer
any_well P (Ok x) well = tt
any_well P (Err refusal) well = well

any_file : (found : Option (List ℕ)) (room : ℕ) (name : List ℕ) → IsWell (λ (b : List ℕ). Unit {0}) (file_of found room name)
any_file None room name = λ e. omega (arith, e)
any_file (Some bytes) room name = any_well (λ (b : List ℕ). b ≡ bytes) (file_of (Some bytes) room name) (long_or (nat_lt file_limit (length bytes)) (nat_lt room (length bytes)) name bytes)

-- ---- a capture

abbrev behind_all : List Captured → List (List Captured) → Result (List (List Captured)) Refusal → Type 0
behind_all calls items = Is (Ok (calls ∷ items))

abbrev behind_calls : FileMap → ℕ → ℕ → ℕ → List (List ℕ) → List ℕ → List Captured → Result (List (List Captured)) Refusal → Type 0
behind_calls files version room session names bytes calls = Then (Reading (SessionOf version) files (room - length bytes) (session + 1) names) (behind_all calls)

abbrev behind_bytes : FileMap → ℕ → ℕ → ℕ → List ℕ → List (List ℕ) → List ℕ → Result (List (List Captured)) Refusal → Type 0
behind_bytes files version room session name names bytes = Then (SessionOf version session name bytes) (behind_calls files version room session names bytes)

sessions_answer : (files : FileMap) (version room session : ℕ) (names texts : List (List ℕ)) (lists : List (List Captured)) → AreHeld files version session names texts lists → Answers (λ (read : List (List Captured)). read ≡ lists) (Reading (SessionOf version) files room session names)
sessions_answer files version room session [] [] [] held = (Ok [], refl, refl)
sessions_answer files version room session (name ∷ names) (bytes ∷ texts) (calls ∷ lists) held =
    one_then (λ (b : List ℕ). b ≡ bytes) (λ (read : List (List Captured)). read ≡ calls ∷ lists) (Is (file_in files room name)) (behind_bytes files version room session name names) (held_file files room name bytes held.0) (λ b same.
    one_then (λ (c : List Captured). c ≡ calls) (λ (read : List (List Captured)). read ≡ calls ∷ lists) (SessionOf version session name b) (behind_calls files version room session names b) (Ok calls, subst (λ (t : List ℕ). IsSessionFile session version t calls) (sym same) held.1, refl) (λ c is.
    one_then (λ (read : List (List Captured)). read ≡ lists) (λ (read : List (List Captured)). read ≡ calls ∷ lists) (Reading (SessionOf version) files (room - length b) (session + 1) names) (behind_all c) (sessions_answer files version (room - length b) (session + 1) names texts lists held.2) (λ read are.
    (Ok (c ∷ read), refl, rw (is, are) refl))))
sessions_answer files version room session [] (bytes ∷ texts) lists held = absurd held
sessions_answer files version room session [] [] (calls ∷ lists) held = absurd held
sessions_answer files version room session (name ∷ names) [] lists held = absurd held
sessions_answer files version room session (name ∷ names) (bytes ∷ texts) [] held = absurd held

module _ (files : FileMap) (folder bytes : List ℕ) (file : StartFile) (texts : List (List ℕ)) (lists : List (List Captured)) (held : get files (start_name folder) ≡ Some bytes) (is : IsStartFile bytes file) (are : AreHeld files file.start.schema.version 0 (session_names folder file.sessions) texts lists) where
  abbrev opened_of : List ℕ → StartFile → Result Opened Refusal → Type 0
  opened_of read found = Is (Ok (record { file = found; left = capture_limit - length read }))

  abbrev start_in : List ℕ → Result Opened Refusal → Type 0
  start_in read = Then (StartOf (start_name folder) read) (opened_of read)

  abbrev all_read : Opened → List (List Captured) → Result Read Refusal → Type 0
  all_read opened sessions = Is (Ok (record { start = opened.file.start; sessions = sessions }))

  abbrev sessions_in : Opened → Result Read Refusal → Type 0
  sessions_in opened = Then (Reading (SessionOf opened.file.start.schema.version) files opened.left 0 (session_names folder opened.file.sessions)) (all_read opened)

  abbrev IsIt : Read → Type 0
  IsIt read = read ≡ record { start = file.start; sessions = lists }

  opened_answers : Answers (λ (opened : Opened). opened.file ≡ file) (OpenedIn files folder)
  opened_answers =
      one_then (λ (b : List ℕ). b ≡ bytes) (λ (opened : Opened). opened.file ≡ file) (Is (file_in files capture_limit (start_name folder))) start_in (held_file files capture_limit (start_name folder) bytes held) (λ b same.
      one_then (λ (f : StartFile). f ≡ file) (λ (opened : Opened). opened.file ≡ file) (StartOf (start_name folder) b) (opened_of b) (Ok file, subst (λ (t : List ℕ). IsStartFile t file) (sym same) is, refl) (λ f same_file.
      (Ok (record { file = f; left = capture_limit - length b }), refl, same_file)))

  capture_answers : Answers IsIt (ReadIn files folder)
  capture_answers =
      one_then (λ (opened : Opened). opened.file ≡ file) IsIt (OpenedIn files folder) sessions_in opened_answers (λ opened same.
      one_then (λ (read : List (List Captured)). read ≡ lists) IsIt (Reading (SessionOf opened.file.start.schema.version) files opened.left 0 (session_names folder opened.file.sessions)) (all_read opened)
      (sessions_answer files opened.file.start.schema.version opened.left 0 (session_names folder opened.file.sessions) texts lists (subst (λ (f : StartFile). AreHeld files f.start.schema.version 0 (session_names folder f.sessions) texts lists) (sym same) are))
      (λ read all. (Ok (record { start = opened.file.start; sessions = read }), refl, rw (same, all) refl)))

  remap_well : (answer : Result (List ServicePair) RemapErr) → IsWell (λ (pairs : List ServicePair). Unit {0}) (remap_of answer)
  remap_well (Ok services) = tt
  remap_well (Err error) = λ e. omega (arith, e)

  abbrev services_in : List ℕ → Result (List ServicePair) Refusal → Type 0
  services_in read = Is (remap_of (services_of read))

  safe_remap : (named : Option (List ℕ)) → Safe (RemapIn files named)
  safe_remap None refusal is = absurd (cc is)
  safe_remap (Some name) refusal is = safe_then (Is (file_in files file_limit name)) services_in (safe_is (λ (b : List ℕ). Unit {0}) (file_in files file_limit name) (any_file (get files name) file_limit name))
      (λ b there. safe_is (λ (pairs : List ServicePair). Unit {0}) (remap_of (services_of b)) (remap_well (services_of b))) refusal is

  safe_change : (start : StartView) (b : List ℕ) → Safe (TargetOf start b)
  safe_change start b refusal (n, bad, same) = subst (λ (r : Refusal). refusal_status r ≢ 3) (sym same) (λ e. omega (arith, e))

  safe_target : (start : StartView) (named : Option (List ℕ)) → Safe (TargetIn files start named)
  safe_target start None refusal is = absurd (cc is)
  safe_target start (Some name) refusal is = safe_then (Is (file_in files file_limit name)) (λ b. TargetOf start b) (safe_is (λ (b : List ℕ). Unit {0}) (file_in files file_limit name) (any_file (get files name) file_limit name))
      (λ b there. safe_change start b) refusal is

  legal_well : CanBeLegal file.start (all_calls lists) → (read : Read) → IsIt read → IsWell (λ (legal : Legal). Unit {0}) (legal_from read.start (verdict read.start read.sessions))
  legal_well can read same = subst (λ (r : Read). IsWell (λ (legal : Legal). Unit {0}) (legal_from r.start (verdict r.start r.sessions))) (sym same)
      (subst (λ (answer : Result Preparation Illegal). IsWell (λ (legal : Legal). Unit {0}) (legal_from file.start answer)) (sym (plan_given file.start lists can.0 can.1 can.2)) tt)

  module _ (out : List ℕ) (ways : Ways) where
    abbrev replayed_of : List ServicePair → StartView → Legal → Result Task Refusal → Type 0
    replayed_of services target legal = Is (Ok (run_task out (run_job legal target services ways) ways.target))

    abbrev changed_of : Read → List ServicePair → StartView → Result Task Refusal → Type 0
    changed_of read services target = Then (Is (legal_from read.start (verdict read.start read.sessions))) (replayed_of services target)

    abbrev remapped_of : Read → List ServicePair → Result Task Refusal → Type 0
    remapped_of read services = Then (TargetIn files read.start ways.change) (changed_of read services)

    abbrev run_of : Read → Result Task Refusal → Type 0
    run_of read = Then (RemapIn files ways.remap) (remapped_of read)

    safe_run : CanBeLegal file.start (all_calls lists) → Safe (RunIn files folder out ways)
    safe_run can = safe_then (ReadIn files folder) run_of (safe_well IsIt (ReadIn files folder) (read_one files folder) capture_answers) (λ read is.
        safe_then (RemapIn files ways.remap) (remapped_of read) (safe_remap ways.remap) (λ services named.
        safe_then (TargetIn files read.start ways.change) (changed_of read services) (safe_target read.start ways.change) (λ target changes.
        safe_then (Is (legal_from read.start (verdict read.start read.sessions))) (replayed_of services target)
        (safe_is (λ (legal : Legal). Unit {0}) (legal_from read.start (verdict read.start read.sessions)) (legal_well can read (known IsIt (ReadIn files folder) (read_one files folder) capture_answers read is)))
        (λ legal tested refusal done. absurd (cc done)))))

  module _ (out : List ℕ) where
    abbrev told_of : Legal → Result Task Refusal → Type 0
    told_of legal = Is (Ok (ToTell out legal.facts))

    abbrev prepared_of : Read → Result Task Refusal → Type 0
    prepared_of read = Then (Is (legal_from read.start (verdict read.start read.sessions))) told_of

    safe_prepare : CanBeLegal file.start (all_calls lists) → Safe (PrepareIn files folder out)
    safe_prepare can = safe_then (ReadIn files folder) prepared_of (safe_well IsIt (ReadIn files folder) (read_one files folder) capture_answers) (λ read is.
        safe_then (Is (legal_from read.start (verdict read.start read.sessions))) told_of
        (safe_is (λ (legal : Legal). Unit {0}) (legal_from read.start (verdict read.start read.sessions)) (legal_well can read (known IsIt (ReadIn files folder) (read_one files folder) capture_answers read is)))
        (λ legal tested refusal done. absurd (cc done)))

-- ---- the verdict

verdict_well : (words : List (List ℕ)) (files : FileMap) (command : Command) → command_of words ≡ Some command → Safe (Decides command files) → (v : Result Task Failure) → Verdict words files v → IsNotBad v
verdict_well words files command found safe v is = decided v (subst (λ (c : Option Command). VerdictOf c files v) found is) where
  decided : (w : Result Task Failure) → VerdictOf (Some command) files w → IsNotBad w
  decided (Ok task) there = tt
  decided (Err BadCommand) there = absurd there
  decided (Err (Refused refusal)) there = safe refusal there
  decided (Err (Differs finding)) there = absurd there
  decided (Err (NotDone cause)) there = absurd there
  decided (Err (NotSent cause)) there = absurd there
  decided (Err DeviceFault) there = absurd there
  decided (Err OutOfMemory) there = absurd there

-- what is safe wherever such files are is safe on those that serving left
left_safe : (want : FileMap → Result Task Refusal → Type 0) (files : FileMap) (folder : List ℕ) (start : StartView) (most : ℕ) (plan : Plan) (before after : Option Connections) → IsServed folder start most plan before after
    → ((left : FileMap) (bytes : List ℕ) (file : StartFile) (texts : List (List ℕ)) (lists : List (List Captured)) → get left (start_name folder) ≡ Some bytes → IsStartFile bytes file
    → AreHeld left file.start.schema.version 0 (session_names folder file.sessions) texts lists → CanBeLegal file.start (all_calls lists) → Safe (want left))
    → Safe (want (with_all plan.writes files))
left_safe want files folder start most plan before after served safe =
    let lists = served.capture.sessions in
    let count = served.capture.connections in
    let last = start_text start count in
    let version = start.schema.version in
    let many : length lists ≡ count = as_many start served.capture served.service.recording served.service.capture in
    let left = with_all plan.writes files in
    let held : get left (start_name folder) ≡ Some last = subst (λ (ws : List Write). get (with_all ws files) (start_name folder) ≡ Some last) (sym served.writes) (start_held folder version last files 0 lists) in
    let are : AreHeld left version 0 (session_names folder count) (texts_from version 0 lists) lists = subst (λ (ws : List Write). AreHeld (with_all ws files) version 0 (session_names folder count) (texts_from version 0 lists) lists) (sym served.writes)
    (subst (λ (names : List (List ℕ)). AreHeld (with_all (files_from folder version last 0 lists) files) version 0 names (texts_from version 0 lists) lists) (ap (λ (n : ℕ). map (session_name folder) (range_with_len 0 n)) many ∙ sym (names_are folder count))
    (sessions_held folder version last files 0 lists (let few = served.start_read.sessions in omega (arith, many, few)) served.sessions_read)) in
    let can = served_legal files folder start most plan before after served in
    safe left last (start_file served) (texts_from version 0 lists) lists held served.start_read are can.0

pub served_not_bad : ServedCapturesAreNotBad
served_not_bad words files folder out ways start most plan before after command served =
    verdict_well words (with_all plan.writes files) (Run folder out ways) command (left_safe (λ (f : FileMap). RunIn f folder out ways) files folder start most plan before after served
    (λ left bytes file texts lists held is are can. safe_run left folder bytes file texts lists held is are out ways can))

pub served_not_bad_to_prepare : ServedCapturesAreNotBadToPrepare
served_not_bad_to_prepare words files folder out start most plan before after command served =
    verdict_well words (with_all plan.writes files) (Prepare folder out) command (left_safe (λ (f : FileMap). PrepareIn f folder out) files folder start most plan before after served
    (λ left bytes file texts lists held is are can. safe_prepare left folder bytes file texts lists held is are out can))
