-- The verdict of the words and the files is one.
use Rattle.std.proofs.Common.{◌≡◌, ℕ, ◌+◌, ◌-◌, List, [], ◌∷◌, length, Option, None, Some, Result, Ok, Err, inl, inr, sym, ap, subst, ◌∙◌}
use Rattle.desk_values.specs.declared.capture.Captured.{Captured}
use Rattle.desk_files.specs.Outside.{FileMap}
use Rattle.desk_schema.specs.Start.{StartView}
use Rattle.desk_schema.specs.Change.{records_in}
use Rattle.desk_schema.proofs.Changing.{never_both, one_bad, one_last}
use Rattle.capture_format.specs.declared.start.StartFile.{StartFile}
use Rattle.capture_format.specs.StartFile.{IsBadStart, IsStartFile}
use Rattle.capture_format.specs.SessionFile.{IsBadSession, IsSessionFile}
use Rattle.capture_format.proofs.StartFiles as start
use Rattle.capture_format.proofs.SessionFiles as session
use Rattle.captured_calls.specs.Verdict.{verdict}
use Rattle.replay_history.specs.declared.report.Report.{Report}
use Rattle.report_format.specs.ReportFile.{IsBadReport, IsReport}
use Rattle.report_format.proofs.Files as report
use Rattle.divergence_cause.specs.declared.cause.CauseLine.{CauseLine}
use Rattle.desk_values.specs.declared.capture.Event.{Event}
use Rattle.replay_history.specs.declared.mode.Mode.{Mode}
use Rattle.replay_history.specs.declared.report.Line.{Line}
use Rattle.replay_report.specs.JournalFile.{IsBadJournal, IsJournal}
use Rattle.replay_report.proofs.JournalFiles as journal
use Rattle.run_files.specs.CausesFile.{AreCausesFor}
use Rattle.run_files.specs.Fitting.{misfit_of}
use Rattle.run_files.specs.ReadsFile.{AreReads, IsBadReads}
use Rattle.run_files.proofs.CausesFiles.{causes_again}
use Rattle.run_files.proofs.ReadsFiles as plain
use Rattle.replay_page.specs.Captured.{captured_files}
use Rattle.replay_cli.specs.declared.unshown.Unshown.TheVariants as unshown
use Rattle.register_work.specs.declared.errand.Errand.TheVariants as errand
use Rattle.replay_cli.specs.declared.capture.Opened.{Opened}
use Rattle.replay_cli.specs.Limits.{capture_limit}
use Rattle.replay_cli.specs.declared.failure.Refusal.{Refusal}
use Rattle.replay_cli.specs.declared.failure.Refusal.TheVariants.{BadChange, BadLine, BadReport, Unshown}
use Rattle.replay_cli.specs.declared.failure.Failure.{Failure}
use Rattle.replay_cli.specs.declared.failure.Failure.TheVariants.{BadCommand, Refused, Differs, NotDone, NotSent, DeviceFault, OutOfMemory}
use Rattle.desk_words.specs.declared.words.Command.{Command}
use Rattle.desk_words.specs.declared.words.Command.TheVariants.{Run, Prepare, Serve, Generate, Trial, Register, Runs, Accept, Compare, Page, Show}
use Rattle.desk_words.specs.Command.{command_of}
use Rattle.std.specs.FinMap.{get}
use Rattle.replay_cli.specs.FileNames.{causes_name, fence_name, journal_name, report_name, session_names, start_name}
use Rattle.desk_files.specs.Limits.{file_limit}
use Rattle.remap_ids.specs.Services.{ServicePair, services_of}
use Rattle.desk_words.specs.declared.ways.Ways.{Ways}
use Rattle.replay_cli.specs.Decision.{CausesOf, Decides, Failing, Filed, FiledIn, JournalOf, LeftIn, Legal, OpenedIn, PageIn, PerhapsIn, PerhapsSaid, PrepareIn, Read, ReadIn, Reads, ReadsOf, RegisterIn, RemapIn, ReportOf, RunIn, ServeIn, SessionOf, ShowIn, StartIn, StartOf, TargetIn, TargetOf, Task, ToKeep, ToMake, ToPage, ToServe, ToShow, ToTell, ToTry, Together, TogetherIn, Verdict, VerdictOf, fitting, left_of, legal_from, page_of, perhaps, remap_of, run_job, run_task, shown_of, stamp_in}
use Rattle.replay_cli.proofs.ShowSteps.{fitted_of, left_behind_journal, left_behind_report, left_behind_causes, left_behind_reads, stamped_of, tested_of, together_behind}
use Rattle.replay_cli.specs.Steps.{Is, Reading, Then, file_in}

abbrev pub IsOne : {X : Type 0} → (Result X Refusal → Type 0) → Type 0
IsOne {X = X} want = (a b : Result X Refusal) → want a → want b → a ≡ b

is_one : {X : Type 0} (answer : Result X Refusal) → IsOne (Is answer)
is_one answer a b h k = sym h ∙ k

abbrev value_of : {X : Type 0} → X → Result X Refusal → X
value_of x (Ok y) = y
value_of x (Err refusal) = x

abbrev refusal_of : {X : Type 0} → Refusal → Result X Refusal → Refusal
refusal_of refusal (Ok x) = refusal
refusal_of refusal (Err other) = other

no_ok : {X P : Type 0} (x : X) (refusal : Refusal) → Ok x ≡ Err refusal → P
no_ok x refusal e = absurd (cc e)

then_one : {X Y : Type 0} (first : Result X Refusal → Type 0) (next : X → Result Y Refusal → Type 0) → IsOne first → ((x : X) → first (Ok x) → IsOne (next x)) → IsOne (Then first next)
then_one first next one more (Ok y) (Ok z) h k =
    more k.0 k.1 (Ok y) (Ok z) (subst (λ x. next x (Ok y)) (ap (value_of h.0) (one (Ok h.0) (Ok k.0) h.1 k.1)) h.2) k.2
then_one first next one more (Ok y) (Err s) h (inl k) = no_ok h.0 s (one (Ok h.0) (Err s) h.1 k)
then_one first next one more (Ok y) (Err s) h (inr k) =
    more k.0 k.1 (Ok y) (Err s) (subst (λ x. next x (Ok y)) (ap (value_of h.0) (one (Ok h.0) (Ok k.0) h.1 k.1)) h.2) k.2
then_one first next one more (Err r) (Ok z) (inl h) k = no_ok k.0 r (one (Ok k.0) (Err r) k.1 h)
then_one first next one more (Err r) (Ok z) (inr h) k =
    more k.0 k.1 (Err r) (Ok z) (subst (λ x. next x (Err r)) (ap (value_of h.0) (one (Ok h.0) (Ok k.0) h.1 k.1)) h.2) k.2
then_one first next one more (Err r) (Err s) (inl h) (inl k) = ap (λ e. Err e) (ap (refusal_of r) (one (Err r) (Err s) h k))
then_one first next one more (Err r) (Err s) (inl h) (inr k) = no_ok k.0 r (one (Ok k.0) (Err r) k.1 h)
then_one first next one more (Err r) (Err s) (inr h) (inl k) = no_ok h.0 s (one (Ok h.0) (Err s) h.1 k)
then_one first next one more (Err r) (Err s) (inr h) (inr k) =
    more k.0 k.1 (Err r) (Err s) (subst (λ x. next x (Err r)) (ap (value_of h.0) (one (Ok h.0) (Ok k.0) h.1 k.1)) h.2) k.2

-- ---- the files

reads_one : {X : Type 0} (refused : ℕ → Refusal) (IsFileOf : X → Type 0) (IsFirstBad : ℕ → Type 0) → ((a b : X) → IsFileOf a → IsFileOf b → a ≡ b) → ((m n : ℕ) → IsFirstBad m → IsFirstBad n → m ≡ n) → IsOne (Reads refused IsFileOf IsFirstBad)
reads_one refused IsFileOf IsFirstBad one_file one_bad (Ok a) (Ok b) h k = ap (λ x. Ok x) (one_file a b h k)
reads_one refused IsFileOf IsFirstBad one_file one_bad (Ok a) (Err s) h k = absurd (k.1.1 a h)
reads_one refused IsFileOf IsFirstBad one_file one_bad (Err r) (Ok b) h k = absurd (h.1.1 b k)
reads_one refused IsFileOf IsFirstBad one_file one_bad (Err r) (Err s) h k = ap (λ e. Err e) (h.2 ∙ ap refused (one_bad h.0 k.0 h.1.0 k.1.0) ∙ sym k.2)

start_one : (name bytes : List ℕ) → IsOne (StartOf name bytes)
start_one name bytes = reads_one (BadLine name) (IsStartFile bytes) (IsBadStart bytes) (start.one_file bytes) (start.one_bad bytes)

session_one : (version place : ℕ) (name bytes : List ℕ) → IsOne (SessionOf version place name bytes)
session_one version place name bytes = reads_one (BadLine name) (IsSessionFile place version bytes) (IsBadSession place version bytes) (session.one_file place version bytes) (session.one_bad place version bytes)

reading_one : (version : ℕ) (files : FileMap) (room place : ℕ) (names : List (List ℕ)) → IsOne (Reading (SessionOf version) files room place names)
reading_one version files room place [] = is_one (Ok [])
reading_one version files room place (name ∷ names) =
    then_one (Is (file_in files room name)) (λ bytes. Then (SessionOf version place name bytes) (λ item. Then (Reading (SessionOf version) files (room - length bytes) (place + 1) names) (λ items. Is (Ok (item ∷ items))))) (is_one (file_in files room name)) (λ bytes held. then_one (SessionOf version place name bytes) (λ item. Then (Reading (SessionOf version) files (room - length bytes) (place + 1) names) (λ items. Is (Ok (item ∷ items)))) (session_one version place name bytes) (λ item read.
    then_one (Reading (SessionOf version) files (room - length bytes) (place + 1) names) (λ items. Is (Ok (item ∷ items))) (reading_one version files (room - length bytes) (place + 1) names) (λ items all. is_one (Ok (item ∷ items)))))

report_one : (name bytes : List ℕ) → IsOne (ReportOf name bytes)
report_one name bytes = reads_one (BadReport name) (IsReport bytes) (IsBadReport bytes) (report.one_file bytes) (report.one_bad bytes)

-- ---- a capture

abbrev opened_of : List ℕ → StartFile → Result Opened Refusal → Type 0
opened_of bytes file = Is (Ok (record { file = file; left = capture_limit - length bytes }))

abbrev start_in : List ℕ → List ℕ → Result Opened Refusal → Type 0
start_in capture bytes = Then (StartOf (start_name capture) bytes) (opened_of bytes)

opened_one : (files : FileMap) (capture : List ℕ) → IsOne (OpenedIn files capture)
opened_one files capture =
    then_one (Is (file_in files capture_limit (start_name capture))) (start_in capture) (is_one (file_in files capture_limit (start_name capture))) (λ bytes held.
    then_one (StartOf (start_name capture) bytes) (opened_of bytes) (start_one (start_name capture) bytes) (λ file read. is_one (Ok (record { file = file; left = capture_limit - length bytes }))))

legal_one : (start : StartView) (sessions : List (List Captured)) → IsOne (Is (legal_from start (verdict start sessions)))
legal_one start sessions = is_one (legal_from start (verdict start sessions))

abbrev all_read : Opened → List (List Captured) → Result Read Refusal → Type 0
all_read opened sessions = Is (Ok (record { start = opened.file.start; sessions = sessions }))

abbrev sessions_in : FileMap → List ℕ → Opened → Result Read Refusal → Type 0
sessions_in files capture opened = Then (Reading (SessionOf opened.file.start.schema.version) files opened.left 0 (session_names capture opened.file.sessions)) (all_read opened)

pub read_one : (files : FileMap) (capture : List ℕ) → IsOne (ReadIn files capture)
read_one files capture = then_one (OpenedIn files capture) (sessions_in files capture) (opened_one files capture) (λ opened is.
    then_one (Reading (SessionOf opened.file.start.schema.version) files opened.left 0 (session_names capture opened.file.sessions)) (all_read opened) (reading_one opened.file.start.schema.version files opened.left 0 (session_names capture opened.file.sessions)) (λ sessions read. is_one (Ok (record { start = opened.file.start; sessions = sessions }))))

remap_one : (files : FileMap) (name : Option (List ℕ)) → IsOne (RemapIn files name)
remap_one files None = is_one (Ok [])
remap_one files (Some name) =
    then_one (Is (file_in files file_limit name)) (λ bytes. Is (remap_of (services_of bytes))) (is_one (file_in files file_limit name)) (λ bytes held. is_one (remap_of (services_of bytes)))

changed_one : (start : StartView) (bytes : List ℕ) → IsOne (TargetOf start bytes)
changed_one start bytes (Ok a) (Ok b) h k = ap (λ target. Ok target) (one_last start (records_in bytes) a b h k)
changed_one start bytes (Ok a) (Err s) h k = absurd (never_both start (records_in bytes) a k.0 h k.1)
changed_one start bytes (Err r) (Ok b) h k = absurd (never_both start (records_in bytes) b h.0 k h.1)
changed_one start bytes (Err r) (Err s) h k = ap (λ e. Err e) (h.2 ∙ ap BadChange (one_bad start (records_in bytes) h.0 k.0 h.1 k.1) ∙ sym k.2)

target_one : (files : FileMap) (start : StartView) (name : Option (List ℕ)) → IsOne (TargetIn files start name)
target_one files start None = is_one (Ok start)
target_one files start (Some name) =
    then_one (Is (file_in files file_limit name)) (λ bytes. TargetOf start bytes) (is_one (file_in files file_limit name)) (λ bytes held. changed_one start bytes)

-- ---- what a run left

pair_one : {A B : Type 0} (a b : A × B) → a.0 ≡ b.0 → a.1 ≡ b.1 → a ≡ b
pair_one (x, y) (z, w) first second = cc (first, second)

same_journal : (bytes : List ℕ) (a b : Mode × List Event) → IsJournal bytes a.0 a.1 → IsJournal bytes b.0 b.1 → a ≡ b
same_journal bytes a b h k = let same = journal.one_file bytes a.0 b.0 a.1 b.1 h k in pair_one a b same.0 same.1

journal_one : (name bytes : List ℕ) → IsOne (JournalOf name bytes)
journal_one name bytes = reads_one (λ line. Unshown (unshown.BadJournal name line)) (λ (j : Mode × List Event). IsJournal bytes j.0 j.1) (IsBadJournal bytes) (same_journal bytes) (journal.one_bad bytes)

plain_one : (name bytes : List ℕ) → IsOne (ReadsOf name bytes)
plain_one name bytes = reads_one (λ line. Unshown (unshown.BadReads name line)) (AreReads bytes) (IsBadReads bytes) (plain.one_file bytes) (plain.one_bad bytes)

same_causes : (lines : List Line) (bytes : List ℕ) (a b : List CauseLine) → AreCausesFor lines bytes a → AreCausesFor lines bytes b → a ≡ b
same_causes lines bytes a b h k = let same : Some a ≡ Some b = sym (causes_again lines bytes a h) ∙ causes_again lines bytes b k in cc same

causes_one : (lines : List Line) (bytes : List ℕ) → IsOne (CausesOf lines bytes)
causes_one lines bytes (Ok a) (Ok b) h k = ap (λ c. Ok c) (same_causes lines bytes a b h k)
causes_one lines bytes (Ok a) (Err s) h k = absurd (k.0 a h)
causes_one lines bytes (Err r) (Ok b) h k = absurd (h.0 b k)
causes_one lines bytes (Err r) (Err s) h k = ap (λ e. Err e) (h.1 ∙ sym k.1)

module _ {X : Type 0} (said : List ℕ → Result X Refusal → Type 0) (one : (bytes : List ℕ) → IsOne (said bytes)) where
  abbrev filed_of : List ℕ → X → Result (Filed X) Refusal → Type 0
  filed_of bytes value = Is (Ok (bytes, value))

  abbrev said_of : List ℕ → Result (Filed X) Refusal → Type 0
  said_of bytes = Then (said bytes) (filed_of bytes)

  filed_one : (files : FileMap) (name : List ℕ) → IsOne (FiledIn said files name)
  filed_one files name = then_one (Is (file_in files file_limit name)) said_of (is_one (file_in files file_limit name)) (λ bytes held.
      then_one (said bytes) (filed_of bytes) (one bytes) (λ value is. is_one (Ok (bytes, value))))

  abbrev some_of : List ℕ → X → Result (Option (Filed X)) Refusal → Type 0
  some_of bytes value = Is (Ok (Some (bytes, value)))

  said_one : (found : Option (List ℕ)) → IsOne (PerhapsSaid said found)
  said_one None = is_one (Ok None)
  said_one (Some bytes) = then_one (said bytes) (some_of bytes) (one bytes) (λ value is. is_one (Ok (Some (bytes, value))))

  perhaps_one : (files : FileMap) (name : List ℕ) → IsOne (PerhapsIn said files name)
  perhaps_one files name = then_one (Is (perhaps (get files name) name)) (PerhapsSaid said) (is_one (perhaps (get files name) name)) (λ found held. said_one found)

left_one : (files : FileMap) (out : List ℕ) → IsOne (LeftIn files out)
left_one files out =
    then_one (FiledIn (JournalOf (journal_name out)) files (journal_name out)) (left_behind_journal files out) (filed_one (JournalOf (journal_name out)) (journal_one (journal_name out)) files (journal_name out)) (λ j said.
    then_one (FiledIn (ReportOf (report_name out)) files (report_name out)) (left_behind_report files out j) (filed_one (ReportOf (report_name out)) (report_one (report_name out)) files (report_name out)) (λ r told.
    then_one (PerhapsIn (CausesOf r.1.lines) files (causes_name out)) (left_behind_causes files out j r) (perhaps_one (CausesOf r.1.lines) (causes_one r.1.lines) files (causes_name out)) (λ c causes.
    then_one (PerhapsIn (ReadsOf (fence_name out)) files (fence_name out)) (left_behind_reads j r c) (perhaps_one (ReadsOf (fence_name out)) (plain_one (fence_name out)) files (fence_name out)) (λ p came. is_one (Ok (left_of j r c p))))))

together_one : (files : FileMap) (capture out : List ℕ) → IsOne (TogetherIn files capture out)
together_one files capture out =
    then_one (ReadIn files capture) (together_behind files out) (read_one files capture) (λ read is.
    then_one (LeftIn files out) (tested_of read) (left_one files out) (λ left was.
    then_one (Is (legal_from read.start (verdict read.start read.sessions))) (fitted_of read left) (legal_one read.start read.sessions) (λ legal tested.
    then_one (Is (fitting (misfit_of legal.calls left.run))) (λ one. Is (Ok (record { legal = legal; left = left; captured = captured_files read.start read.sessions }))) (is_one (fitting (misfit_of legal.calls left.run)))
    (λ one fits. is_one (Ok (record { legal = legal; left = left; captured = captured_files read.start read.sessions }))))))

-- ---- a command

module _ (files : FileMap) (capture out : List ℕ) where
  module _ (ways : Ways) where
    abbrev replayed_of : List ServicePair → StartView → Legal → Result Task Refusal → Type 0
    replayed_of remap target legal = Is (Ok (run_task out (run_job legal target remap ways) ways.target))

    abbrev changed_of : Read → List ServicePair → StartView → Result Task Refusal → Type 0
    changed_of read remap target = Then (Is (legal_from read.start (verdict read.start read.sessions))) (replayed_of remap target)

    abbrev remapped_of : Read → List ServicePair → Result Task Refusal → Type 0
    remapped_of read remap = Then (TargetIn files read.start ways.change) (changed_of read remap)

    abbrev run_of : Read → Result Task Refusal → Type 0
    run_of read = Then (RemapIn files ways.remap) (remapped_of read)

    run_one : IsOne (RunIn files capture out ways)
    run_one = then_one (ReadIn files capture) run_of (read_one files capture) (λ read is.
        then_one (RemapIn files ways.remap) (remapped_of read) (remap_one files ways.remap) (λ remap named.
        then_one (TargetIn files read.start ways.change) (changed_of read remap) (target_one files read.start ways.change) (λ target changes.
        then_one (Is (legal_from read.start (verdict read.start read.sessions))) (replayed_of remap target) (legal_one read.start read.sessions) (λ legal tested. is_one (Ok (run_task out (run_job legal target remap ways) ways.target))))))

  abbrev told_of : Legal → Result Task Refusal → Type 0
  told_of legal = Is (Ok (ToTell out legal.facts))

  prepare_one : IsOne (PrepareIn files capture out)
  prepare_one = then_one (ReadIn files capture) (λ read. Then (Is (legal_from read.start (verdict read.start read.sessions))) told_of) (read_one files capture) (λ read is.
      then_one (Is (legal_from read.start (verdict read.start read.sessions))) told_of (legal_one read.start read.sessions) (λ legal tested. is_one (Ok (ToTell out legal.facts))))

start_in_one : (files : FileMap) (name : List ℕ) → IsOne (StartIn files name)
start_in_one files name = then_one (Is (file_in files file_limit name)) (StartOf name) (is_one (file_in files file_limit name)) (λ bytes held. start_one name bytes)

serve_one : (files : FileMap) (capture name : List ℕ) (connections port : ℕ) → IsOne (ServeIn files capture name connections port)
serve_one files capture name connections port =
    then_one (StartIn files name) (λ file. Is (Ok (ToServe capture file.start connections port))) (start_in_one files name) (λ file read. is_one (Ok (ToServe capture file.start connections port)))

abbrev registered_of : List ℕ → List ℕ → Report → Result Task Refusal → Type 0
registered_of run bytes read = Is (Ok (ToKeep (errand.Register run bytes read)))

abbrev report_in : List ℕ → List ℕ → List ℕ → Result Task Refusal → Type 0
report_in out run bytes = Then (ReportOf (report_name out) bytes) (registered_of run bytes)

register_one : (files : FileMap) (out run : List ℕ) → IsOne (RegisterIn files out run)
register_one files out run =
    then_one (Is (file_in files file_limit (report_name out))) (report_in out run) (is_one (file_in files file_limit (report_name out))) (λ bytes held.
    then_one (ReportOf (report_name out) bytes) (registered_of run bytes) (report_one (report_name out) bytes) (λ read is. is_one (Ok (ToKeep (errand.Register run bytes read)))))

abbrev paged_of : List ℕ → List ℕ → Together → Result Task Refusal → Type 0
paged_of capture out t = Is (Ok (ToPage (page_of capture out t) (length t.legal.calls) (length t.left.run.report.lines)))

page_one : (files : FileMap) (capture out : List ℕ) → IsOne (PageIn files capture out)
page_one files capture out =
    then_one (TogetherIn files capture out) (paged_of capture out) (together_one files capture out) (λ t is. is_one (Ok (ToPage (page_of capture out t) (length t.legal.calls) (length t.left.run.report.lines))))

abbrev asked_of : Option ℕ → Together → Unit {0} → Result Task Refusal → Type 0
asked_of stamp t one = Is (Ok (ToShow (shown_of t) stamp))

show_one : (files : FileMap) (capture out : List ℕ) (stamp : Option ℕ) → IsOne (ShowIn files capture out stamp)
show_one files capture out stamp =
    then_one (TogetherIn files capture out) (stamped_of stamp) (together_one files capture out) (λ t is.
    then_one (Is (stamp_in stamp t.legal.calls)) (asked_of stamp t) (is_one (stamp_in stamp t.legal.calls)) (λ one there. is_one (Ok (ToShow (shown_of t) stamp))))

decides_one : (command : Command) (files : FileMap) → IsOne (Decides command files)
decides_one (Run capture out ways) files = run_one files capture out ways
decides_one (Prepare capture out) files = prepare_one files capture out
decides_one (Serve capture start connections port) files = serve_one files capture start connections port
decides_one (Generate n out) files = is_one (Ok (ToMake n out))
decides_one (Trial n) files = is_one (Ok (ToTry n))
decides_one (Register out run) files = register_one files out run
decides_one Runs files = is_one (Ok (ToKeep errand.Runs))
decides_one (Accept run stamp class) files = is_one (Ok (ToKeep (errand.Accept run stamp class)))
decides_one (Compare base other) files = is_one (Ok (ToKeep (errand.Compare base other)))
decides_one (Page capture out) files = page_one files capture out
decides_one (Show capture out stamp) files = show_one files capture out stamp

abbrev failed_of : {X : Type 0} → Result X Refusal → Result X Failure
failed_of (Ok x) = Ok x
failed_of (Err refusal) = Err (Refused refusal)

failing_one : {X : Type 0} (want : Result X Refusal → Type 0) → IsOne want → (a b : Result X Failure) → Failing want a → Failing want b → a ≡ b
failing_one want one (Ok x) (Ok y) h k = ap failed_of (one (Ok x) (Ok y) h k)
failing_one want one (Ok x) (Err (Refused s)) h k = ap failed_of (one (Ok x) (Err s) h k)
failing_one want one (Err (Refused r)) (Ok y) h k = ap failed_of (one (Err r) (Ok y) h k)
failing_one want one (Err (Refused r)) (Err (Refused s)) h k = ap failed_of (one (Err r) (Err s) h k)
failing_one want one (Ok x) (Err BadCommand) h k = absurd k
failing_one want one (Ok x) (Err (Differs finding)) h k = absurd k
failing_one want one (Ok x) (Err (NotDone cause)) h k = absurd k
failing_one want one (Ok x) (Err (NotSent cause)) h k = absurd k
failing_one want one (Ok x) (Err DeviceFault) h k = absurd k
failing_one want one (Ok x) (Err OutOfMemory) h k = absurd k
failing_one want one (Err (Refused r)) (Err BadCommand) h k = absurd k
failing_one want one (Err (Refused r)) (Err (Differs finding)) h k = absurd k
failing_one want one (Err (Refused r)) (Err (NotDone cause)) h k = absurd k
failing_one want one (Err (Refused r)) (Err (NotSent cause)) h k = absurd k
failing_one want one (Err (Refused r)) (Err DeviceFault) h k = absurd k
failing_one want one (Err (Refused r)) (Err OutOfMemory) h k = absurd k
failing_one want one (Err BadCommand) b h k = absurd h
failing_one want one (Err (Differs finding)) b h k = absurd h
failing_one want one (Err (NotDone cause)) b h k = absurd h
failing_one want one (Err (NotSent cause)) b h k = absurd h
failing_one want one (Err DeviceFault) b h k = absurd h
failing_one want one (Err OutOfMemory) b h k = absurd h

verdict_of_one : (command : Option Command) (files : FileMap) (a b : Result Task Failure) → VerdictOf command files a → VerdictOf command files b → a ≡ b
verdict_of_one None files a b h k = h ∙ sym k
verdict_of_one (Some command) files a b h k = failing_one (Decides command files) (decides_one command files) a b h k

pub verdict_one : (words : List (List ℕ)) (files : FileMap) (a b : Result Task Failure) → Verdict words files a → Verdict words files b → a ≡ b
verdict_one words files a b h k = verdict_of_one (command_of words) files a b h k
