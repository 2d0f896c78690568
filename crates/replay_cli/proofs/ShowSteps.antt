-- The steps of what is to be shown of a replay.
use Rattle.std.proofs.Common.{ℕ, List, Option, Result, Ok, Err, length, refl}
use Rattle.desk_files.specs.Limits.{file_limit}
use Rattle.desk_files.specs.Outside.{FileMap}
use Rattle.std.specs.FinMap.{get}
use Rattle.desk_values.specs.declared.capture.Event.{Event}
use Rattle.captured_calls.specs.Verdict.{verdict}
use Rattle.divergence_cause.specs.declared.cause.CauseLine.{CauseLine}
use Rattle.replay_history.specs.declared.mode.Mode.{Mode}
use Rattle.replay_history.specs.declared.report.Report.{Report}
use Rattle.run_files.specs.Fitting.{misfit_of}
use Rattle.replay_page.specs.Captured.{captured_files}
use Rattle.replay_cli.specs.declared.failure.Failure.{Failure}
use Rattle.replay_cli.specs.declared.failure.Refusal.{Refusal}
use Rattle.replay_cli.specs.Decision.{CausesOf, Filed, FiledIn, JournalOf, Left, LeftIn, Legal, PageIn, PerhapsIn, PerhapsSaid, Read, ReadIn, ReadsOf, ReportOf, ShowIn, Task, ToPage, ToShow, Together, TogetherIn, fitting, left_of, legal_from, page_of, perhaps, shown_of, stamp_in}
use Rattle.replay_cli.specs.FileNames.{causes_name, fence_name, journal_name, report_name}
use Rattle.replay_cli.specs.Steps.{Is, Then, file_in}
use Rattle.replay_cli.specs.Inside.Steps.{Answered, FaultFree, Step, Stops}
use Rattle.replay_cli.proofs.StepLaws.{step_pure, step_stops, step_then, stops_here}
use Rattle.replay_cli.proofs.Sessions.{free_error}

-- ---- one file

-- a file is read and then what it says
module _ {X : Type 0} (said : List ℕ → Result X Refusal → Type 0) (name : List ℕ) (c0 c1 : Option FileMap) (f0 f1 : ℕ) where
  abbrev after_bytes : List ℕ → Result (Filed X) Refusal → Type 0
  after_bytes bytes = Then (said bytes) (λ value. Is (Ok (bytes, value)))

  pub filed_cut : (failure : Failure) → Step (λ files. Is (file_in files file_limit name)) c0 c1 f0 f1 (Err failure) → Step (λ files. FiledIn said files name) c0 c1 f0 f1 (Err failure)
  filed_cut failure stops = step_stops (λ files. after_bytes) c0 c1 f0 f1 failure stops

  module _ (bytes : List ℕ) (read : Step (λ files. Is (file_in files file_limit name)) c0 c1 f0 f1 (Ok bytes)) where
    pub filed_bad : (failure : Failure) → Stops (said bytes) failure → FaultFree {X = X} (Err failure) → Step (λ files. FiledIn said files name) c0 c1 f0 f1 (Err failure)
    filed_bad failure stops free =
        let answer : Result (Filed X) Failure = Err failure in
        step_then (λ files. after_bytes) c0 c1 c1 f0 f1 f1 bytes answer read
        (step_pure (λ files. after_bytes bytes) c1 f1 answer (λ files. stops_here (said bytes) (λ value. Is (Ok (bytes, value))) failure stops) (free_error X (Filed X) failure free))

    pub filed_read : (value : X) → said bytes (Ok value) → Step (λ files. FiledIn said files name) c0 c1 f0 f1 (Ok (bytes, value))
    filed_read value says =
        let answer : Result (Filed X) Failure = Ok (bytes, value) in
        step_then (λ files. after_bytes) c0 c1 c1 f0 f1 f1 bytes answer read (step_pure (λ files. after_bytes bytes) c1 f1 answer (λ files. (value, says, refl)) tt)

  -- the same of one that may be missing
  pub perhaps_cut : (failure : Failure) → Step (λ files. Is (perhaps (get files name) name)) c0 c1 f0 f1 (Err failure) → Step (λ files. PerhapsIn said files name) c0 c1 f0 f1 (Err failure)
  perhaps_cut failure stops = step_stops (λ files. PerhapsSaid said) c0 c1 f0 f1 failure stops

  pub perhaps_then : (found : Option (List ℕ)) → Step (λ files. Is (perhaps (get files name) name)) c0 c1 f0 f1 (Ok found) → (answer : Result (Option (Filed X)) Failure) → Answered (PerhapsSaid said found) answer → FaultFree answer
      → Step (λ files. PerhapsIn said files name) c0 c1 f0 f1 answer
  perhaps_then found read answer says free = step_then (λ files. PerhapsSaid said) c0 c1 c1 f0 f1 f1 found answer read (step_pure (λ files. PerhapsSaid said found) c1 f1 answer (λ files. says) free)

-- ---- what a run left

abbrev pub left_behind_reads : Filed (Mode × List Event) → Filed Report → Option (Filed (List CauseLine)) → Option (Filed (List ℕ)) → Result Left Refusal → Type 0
left_behind_reads journal report causes reads = Is (Ok (left_of journal report causes reads))

abbrev pub left_behind_causes : FileMap → List ℕ → Filed (Mode × List Event) → Filed Report → Option (Filed (List CauseLine)) → Result Left Refusal → Type 0
left_behind_causes files out journal report causes = Then (PerhapsIn (ReadsOf (fence_name out)) files (fence_name out)) (left_behind_reads journal report causes)

abbrev pub left_behind_report : FileMap → List ℕ → Filed (Mode × List Event) → Filed Report → Result Left Refusal → Type 0
left_behind_report files out journal report = Then (PerhapsIn (CausesOf report.1.lines) files (causes_name out)) (left_behind_causes files out journal report)

abbrev pub left_behind_journal : FileMap → List ℕ → Filed (Mode × List Event) → Result Left Refusal → Type 0
left_behind_journal files out journal = Then (FiledIn (ReportOf (report_name out)) files (report_name out)) (left_behind_report files out journal)

module _ (out : List ℕ) (c0 c1 : Option FileMap) (f0 f1 : ℕ) (j : Filed (Mode × List Event)) (journal : Step (λ files. FiledIn (JournalOf (journal_name out)) files (journal_name out)) c0 c1 f0 f1 (Ok j)) where
  pub left_no_report : (c2 : Option FileMap) (f2 : ℕ) (failure : Failure) → Step (λ files. FiledIn (ReportOf (report_name out)) files (report_name out)) c1 c2 f1 f2 (Err failure) → Step (λ files. LeftIn files out) c0 c2 f0 f2 (Err failure)
  left_no_report c2 f2 failure stops = step_then (λ files. left_behind_journal files out) _ _ _ _ _ _ j (Err failure) journal (step_stops (λ files. left_behind_report files out j) _ _ _ _ failure stops)

  module _ (c2 : Option FileMap) (f2 : ℕ) (r : Filed Report) (report : Step (λ files. FiledIn (ReportOf (report_name out)) files (report_name out)) c1 c2 f1 f2 (Ok r)) where
    pub left_no_causes : (c3 : Option FileMap) (f3 : ℕ) (failure : Failure) → Step (λ files. PerhapsIn (CausesOf r.1.lines) files (causes_name out)) c2 c3 f2 f3 (Err failure) → Step (λ files. LeftIn files out) c0 c3 f0 f3 (Err failure)
    left_no_causes c3 f3 failure stops =
        step_then (λ files. left_behind_journal files out) _ _ _ _ _ _ j (Err failure) journal
        (step_then (λ files. left_behind_report files out j) _ _ _ _ _ _ r (Err failure) report (step_stops (λ files. left_behind_causes files out j r) _ _ _ _ failure stops))

    module _ (c3 : Option FileMap) (f3 : ℕ) (c : Option (Filed (List CauseLine))) (causes : Step (λ files. PerhapsIn (CausesOf r.1.lines) files (causes_name out)) c2 c3 f2 f3 (Ok c)) where
      pub left_no_reads : (c4 : Option FileMap) (f4 : ℕ) (failure : Failure) → Step (λ files. PerhapsIn (ReadsOf (fence_name out)) files (fence_name out)) c3 c4 f3 f4 (Err failure) → Step (λ files. LeftIn files out) c0 c4 f0 f4 (Err failure)
      left_no_reads c4 f4 failure stops =
          step_then (λ files. left_behind_journal files out) _ _ _ _ _ _ j (Err failure) journal
          (step_then (λ files. left_behind_report files out j) _ _ _ _ _ _ r (Err failure) report
          (step_then (λ files. left_behind_causes files out j r) _ _ _ _ _ _ c (Err failure) causes (step_stops (λ files. left_behind_reads j r c) _ _ _ _ failure stops)))

      -- all four are read, and what follows asks no file
      pub left_all : (c4 : Option FileMap) (f4 : ℕ) (p : Option (Filed (List ℕ))) → Step (λ files. PerhapsIn (ReadsOf (fence_name out)) files (fence_name out)) c3 c4 f3 f4 (Ok p)
          → (answer : Result Left Failure) → Answered (left_behind_reads j r c p) answer → FaultFree answer → Step (λ files. LeftIn files out) c0 c4 f0 f4 answer
      left_all c4 f4 p reads answer says free =
          step_then (λ files. left_behind_journal files out) _ _ _ _ _ _ j answer journal
          (step_then (λ files. left_behind_report files out j) _ _ _ _ _ _ r answer report
          (step_then (λ files. left_behind_causes files out j r) _ _ _ _ _ _ c answer causes
          (step_then (λ files. left_behind_reads j r c) _ _ _ _ _ _ p answer reads (step_pure (λ files. left_behind_reads j r c p) _ _ answer (λ files. says) free))))

-- ---- with a capture

abbrev pub fitted_of : Read → Left → Legal → Result Together Refusal → Type 0
fitted_of read left legal = Then (Is (fitting (misfit_of legal.calls left.run))) (λ one. Is (Ok (record { legal = legal; left = left; captured = captured_files read.start read.sessions })))

abbrev pub tested_of : Read → Left → Result Together Refusal → Type 0
tested_of read left = Then (Is (legal_from read.start (verdict read.start read.sessions))) (fitted_of read left)

abbrev pub together_behind : FileMap → List ℕ → Read → Result Together Refusal → Type 0
together_behind files out read = Then (LeftIn files out) (tested_of read)

module _ (capture out : List ℕ) (read : Read) (c0 c1 : Option FileMap) (f0 f1 : ℕ) (reads : Step (λ files. ReadIn files capture) c0 c1 f0 f1 (Ok read)) where
  pub together_cut : (c2 : Option FileMap) (f2 : ℕ) (failure : Failure) → Step (λ files. LeftIn files out) c1 c2 f1 f2 (Err failure) → Step (λ files. TogetherIn files capture out) c0 c2 f0 f2 (Err failure)
  together_cut c2 f2 failure stops = step_then (λ files. together_behind files out) _ _ _ _ _ _ read (Err failure) reads (step_stops (λ files. tested_of read) _ _ _ _ failure stops)

  pub together_tested : (c2 : Option FileMap) (f2 : ℕ) (left : Left) → Step (λ files. LeftIn files out) c1 c2 f1 f2 (Ok left)
      → (answer : Result Together Failure) → Answered (tested_of read left) answer → FaultFree answer → Step (λ files. TogetherIn files capture out) c0 c2 f0 f2 answer
  together_tested c2 f2 left lefts answer says free =
      step_then (λ files. together_behind files out) _ _ _ _ _ _ read answer reads
      (step_then (λ files. tested_of read) _ _ _ _ _ _ left answer lefts (step_pure (λ files. tested_of read left) _ _ answer (λ files. says) free))

-- ---- a page

abbrev pub paged_of : List ℕ → List ℕ → Together → Result Task Refusal → Type 0
paged_of capture out t = Is (Ok (ToPage (page_of capture out t) (length t.legal.calls) (length t.left.run.report.lines)))

-- the page of what was read is made
pub page_made : (capture out : List ℕ) (t : Together) (c0 c1 : Option FileMap) (f0 f1 : ℕ) → Step (λ files. TogetherIn files capture out) c0 c1 f0 f1 (Ok t)
    → Step (λ files. PageIn files capture out) c0 c1 f0 f1 (Ok (ToPage (page_of capture out t) (length t.legal.calls) (length t.left.run.report.lines)))
page_made capture out t c0 c1 f0 f1 found =
    let task : Result Task Failure = Ok (ToPage (page_of capture out t) (length t.legal.calls) (length t.left.run.report.lines)) in
    step_then (λ files. paged_of capture out) _ _ _ _ _ _ t task found (step_pure (λ files. paged_of capture out t) _ _ task (λ files. refl) tt)

-- ---- a stamp

abbrev pub stamped_of : Option ℕ → Together → Result Task Refusal → Type 0
stamped_of stamp t = Then (Is (stamp_in stamp t.legal.calls)) (λ one. Is (Ok (ToShow (shown_of t) stamp)))

module _ (capture out : List ℕ) (stamp : Option ℕ) (t : Together) (c0 c1 : Option FileMap) (f0 f1 : ℕ) (found : Step (λ files. TogetherIn files capture out) c0 c1 f0 f1 (Ok t)) where
  pub show_stamped : (answer : Result Task Failure) → Answered (stamped_of stamp t) answer → FaultFree answer → Step (λ files. ShowIn files capture out stamp) c0 c1 f0 f1 answer
  show_stamped answer says free = step_then (λ files. stamped_of stamp) _ _ _ _ _ _ t answer found (step_pure (λ files. stamped_of stamp t) _ _ answer (λ files. says) free)
