-- How reading and testing the files of a command may fail, by the words alone.
use Rattle.std.proofs.Common.{◌≡◌, ℕ, zero, suc, Bool, true, false, ◌<◌, ◌≤◌, ◌⊎◌, inl, inr, List, [], ◌∷◌, ◌++◌, length, get_or, Option, None, Some, Result, Ok, Err, refl, sym, ap, subst, ◌∙◌, arith}
use Rattle.std.specs.Prelude.{IfOk, IsErrOf, IsNone, if◌then◌else◌, nat_lt, IfErr}
use Rattle.std.proofs.Math.ListN.{get_or-append}
use Rattle.std.proofs.Math.Seq.{get_or-append_seam}
use Rattle.desk_values.specs.declared.capture.Captured.{Captured}
use Rattle.desk_values.specs.Limits.{session_limit}
use Rattle.desk_schema.specs.Schema.{IsVersion}
use Rattle.desk_schema.specs.Start.{StartView}
use Rattle.capture_format.specs.declared.start.StartFile.{StartFile}
use Rattle.captured_calls.specs.declared.refusal.Refusal.{Refusal as Illegal}
use Rattle.captured_calls.specs.Verdict.{Preparation as Planned, verdict}
use Rattle.replay_cli.specs.declared.failure.Refusal.{Refusal}
use Rattle.replay_cli.specs.declared.failure.Refusal.TheVariants.{Missing, TooLong, BadLine, BadReport, BadRemap, BadChange, NotLegal, Unshown}
use Rattle.replay_cli.specs.declared.failure.Failure.{Failure}
use Rattle.replay_cli.specs.declared.failure.Failure.TheVariants.{BadCommand, Refused, Differs, NotDone, NotSent, DeviceFault, OutOfMemory}
use Rattle.replay_cli.specs.declared.plan.Plan.{Plan}
use Rattle.replay_cli.specs.declared.unshown.Unshown.TheVariants as unshown
use Rattle.replay_history.specs.declared.report.Line.{Line}
use Rattle.run_files.specs.Fitting.{RunView, misfit_of}
use Rattle.run_files.specs.declared.misfit.Misfit.{Misfit}
use Rattle.desk_words.specs.declared.words.Command.{Command}
use Rattle.replay_cli.specs.Decision.{IsFileIn, IsLeftIn, IsNeededIn, JournalOf, IsSpelled, MayRefuseCapture, MayRefuseLeft, MayRefuseReport, MayRefuseStart, PerhapsSaid, ReadsOf, ReportOf, SessionOf, StartOf, fitting, legal_from, stamp_in, CausesOf, Filed}
use Rattle.replay_cli.specs.Hosting.{Hosting}
use Rattle.replay_cli.specs.Ending.{MayComeTo}
use Rattle.replay_cli.specs.FileNames.{fence_name, journal_name, report_name, session_name, session_names, start_name}
use Rattle.replay_cli.specs.Steps.{Is}
use Rattle.replay_cli.specs.Inside.Steps.{Answered, IsAmong, IsOverlong, IsUntaken, MayFail, RefusesOne, Stops}
use Rattle.replay_cli.proofs.Sessions.{count_names}

pub fails_weaker : (may more : Refusal → Type 0) → ((refusal : Refusal) → may refusal → more refusal) → (failure : Failure) → MayFail may failure → MayFail more failure
fails_weaker may more f BadCommand h = absurd h
fails_weaker may more f (Refused refusal) h = f refusal h
fails_weaker may more f (Differs finding) h = absurd h
fails_weaker may more f (NotDone cause) h = absurd h
fails_weaker may more f (NotSent cause) h = absurd h
fails_weaker may more f DeviceFault h = tt
fails_weaker may more f OutOfMemory h = tt

-- ---- a capture

pub untaken_in : (folder name : List ℕ) → IsFileIn folder name → (refusal : Refusal) → IsUntaken name refusal → MayRefuseCapture folder refusal
untaken_in folder name is (Missing other) e = subst (IsFileIn folder) (sym e) is
untaken_in folder name is (TooLong other) e = subst (IsFileIn folder) (sym e) is
untaken_in folder name is (BadLine other line) e = absurd e
untaken_in folder name is (BadRemap row) e = absurd e
untaken_in folder name is (BadChange row) e = absurd e
untaken_in folder name is (BadReport other line) e = absurd e
untaken_in folder name is (NotLegal cause) e = absurd e
untaken_in folder name is (Unshown cause) e = absurd e

pub bad_start : (folder name bytes : List ℕ) → name ≡ start_name folder → (failure : Failure) → Stops (StartOf name bytes) failure → MayFail (MayRefuseCapture folder) failure
bad_start folder name bytes is BadCommand h = absurd h
bad_start folder name bytes is (Refused refusal) h = subst (MayRefuseCapture folder) (sym h.2) (inl is, (bytes, inl h.1.0))
bad_start folder name bytes is (Differs finding) h = absurd h
bad_start folder name bytes is (NotDone cause) h = absurd h
bad_start folder name bytes is (NotSent cause) h = absurd h
bad_start folder name bytes is DeviceFault h = tt
bad_start folder name bytes is OutOfMemory h = tt

pub untaken_among : (names : List (List ℕ)) (place : ℕ) (name : List ℕ) → place < length names → name ≡ get_or names place name → (refusal : Refusal) → IsUntaken name refusal → RefusesOne names refusal
untaken_among names place name within is (Missing other) e = subst (IsAmong names) (sym e) (place, within, is)
untaken_among names place name within is (TooLong other) e = subst (IsAmong names) (sym e) (place, within, is)
untaken_among names place name within is (BadLine other line) e = absurd e
untaken_among names place name within is (BadRemap row) e = absurd e
untaken_among names place name within is (BadChange row) e = absurd e
untaken_among names place name within is (BadReport other line) e = absurd e
untaken_among names place name within is (NotLegal cause) e = absurd e
untaken_among names place name within is (Unshown cause) e = absurd e

pub bad_among : (version : ℕ) → IsVersion version → (names : List (List ℕ)) (place session : ℕ) (name bytes : List ℕ) → place < length names → name ≡ get_or names place name → (failure : Failure) → Stops (SessionOf version session name bytes) failure → MayFail (RefusesOne names) failure
bad_among version known names place session name bytes within is BadCommand h = absurd h
bad_among version known names place session name bytes within is (Refused refusal) h = subst (RefusesOne names) (sym h.2) ((place, within, is), (bytes, inr (session, version, known, h.1.0)))
bad_among version known names place session name bytes within is (Differs finding) h = absurd h
bad_among version known names place session name bytes within is (NotDone cause) h = absurd h
bad_among version known names place session name bytes within is (NotSent cause) h = absurd h
bad_among version known names place session name bytes within is DeviceFault h = tt
bad_among version known names place session name bytes within is OutOfMemory h = tt

below_or_last : (i n : ℕ) → i < suc n → (i < n) ⊎ (i ≡ n)
below_or_last i zero below = inr (omega (arith, below))
below_or_last zero (suc n) below = inl (omega arith)
below_or_last (suc i) (suc n) below = elim (below_or_last i n (omega (arith, below))) [ inl less ↦ inl (omega (arith, less)) | inr same ↦ inr (omega (arith, same)) ]

-- the name at a place among those of sessions
name_at : (folder : List ℕ) (n i : ℕ) (d : List ℕ) → i < n → get_or (session_names folder n) i d ≡ session_name folder i
name_at folder zero i d below = absurd (omega (arith, below))
name_at folder (suc n) i d below = elim (below_or_last i n below) [
  | inl less ↦ get_or-append (session_names folder n) (session_name folder n ∷ []) d i (let count = count_names folder n in omega (arith, count, less)) ∙ name_at folder n i d less
  | inr same ↦
      let last : length (session_names folder n) ≡ i = count_names folder n ∙ sym same in
      ap (λ (k : ℕ). get_or (session_names folder n ++ session_name folder n ∷ []) k d) (sym last) ∙ get_or-append_seam (session_names folder n) (session_name folder n) [] d ∙ ap (session_name folder) (sym same)
]

among_in : (folder : List ℕ) (n : ℕ) (name : List ℕ) → n ≤ session_limit → IsAmong (session_names folder n) name → IsFileIn folder name
among_in folder n name few among =
    let count = count_names folder n in
    let below : among.0 < n = omega (arith, count, among.1) in
    inr (among.0, omega (arith, below, few), among.2 ∙ name_at folder n among.0 name below)

pub one_in : (folder : List ℕ) (n : ℕ) → n ≤ session_limit → (refusal : Refusal) → RefusesOne (session_names folder n) refusal → MayRefuseCapture folder refusal
one_in folder n few (Missing name) among = among_in folder n name few among
one_in folder n few (TooLong name) among = among_in folder n name few among
one_in folder n few (BadLine name line) bad = (among_in folder n name few bad.0, bad.1)
one_in folder n few (BadRemap row) none = absurd none
one_in folder n few (BadChange row) none = absurd none
one_in folder n few (BadReport name line) none = absurd none
one_in folder n few (NotLegal cause) none = absurd none
one_in folder n few (Unshown cause) none = absurd none

legal_refused : (start : StartView) (answer : Result Planned Illegal) (refusal : Refusal) → legal_from start answer ≡ Err refusal → (cause : Illegal) × (answer ≡ Err cause) × (refusal ≡ NotLegal cause)
legal_refused start (Ok planned) refusal e = absurd (cc e)
legal_refused start (Err cause) refusal e = (cause, refl, cc (e))

pub tested : (folder : List ℕ) (start : StartView) (lists : List (List Captured)) (failure : Failure) → Stops (Is (legal_from start (verdict start lists))) failure → MayFail (MayRefuseCapture folder) failure
tested folder start lists BadCommand h = absurd h
tested folder start lists (Refused refusal) h = let found = legal_refused start (verdict start lists) refusal h in subst (MayRefuseCapture folder) (sym found.2) (start, lists, found.1)
tested folder start lists (Differs finding) h = absurd h
tested folder start lists (NotDone cause) h = absurd h
tested folder start lists (NotSent cause) h = absurd h
tested folder start lists DeviceFault h = tt
tested folder start lists OutOfMemory h = tt

-- ---- the file of a start

pub untaken_start : (name : List ℕ) (refusal : Refusal) → IsUntaken name refusal → MayRefuseStart name refusal
untaken_start name (Missing other) e = e
untaken_start name (TooLong other) e = e
untaken_start name (BadLine other line) e = absurd e
untaken_start name (BadRemap row) e = absurd e
untaken_start name (BadChange row) e = absurd e
untaken_start name (BadReport other line) e = absurd e
untaken_start name (NotLegal cause) e = absurd e
untaken_start name (Unshown cause) e = absurd e

pub bad_file : (name bytes : List ℕ) (failure : Failure) → Stops (StartOf name bytes) failure → MayFail (MayRefuseStart name) failure
bad_file name bytes BadCommand h = absurd h
bad_file name bytes (Refused refusal) h = subst (MayRefuseStart name) (sym h.2) (refl, (bytes, h.1.0))
bad_file name bytes (Differs finding) h = absurd h
bad_file name bytes (NotDone cause) h = absurd h
bad_file name bytes (NotSent cause) h = absurd h
bad_file name bytes DeviceFault h = tt
bad_file name bytes OutOfMemory h = tt

-- ---- the file of a report

pub untaken_report : (name : List ℕ) (refusal : Refusal) → IsUntaken name refusal → MayRefuseReport name refusal
untaken_report name (Missing other) e = e
untaken_report name (TooLong other) e = e
untaken_report name (BadLine other line) e = absurd e
untaken_report name (BadRemap row) e = absurd e
untaken_report name (BadChange row) e = absurd e
untaken_report name (BadReport other line) e = absurd e
untaken_report name (NotLegal cause) e = absurd e
untaken_report name (Unshown cause) e = absurd e

pub bad_report : (name bytes : List ℕ) (failure : Failure) → Stops (ReportOf name bytes) failure → MayFail (MayRefuseReport name) failure
bad_report name bytes BadCommand h = absurd h
bad_report name bytes (Refused refusal) h = subst (MayRefuseReport name) (sym h.2) (refl, (bytes, h.1.0))
bad_report name bytes (Differs finding) h = absurd h
bad_report name bytes (NotDone cause) h = absurd h
bad_report name bytes (NotSent cause) h = absurd h
bad_report name bytes DeviceFault h = tt
bad_report name bytes OutOfMemory h = tt

-- ---- the files of a run

pub untaken_left : (out name : List ℕ) → IsNeededIn out name → (refusal : Refusal) → IsUntaken name refusal → MayRefuseLeft out None refusal
untaken_left out name is (Missing other) e = subst (IsNeededIn out) (sym e) is
untaken_left out name is (TooLong other) e = subst (IsLeftIn out) (sym e) (inl is)
untaken_left out name is (BadLine other line) e = absurd e
untaken_left out name is (BadRemap row) e = absurd e
untaken_left out name is (BadChange row) e = absurd e
untaken_left out name is (BadReport other line) e = absurd e
untaken_left out name is (NotLegal cause) e = absurd e
untaken_left out name is (Unshown cause) e = absurd e

pub overlong_left : (out name : List ℕ) → IsLeftIn out name → (refusal : Refusal) → IsOverlong name refusal → MayRefuseLeft out None refusal
overlong_left out name is (Missing other) e = absurd e
overlong_left out name is (TooLong other) e = subst (IsLeftIn out) (sym e) is
overlong_left out name is (BadLine other line) e = absurd e
overlong_left out name is (BadRemap row) e = absurd e
overlong_left out name is (BadChange row) e = absurd e
overlong_left out name is (BadReport other line) e = absurd e
overlong_left out name is (NotLegal cause) e = absurd e
overlong_left out name is (Unshown cause) e = absurd e

pub bad_journal : (out name bytes : List ℕ) → name ≡ journal_name out → (failure : Failure) → Stops (JournalOf name bytes) failure → MayFail (MayRefuseLeft out None) failure
bad_journal out name bytes is BadCommand h = absurd h
bad_journal out name bytes is (Refused refusal) h = subst (MayRefuseLeft out None) (sym h.2) (is, (bytes, h.1.0))
bad_journal out name bytes is (Differs finding) h = absurd h
bad_journal out name bytes is (NotDone cause) h = absurd h
bad_journal out name bytes is (NotSent cause) h = absurd h
bad_journal out name bytes is DeviceFault h = tt
bad_journal out name bytes is OutOfMemory h = tt

pub bad_left_report : (out name bytes : List ℕ) → name ≡ report_name out → (failure : Failure) → Stops (ReportOf name bytes) failure → MayFail (MayRefuseLeft out None) failure
bad_left_report out name bytes is BadCommand h = absurd h
bad_left_report out name bytes is (Refused refusal) h = subst (MayRefuseLeft out None) (sym h.2) (is, (bytes, h.1.0))
bad_left_report out name bytes is (Differs finding) h = absurd h
bad_left_report out name bytes is (NotDone cause) h = absurd h
bad_left_report out name bytes is (NotSent cause) h = absurd h
bad_left_report out name bytes is DeviceFault h = tt
bad_left_report out name bytes is OutOfMemory h = tt

pub bad_causes : (out : List ℕ) (lines : List Line) (bytes : List ℕ) (failure : Failure) → Stops (CausesOf lines bytes) failure → MayFail (MayRefuseLeft out None) failure
bad_causes out lines bytes BadCommand h = absurd h
bad_causes out lines bytes (Refused refusal) h = subst (MayRefuseLeft out None) (sym h.1) (inr (refl, lines, bytes, h.0))
bad_causes out lines bytes (Differs finding) h = absurd h
bad_causes out lines bytes (NotDone cause) h = absurd h
bad_causes out lines bytes (NotSent cause) h = absurd h
bad_causes out lines bytes DeviceFault h = tt
bad_causes out lines bytes OutOfMemory h = tt

pub bad_reads : (out name bytes : List ℕ) → name ≡ fence_name out → (failure : Failure) → Stops (ReadsOf name bytes) failure → MayFail (MayRefuseLeft out None) failure
bad_reads out name bytes is BadCommand h = absurd h
bad_reads out name bytes is (Refused refusal) h = subst (MayRefuseLeft out None) (sym h.2) (is, (bytes, h.1.0))
bad_reads out name bytes is (Differs finding) h = absurd h
bad_reads out name bytes is (NotDone cause) h = absurd h
bad_reads out name bytes is (NotSent cause) h = absurd h
bad_reads out name bytes is DeviceFault h = tt
bad_reads out name bytes is OutOfMemory h = tt

module _ {X : Type 0} (said : List ℕ → Result X Refusal → Type 0) (may : Refusal → Type 0) (bad : (bytes : List ℕ) (failure : Failure) → Stops (said bytes) failure → MayFail may failure) where
  said_fails : (found : Option (List ℕ)) (failure : Failure) → Stops (PerhapsSaid said found) failure → MayFail may failure
  said_fails found BadCommand h = absurd h
  said_fails None (Refused refusal) h = absurd (cc h)
  said_fails (Some bytes) (Refused refusal) (inl h) = bad bytes (Refused refusal) h
  said_fails (Some bytes) (Refused refusal) (inr h) = absurd (cc h.2)
  said_fails found (Differs finding) h = absurd h
  said_fails found (NotDone cause) h = absurd h
  said_fails found (NotSent cause) h = absurd h
  said_fails found DeviceFault h = tt
  said_fails found OutOfMemory h = tt

  -- so a file that may be missing is refused as one that is there
  pub said_kind : (found : Option (List ℕ)) (result : Result (Option (Filed X)) Failure) → Answered (PerhapsSaid said found) result → IfErr result (MayFail may)
  said_kind found (Ok value) h = tt
  said_kind found (Err failure) h = said_fails found failure h

fitting_refused : (found : Option Misfit) (refusal : Refusal) → fitting found ≡ Err refusal → (one : Misfit) × (found ≡ Some one) × (refusal ≡ Unshown (unshown.Unfit one))
fitting_refused None refusal e = absurd (cc e)
fitting_refused (Some one) refusal e = (one, refl, cc e)

pub fits : (found : Option Misfit) → fitting found ≡ Ok tt → found ≡ None
fits None e = refl
fits (Some one) e = absurd (cc e)

pub not_fit : (out : List ℕ) (calls : List Captured) (run : RunView) (failure : Failure) → Stops (Is (fitting (misfit_of calls run))) failure → MayFail (MayRefuseLeft out None) failure
not_fit out calls run BadCommand h = absurd h
not_fit out calls run (Refused refusal) h =
    let one = fitting_refused (misfit_of calls run) refusal h in
    subst (MayRefuseLeft out None) (sym one.2) (inl (calls, run, one.1))
not_fit out calls run (Differs finding) h = absurd h
not_fit out calls run (NotDone cause) h = absurd h
not_fit out calls run (NotSent cause) h = absurd h
not_fit out calls run DeviceFault h = tt
not_fit out calls run OutOfMemory h = tt

stamp_refused : (stamp : Option ℕ) (calls : List Captured) (refusal : Refusal) → stamp_in stamp calls ≡ Err refusal → (k : ℕ) × (stamp ≡ Some k) × (refusal ≡ Unshown (unshown.NoCall k))
stamp_refused None calls refusal e = absurd (cc e)
stamp_refused (Some k) calls refusal e = by_test (nat_lt k (length calls)) e where
  by_test : (test : Bool) → ◌≡◌ {A = Result (Unit {0}) Refusal} (if test then Ok tt else Err (Unshown (unshown.NoCall k))) (Err refusal) → (n : ℕ) × (Some k ≡ Some n) × (refusal ≡ Unshown (unshown.NoCall n))
  by_test true e = absurd (cc e)
  by_test false e = (k, refl, cc e)

pub no_call : (out : List ℕ) (stamp : Option ℕ) (calls : List Captured) (failure : Failure) → Stops (Is (stamp_in stamp calls)) failure → MayFail (MayRefuseLeft out stamp) failure
no_call out stamp calls BadCommand h = absurd h
no_call out stamp calls (Refused refusal) h = let one = stamp_refused stamp calls refusal h in subst (MayRefuseLeft out stamp) (sym one.2) one.1
no_call out stamp calls (Differs finding) h = absurd h
no_call out stamp calls (NotDone cause) h = absurd h
no_call out stamp calls (NotSent cause) h = absurd h
no_call out stamp calls DeviceFault h = tt
no_call out stamp calls OutOfMemory h = tt

-- what is refused with no stamp is so with each
left_any : (out : List ℕ) (stamp : Option ℕ) (refusal : Refusal) → MayRefuseLeft out None refusal → MayRefuseLeft out stamp refusal
left_any out stamp (Missing name) h = h
left_any out stamp (TooLong name) h = h
left_any out stamp (BadLine name line) h = absurd h
left_any out stamp (BadReport name line) h = h
left_any out stamp (BadRemap row) h = absurd h
left_any out stamp (BadChange row) h = absurd h
left_any out stamp (NotLegal cause) h = absurd h
left_any out stamp (Unshown (unshown.BadJournal name line)) h = h
left_any out stamp (Unshown (unshown.BadReads name line)) h = h
left_any out stamp (Unshown (unshown.Unfit found)) h = h
left_any out stamp (Unshown (unshown.NoCall k)) h = absurd (cc h)

pub together_any : (capture out : List ℕ) (stamp : Option ℕ) (refusal : Refusal) → MayRefuseCapture capture refusal ⊎ MayRefuseLeft out None refusal → MayRefuseCapture capture refusal ⊎ MayRefuseLeft out stamp refusal
together_any capture out stamp refusal (inl h) = inl h
together_any capture out stamp refusal (inr h) = inr (left_any out stamp refusal h)

-- ---- what words may come to

pub only_no_command : (command : Option Command) (h : Hosting) (done : Result Plan Failure) → MayComeTo command h done → IsErrOf done BadCommand → IsNone command
only_no_command None h done may is = refl
only_no_command (Some command) h (Ok plan) may is = absurd (cc is)
only_no_command (Some command) h (Err BadCommand) may is = absurd may
only_no_command (Some command) h (Err (Refused refusal)) may is = absurd (cc is)
only_no_command (Some command) h (Err (Differs finding)) may is = absurd (cc is)
only_no_command (Some command) h (Err (NotDone cause)) may is = absurd (cc is)
only_no_command (Some command) h (Err (NotSent cause)) may is = absurd (cc is)
only_no_command (Some command) h (Err DeviceFault) may is = absurd (cc is)
only_no_command (Some command) h (Err OutOfMemory) may is = absurd (cc is)

-- ---- the start that a file spells

pub spelled_start : (name bytes : List ℕ) (result : Result StartFile Failure) → Answered (StartOf name bytes) result → IfOk result (λ file. IsSpelled file.start)
spelled_start name bytes (Ok file) says = (bytes, file.sessions, says)
spelled_start name bytes (Err failure) says = tt
