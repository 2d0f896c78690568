-- What serving leaves is a capture, and a legal one.
use Rattle.std.proofs.Common.{◌≡◌, ◌≢◌, ◌∙◌, ℕ, zero, suc, ◌+◌, ◌<◌, ◌≤◌, ◌/◌, ◌%◌, List, [], ◌∷◌, ◌++◌, length, map, get_or, Some, Ok, refl, sym, ap, subst, arith}
use Rattle.std.specs.Prelude.{codes}
use Rattle.std.specs.FinMap.{get, insert}
use Rattle.std.specs.List.{AllByRecursion, range_with_len, sum_by}
use Rattle.std.proofs.lemmas.Fmt.{decimal_digit}
use Rattle.std.proofs.lemmas.List.{append_cancel_left}
use Rattle.std.proofs.lemmas.List.FromFn.{length-map-range_with_len, map-range_with_len_more}
use Rattle.std.proofs.lemmas.List.Sorted.{IsPermutation-sym}
use Rattle.std.proofs.lemmas.List.Sums.{sum_by-cons}
use Rattle.desk_values.specs.declared.capture.Captured.{Captured}
use Rattle.desk_files.specs.Limits.{file_limit}
use Rattle.desk_files.specs.Outside.{FileMap}
use Rattle.desk_files.specs.Writes.{with_all}
use Rattle.desk_files.specs.declared.writes.Write.{Write}
use Rattle.desk_files.proofs.FileLaws.{get-insert_other, get-insert_same}
use Rattle.desk_schema.specs.Start.{StartView}
use Rattle.capture_format.specs.SessionFile.{IsSessionFile, session_text}
use Rattle.capture_format.specs.StartFile.{start_text}
use Rattle.captured_calls.specs.Facts.{facts_of}
use Rattle.captured_calls.specs.Sessions.{calls_of, session_lists}
use Rattle.captured_calls.specs.Stamps.{all_calls, by_stamp}
use Rattle.captured_calls.specs.Verdict.{CanBeLegal, IsLegal}
use Rattle.capture_recorder.specs.Recording.{Recording}
use Rattle.capture_recorder.proofs.Listed.{have_just}
use Rattle.capture_serve.specs.Service.{AreReadFrom, CaptureView, IsCapture}
use Rattle.replay_cli.specs.Decision.{ToTell, Verdict, run_job, run_task}
use Rattle.replay_cli.specs.Done.{session_files}
use Rattle.replay_cli.specs.FileNames.{in_three_digits, session_name, session_names, start_name}
use Rattle.law_commands.specs.Commands.Complete.{AreCapture, AreThere, total}
use Rattle.law_commands.specs.Commands.Served.{AreSmall, ServedCapturesAreLegal, ServedCapturesArePrepared, ServedCapturesAreReplayed, start_file}
use Rattle.law_commands.proofs.Commands.Complete.{legal_prepared, legal_replayed}

-- ---- names

three : (n : ℕ) (rest : List ℕ) → n < 1000 → in_three_digits n rest ≡ (48 + n / 100) ∷ (48 + n / 10 % 10) ∷ (48 + n % 10) ∷ rest
three n rest small = rw (decimal_digit (n / 100) (omega (arith, small)), decimal_digit (n / 10 % 10) (omega (arith, small)), decimal_digit (n % 10) (omega (arith, small))) refl

same_number : (m n : ℕ) (rest : List ℕ) → m < 1000 → n < 1000 → in_three_digits m rest ≡ in_three_digits n rest → m ≡ n
same_number m n rest low small is =
    let all = sym (three m rest low) ∙ is ∙ three n rest small in
    let hundreds : 48 + m / 100 ≡ 48 + n / 100 = ap (λ (l : List ℕ). get_or l 0 0) all in
    let tens : 48 + m / 10 % 10 ≡ 48 + n / 10 % 10 = ap (λ (l : List ℕ). get_or l 1 0) all in
    let ones : 48 + m % 10 ≡ 48 + n % 10 = ap (λ (l : List ℕ). get_or l 2 0) all in
    omega (arith, hundreds, tens, ones, low, small)

session_apart : (out : List ℕ) (m n : ℕ) → m < n → n < 1000 → session_name out m ≢ session_name out n
session_apart out m n lt small same =
    let is : m ≡ n = same_number m n (codes ".cap") (omega (arith, lt, small)) small (append_cancel_left (codes "/session-") _ _ (append_cancel_left out _ _ same)) in
    omega (arith, is, lt)

start_apart : (out : List ℕ) (n : ℕ) → session_name out n ≢ start_name out
start_apart out n same =
    let third : 101 ≡ 116 = ap (λ (l : List ℕ). get_or l 2 0) (append_cancel_left out (codes "/session-" ++ in_three_digits n (codes ".cap")) (codes "/start.cap") same) in
    omega (arith, third)

pub names_are : (out : List ℕ) (n : ℕ) → session_names out n ≡ map (session_name out) (range_with_len 0 n)
names_are out zero = refl
names_are out (suc n) =
    let next : n + 1 ≡ suc n = omega arith in
    ap (λ (l : List (List ℕ)). l ++ session_name out n ∷ []) (names_are out n) ∙ sym (map-range_with_len_more (session_name out) 0 n n (omega arith)) ∙ ap (λ (k : ℕ). map (session_name out) (range_with_len 0 k)) next

-- ---- files

-- what a file holds stays where none of the later writes is of its name
pub kept : (writes : List Write) (files : FileMap) (name : List ℕ) → AllByRecursion (λ (write : Write). name ≢ write.name) writes → get (with_all writes files) name ≡ get files name
kept [] files name others = refl
kept (write ∷ writes) files name others = kept writes (insert files write.name write.bytes) name others.1 ∙ get-insert_other files write.name write.bytes name others.0

-- the files of these names are those of the sessions from this one on, of whatever size
abbrev pub AreHeld : FileMap → ℕ → ℕ → List (List ℕ) → List (List ℕ) → List (List Captured) → Type 0
AreHeld files version session [] [] [] = Unit {0}
AreHeld files version session (name ∷ names) (bytes ∷ texts) (calls ∷ lists) = (get files name ≡ Some bytes) × IsSessionFile session version bytes calls × AreHeld files version (session + 1) names texts lists
AreHeld files version session names texts lists = ⊥

-- the texts of the sessions from this one on
pub texts_from : ℕ → ℕ → List (List Captured) → List (List ℕ)
texts_from version session [] = []
texts_from version session (calls ∷ lists) = session_text session version calls ∷ texts_from version (session + 1) lists

module _ (out : List ℕ) (version : ℕ) (last : List ℕ) where
  -- the files of sessions from this one on, and then that of the start
  abbrev pub files_from : ℕ → List (List Captured) → List Write
  files_from session lists = session_files out version session lists ++ record { name = start_name out; bytes = last } ∷ []

  abbrev AreFit : List Write → Type 0
  AreFit writes = AllByRecursion (λ (write : Write). length write.bytes ≤ file_limit) writes

  apart : (m n : ℕ) (lists : List (List Captured)) → m < n → n + length lists ≤ 1000 → AllByRecursion (λ (write : Write). session_name out m ≢ write.name) (files_from n lists)
  apart m n [] lt few = (start_apart out m, tt)
  apart m n (calls ∷ lists) lt few = (session_apart out m n lt (omega (arith, few)), apart m (n + 1) lists (omega (arith, lt)) (omega (arith, few)))

  one_held : (files : FileMap) (session : ℕ) (calls : List Captured) (lists : List (List Captured)) → session + length (calls ∷ lists) ≤ 1000
      → get (with_all (files_from session (calls ∷ lists)) files) (session_name out session) ≡ Some (session_text session version calls)
  one_held files session calls lists few =
      kept (files_from (session + 1) lists) (insert files (session_name out session) (session_text session version calls)) (session_name out session) (apart session (session + 1) lists (omega arith) (omega (arith, few)))
      ∙ get-insert_same files (session_name out session) (session_text session version calls)

  pub sessions_held : (files : FileMap) (session : ℕ) (lists : List (List Captured)) → session + length lists ≤ 1000 → AreReadFrom version session lists
      → AreHeld (with_all (files_from session lists) files) version session (map (session_name out) (range_with_len session (length lists))) (texts_from version session lists) lists
  unfolding texts_from
  sessions_held files session [] few read = tt
  sessions_held files session (calls ∷ lists) few read =
      (one_held files session calls lists few, read.0, sessions_held (insert files (session_name out session) (session_text session version calls)) (session + 1) lists (omega (arith, few)) read.1)

  sessions_there : (files : FileMap) (session : ℕ) (lists : List (List Captured)) → session + length lists ≤ 1000 → AreReadFrom version session lists → AreFit (files_from session lists)
      → AreThere (with_all (files_from session lists) files) version session (map (session_name out) (range_with_len session (length lists))) (texts_from version session lists) lists
  unfolding texts_from
  sessions_there files session [] few read fit = tt
  sessions_there files session (calls ∷ lists) few read fit =
      ((one_held files session calls lists few, fit.0), read.0, sessions_there (insert files (session_name out session) (session_text session version calls)) (session + 1) lists (omega (arith, few)) read.1 fit.1)

  pub start_held : (files : FileMap) (session : ℕ) (lists : List (List Captured)) → get (with_all (files_from session lists) files) (start_name out) ≡ Some last
  start_held files session [] = get-insert_same files (start_name out) last
  start_held files session (calls ∷ lists) = start_held (insert files (session_name out session) (session_text session version calls)) (session + 1) lists

  start_fits : (session : ℕ) (lists : List (List Captured)) → AreFit (files_from session lists) → length last ≤ file_limit
  start_fits session [] fit = fit.0
  start_fits session (calls ∷ lists) fit = start_fits (session + 1) lists fit.1

  together : (session : ℕ) (lists : List (List Captured)) → length last + total (texts_from version session lists) ≡ sum_by (λ (write : Write). length write.bytes) (files_from session lists)
  unfolding texts_from
  together session [] = let one = sum_by-cons (λ (write : Write). length write.bytes) (record { name = start_name out; bytes = last }) [] in omega (arith, one)
  together session (calls ∷ lists) =
      let first = sum_by-cons (λ (write : Write). length write.bytes) (record { name = session_name out session; bytes = session_text session version calls }) (files_from (session + 1) lists) in
      let text = sum_by-cons (λ (b : List ℕ). length b) (session_text session version calls) (texts_from version (session + 1) lists) in
      omega (arith, first, text, together (session + 1) lists)

-- ---- the calls

legal : (start : StartView) (c : CaptureView) (r : Recording) → IsCapture start c r → CanBeLegal start (all_calls c.sessions) × (by_stamp (all_calls c.sessions) ≡ r.calls)
legal start c r is =
    let lists : List (List Captured) = session_lists c.connections r.calls in
    let just = have_just c.connections r.calls in
    subst (λ (ls : List (List Captured)). CanBeLegal start (all_calls ls) × (by_stamp (all_calls ls) ≡ r.calls)) (sym is.sessions) (
      (r.calls, IsPermutation-sym r.calls (all_calls lists) (just.all is.below), subst (λ (s : StartView). IsLegal s r.calls) is.start_is is.recording.legal),
      just.back is.below (λ k call at. (is.recording.legal.each k call at).stamp),
    )

-- as many lists as connections
pub as_many : (start : StartView) (c : CaptureView) (r : Recording) → IsCapture start c r → length c.sessions ≡ c.connections
as_many start c r is = ap (λ (lists : List (List Captured)). length lists) is.sessions ∙ length-map-range_with_len (λ (session : ℕ). calls_of session r.calls) 0 c.connections

pub served_legal : ServedCapturesAreLegal
served_legal files out start most plan before after served =
    let lists = served.capture.sessions in
    let count = served.capture.connections in
    let last = start_text start count in
    let version = start.schema.version in
    let can = legal start served.capture served.service.recording served.service.capture in
    let many : length lists ≡ count = ap length served.service.capture.sessions ∙ length-map-range_with_len (λ (session : ℕ). calls_of session served.service.recording.calls) 0 count in (
      can.0,
      can.1,
      subst (λ (writes : List Write). AreSmall writes → AreCapture (with_all writes files) out (start_file served) lists) (sym served.writes) (λ small. record {
        bytes = last;
        texts = texts_from version 0 lists;
        there = (start_held out version last files 0 lists, start_fits out version last 0 lists small.0);
        start = served.start_read;
        sessions = subst (λ (names : List (List ℕ)). AreThere (with_all (files_from out version last 0 lists) files) version 0 names (texts_from version 0 lists) lists) (ap (λ (n : ℕ). map (session_name out) (range_with_len 0 n)) many ∙ sym (names_are out count))
            (sessions_there out version last files 0 lists (let few = served.start_read.sessions in omega (arith, many, few)) served.sessions_read small.0);
        together = let all = together out version last 0 lists in let most = small.1 in omega (arith, all, most);
      }),
    )

pub served_replayed : ServedCapturesAreReplayed
served_replayed words files folder out ways services start target most plan before after command served small has changes =
    let can = served_legal files folder start most plan before after served in
    subst (λ (calls : List Captured). Verdict words (with_all plan.writes files) (Ok (run_task out (run_job (record { start = start; calls = calls; facts = facts_of start.schema calls }) target services ways) ways.target))) can.1
    (legal_replayed words (with_all plan.writes files) folder out ways (start_file served) served.capture.sessions services target command (can.2 small) has changes can.0)

pub served_prepared : ServedCapturesArePrepared
served_prepared words files folder out start most plan before after command served small =
    let can = served_legal files folder start most plan before after served in
    subst (λ (calls : List Captured). Verdict words (with_all plan.writes files) (Ok (ToTell out (facts_of start.schema calls)))) can.1
    (legal_prepared words (with_all plan.writes files) folder out (start_file served) served.capture.sessions command (can.2 small) can.0)
