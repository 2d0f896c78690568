-- The files of sessions, as they are read.
use Rattle.std.proofs.Common.{◌≡◌, ℕ, zero, suc, ◌+◌, ◌<◌, ◌≤◌, ◌/◌, ◌%◌, ◌^◌, lit<, length-append, append_assoc, append-nil, drop, get_or, List, [], ◌∷◌, ◌++◌, length, Result, Ok, Err, refl, sym, ap, subst, ◌∙◌, arith}
use Rattle.std.specs.Prelude.{IfOk, codes}
use Rattle.std.specs.List.{AllByRecursion}
use Rattle.std.specs.Fmt.{decimal}
use Rattle.std.proofs.lemmas.Fmt.{length-decimal-le}
use Rattle.std.proofs.lemmas.List.{drop_all, length-map}
use Rattle.std.proofs.Math.Seq.{drop-cons}
use Rattle.desk_files.specs.declared.writes.Write.{Write}
use Rattle.captured_calls.specs.Sessions.{AreSessionsFrom}
use Rattle.desk_values.specs.Room.{Room}
use Rattle.desk_values.specs.declared.capture.Captured.{Captured}
use Rattle.file_lines.specs.File.{ReadsFile}
use Rattle.file_lines.specs.declared.reader.FormErr.TheVariants.{Bad}
use Rattle.capture_format.specs.SessionFile.{AreCallsOf, IsBadSession, IsSessionFile, MayTellAll, session_text}
use Rattle.captured_calls.specs.Sessions.{AreSessionsFrom}
use Rattle.prepare_plan.specs.Lists.{lists_of}
use Rattle.replay_page.specs.Captured.{AreSpelled}
use Rattle.replay_cli.specs.declared.failure.Refusal.TheVariants.{BadLine}
use Rattle.replay_cli.specs.declared.failure.Failure.{Failure}
use Rattle.replay_cli.specs.declared.failure.Failure.TheVariants.{BadCommand, Refused, Differs, NotDone, NotSent, DeviceFault, OutOfMemory}
use Rattle.replay_cli.specs.Decision.{SessionOf}
use Rattle.replay_cli.specs.Done.{session_files}
use Rattle.replay_cli.specs.Inside.Steps.{FaultFree}
use Rattle.replay_cli.specs.FileNames.{in_three_digits, session_name, session_names}

-- the first bad line of a session's file
pub bad_session : (version session : ℕ) (name copy bytes : List ℕ) (line : ℕ) → ReadsFile {X = Room Captured} (Err (Bad line)) (λ calls. IsSessionFile session version bytes calls.items) (IsBadSession session version bytes) → copy ≡ name → SessionOf version session name bytes (Err (BadLine copy line))
bad_session version session name copy bytes line reads same = (line, (reads.0, λ calls. reads.1 (record { items = calls; spare = 0 })), ap (λ (n : List ℕ). BadLine n line) same)

pub free_error : (X Y : Type 0) (failure : Failure) → FaultFree {X = X} (Err failure) → FaultFree {X = Y} (Err failure)
free_error X Y BadCommand free = absurd free
free_error X Y (Refused refusal) free = free
free_error X Y (Differs finding) free = absurd free
free_error X Y (NotDone cause) free = absurd free
free_error X Y (NotSent cause) free = absurd free
free_error X Y DeviceFault free = absurd free
free_error X Y OutOfMemory free = free

pub lists_more : (sessions : List (Room Captured)) (calls : Room Captured) → lists_of (sessions ++ calls ∷ []) ≡ lists_of sessions ++ calls.items ∷ []
lists_more [] calls = refl
lists_more (first ∷ sessions) calls = ap (λ (lists : List (List Captured)). first.items ∷ lists) (lists_more sessions calls)

-- lists of sessions with that of the next one behind them
pub are_more : (session : ℕ) (lists : List (List Captured)) (n : ℕ) (calls : List Captured) → n ≡ session + length lists → AreSessionsFrom session lists → AreCallsOf n calls → AreSessionsFrom session (lists ++ calls ∷ [])
are_more session [] n calls same are next = (subst (λ (k : ℕ). AreCallsOf k calls) (same ∙ omega arith) next, tt)
are_more session (first ∷ lists) n calls same are next = (are.0, are_more (session + 1) lists n calls (omega (arith, same)) are.1 next)

pub count_lists : (sessions : List (Room Captured)) → length (lists_of sessions) ≡ length sessions
count_lists sessions = length-map sessions (λ (calls : Room Captured). calls.items)

pub few_lists : (result : Result (List (Room Captured)) Failure) (n : ℕ) → n ≤ 64 → IfOk result (λ sessions. length sessions ≡ n) → IfOk result (λ sessions. length sessions ≤ 64)
few_lists (Ok sessions) n few same = omega (arith, few, same)
few_lists (Err failure) n few same = tt

-- lists of sessions that are spelled, with one more
pub spelled_more : (version : ℕ) (lists : List (List Captured)) (calls : List Captured) → AllByRecursion (AreSpelled version) lists → AreSpelled version calls → AllByRecursion (AreSpelled version) (lists ++ calls ∷ [])
spelled_more version [] calls are next = (next, tt)
spelled_more version (first ∷ lists) calls are next = (are.0, spelled_more version lists calls are.1 next)

-- the calls of a session's file are
pub file_spelled : (session version : ℕ) (bytes : List ℕ) (calls : List Captured) → IsSessionFile session version bytes calls → AreSpelled version calls
file_spelled session version bytes calls is = record { told = is.told; fit = is.fit }

-- ---- names

short : (k : ℕ) → k < 1000 → length (decimal k) ≤ 20
short k small = let fits : k < 2 ^ 64 = omega (arith, small) in length-decimal-le 20 k (lit< tt) (omega (arith, fits)) fits

pub short_name : (n : ℕ) → n < 1000 → length (codes "/session-" ++ in_three_digits n (codes ".cap")) ≤ 100
short_name n small =
    let hundreds = short (n / 100) (omega (arith, small)) in
    let tens = short (n / 10 % 10) (omega (arith, small)) in
    let ones = short (n % 10) (omega (arith, small)) in
    let a = length-append (decimal (n % 10)) (codes ".cap") in
    let b = length-append (decimal (n / 10 % 10)) (decimal (n % 10) ++ codes ".cap") in
    let d = length-append (decimal (n / 100)) (decimal (n / 10 % 10) ++ (decimal (n % 10) ++ codes ".cap")) in
    let whole : length (codes "/session-" ++ in_three_digits n (codes ".cap")) ≡ 9 + length (in_three_digits n (codes ".cap")) = length-append (codes "/session-") (in_three_digits n (codes ".cap")) in
    let last : length (codes ".cap") ≡ 4 = refl in
    omega (arith, hundreds, tens, ones, a, b, d, whole, last)

pub count_names : (folder : List ℕ) (n : ℕ) → length (session_names folder n) ≡ n
count_names folder zero = refl
count_names folder (suc n) = length-append (session_names folder n) (session_name folder n ∷ []) ∙ (let e = count_names folder n in omega (arith, e))

-- ---- the files of sessions, as they are written

session_here : (lists : List (Room Captured)) (i : ℕ) (calls : Room Captured) → i < length lists → calls ≡ get_or lists i calls → lists_of (drop i lists) ≡ calls.items ∷ lists_of (drop (i + 1) lists)
session_here lists i calls within is =
    let rest : drop i lists ≡ calls ∷ drop (i + 1) lists = drop-cons lists i calls within ∙ (let next : suc i ≡ i + 1 = omega arith in rw (← is, next) refl) in
    ap lists_of rest

-- the next list is that of the session of this number, and the others are those behind it
pub next_session : (lists : List (Room Captured)) (i : ℕ) (calls : Room Captured) → i < length lists → calls ≡ get_or lists i calls → AreSessionsFrom i (lists_of (drop i lists)) → AreCallsOf i calls.items × AreSessionsFrom (i + 1) (lists_of (drop (i + 1) lists))
next_session lists i calls within is are = subst (AreSessionsFrom i) (session_here lists i calls within is) are

pub next_told : (version : ℕ) (lists : List (Room Captured)) (i : ℕ) (calls : Room Captured) → i < length lists → calls ≡ get_or lists i calls → AllByRecursion (MayTellAll version) (lists_of (drop i lists)) → MayTellAll version calls.items × AllByRecursion (MayTellAll version) (lists_of (drop (i + 1) lists))
next_told version lists i calls within is told = subst (AllByRecursion (MayTellAll version)) (session_here lists i calls within is) told

pub one_more_file : (out : List ℕ) (version : ℕ) (lists : List (Room Captured)) (writes whole : List Write) (i session : ℕ) (calls : Room Captured) (write : Write) → i < length lists → calls ≡ get_or lists i calls → session ≡ i
    → write ≡ record { name = session_name out session; bytes = session_text session version calls.items } → writes ++ session_files out version i (lists_of (drop i lists)) ≡ whole
    → (writes ++ write ∷ []) ++ session_files out version (i + 1) (lists_of (drop (i + 1) lists)) ≡ whole
one_more_file out version lists writes whole i session calls write within is same write_is so_far =
    let rest = session_files out version (i + 1) (lists_of (drop (i + 1) lists)) in
    append_assoc writes (write ∷ []) rest ∙ ap (λ (w : Write). writes ++ w ∷ rest) (write_is ∙ ap (λ (n : ℕ). record { name = session_name out n; bytes = session_text n version calls.items }) same)
    ∙ ap (λ (ls : List (List Captured)). writes ++ session_files out version i ls) (sym (session_here lists i calls within is)) ∙ so_far

pub all_files : (out : List ℕ) (version : ℕ) (lists : List (Room Captured)) (writes whole : List Write) (i : ℕ) → length lists ≤ i → writes ++ session_files out version i (lists_of (drop i lists)) ≡ whole → writes ≡ whole
all_files out version lists writes whole i all so_far =
    sym (append-nil writes) ∙ ap (λ (rest : List (Room Captured)). writes ++ session_files out version i (lists_of rest)) (sym (drop_all i lists all)) ∙ so_far
