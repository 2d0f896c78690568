-- The files of sessions, one after the other.
use Rattle.std.proofs.Common.{◌≡◌, ℕ, suc, ◌+◌, ◌<◌, ◌≤◌, drop, get_or, List, [], ◌∷◌, ◌++◌, length, refl, sym, ap, subst, ◌∙◌, append_assoc, append-nil, arith}
use Rattle.std.specs.List.{AllByRecursion}
use Rattle.std.proofs.lemmas.List.{drop_all, length-map}
use Rattle.std.proofs.Math.Seq.{drop-cons}
use Rattle.desk_values.specs.Room.{Room}
use Rattle.desk_values.specs.declared.capture.Captured.{Captured}
use Rattle.capture_format.specs.SessionFile.{AreCallsOf, session_text}
use Rattle.captured_calls.specs.Sessions.{AreSessionsFrom}
use Rattle.prepare_plan.specs.Lists.{lists_of}
use Rattle.replay_page.specs.Captured.{AreSpelled, session_files, session_name}
use Rattle.replay_page.specs.declared.page.NamedText.{NamedText}

pub count_lists : (sessions : List (Room Captured)) → length (lists_of sessions) ≡ length sessions
count_lists sessions = length-map sessions (λ (calls : Room Captured). calls.items)

session_here : (lists : List (Room Captured)) (i : ℕ) (calls : Room Captured) → i < length lists → calls ≡ get_or lists i calls → lists_of (drop i lists) ≡ calls.items ∷ lists_of (drop (i + 1) lists)
session_here lists i calls within is =
    let rest : drop i lists ≡ calls ∷ drop (i + 1) lists = drop-cons lists i calls within ∙ (let next : suc i ≡ i + 1 = omega arith in rw (← is, next) refl) in
    ap lists_of rest

-- the next list is that of the session of this number, and the others are those behind it
pub next_session : (lists : List (Room Captured)) (i : ℕ) (calls : Room Captured) → i < length lists → calls ≡ get_or lists i calls → AreSessionsFrom i (lists_of (drop i lists)) → AreCallsOf i calls.items × AreSessionsFrom (i + 1) (lists_of (drop (i + 1) lists))
next_session lists i calls within is are = subst (AreSessionsFrom i) (session_here lists i calls within is) are

pub next_spelled : (version : ℕ) (lists : List (Room Captured)) (i : ℕ) (calls : Room Captured) → i < length lists → calls ≡ get_or lists i calls → AllByRecursion (AreSpelled version) (lists_of (drop i lists)) → AreSpelled version calls.items × AllByRecursion (AreSpelled version) (lists_of (drop (i + 1) lists))
next_spelled version lists i calls within is spelled = subst (AllByRecursion (AreSpelled version)) (session_here lists i calls within is) spelled

pub one_more_file : (version : ℕ) (lists : List (Room Captured)) (files whole : List NamedText) (i session : ℕ) (calls : Room Captured) (file : NamedText) → i < length lists → calls ≡ get_or lists i calls → session ≡ i
    → file ≡ record { name = session_name session; bytes = session_text session version calls.items } → files ++ session_files version i (lists_of (drop i lists)) ≡ whole
    → (files ++ file ∷ []) ++ session_files version (i + 1) (lists_of (drop (i + 1) lists)) ≡ whole
one_more_file version lists files whole i session calls file within is same file_is so_far =
    let rest = session_files version (i + 1) (lists_of (drop (i + 1) lists)) in
    append_assoc files (file ∷ []) rest ∙ ap (λ (f : NamedText). files ++ f ∷ rest) (file_is ∙ ap (λ (n : ℕ). record { name = session_name n; bytes = session_text n version calls.items }) same)
    ∙ ap (λ (ls : List (List Captured)). files ++ session_files version i ls) (sym (session_here lists i calls within is)) ∙ so_far

pub all_files : (version : ℕ) (lists : List (Room Captured)) (files whole : List NamedText) (i : ℕ) → length lists ≤ i → files ++ session_files version i (lists_of (drop i lists)) ≡ whole → files ≡ whole
all_files version lists files whole i all so_far =
    sym (append-nil files) ∙ ap (λ (rest : List (Room Captured)). files ++ session_files version i (lists_of rest)) (sym (drop_all i lists all)) ∙ so_far
