-- The calls of each session have a file.
use Rattle.std.proofs.Common.{◌≡◌, ◌≤◌, ℕ, zero, suc, ◌+◌, cond, List, [], ◌∷◌, ◌++◌, length, map, take, refl, sym, ap, subst, inl, inr, arith}
use Rattle.std.specs.Prelude.{count_by, nat_eq}
use Rattle.std.specs.List.{AllByRecursion, range_with_len}
use Rattle.std.proofs.lemmas.Bool.{cases_Bool, eqb-true}
use Rattle.desk_values.specs.declared.capture.Captured.{Captured}
use Rattle.capture_format.specs.SessionFile.{AreCallsFrom, AreCallsOf}
use Rattle.replay_history.specs.Gap.{IsCallAt, IsStamped}
use Rattle.captured_calls.specs.Sessions.{AreSessionsFrom, calls_of, is_of, session_lists}
use Rattle.captured_calls.specs.Stamped.{ArePlaced, HasText}
use Rattle.captured_calls.proofs.Counts.{count_cons}
use Rattle.captured_calls.proofs.Members.{each_get}

-- a call of a list that begins with this stamp, behind so many calls of the session
pub record Stands (session stamp place : ℕ) (calls : List Captured) (k : ℕ) (call : Captured) : Type 0 where
  pub stamp_is : call.stamp ≡ stamp + k
  pub place_is : call.session ≡ session → call.place ≡ place + count_by (is_of session) (take k calls)
  pub text : HasText call

module _ (session : ℕ) where
  later : (stamp place next : ℕ) (first : Captured) (calls : List Captured) → next ≡ place + cond (is_of session first) 1 0 → ((k : ℕ) (call : Captured) → IsCallAt (first ∷ calls) k call → Stands session stamp place (first ∷ calls) k call) → (k : ℕ) (call : Captured) → IsCallAt calls k call → Stands session (stamp + 1) next calls k call
  later stamp place next first calls is each k call at =
      let here = each (suc k) call at in
      record {
        stamp_is = omega (arith, here.stamp_is);
        place_is = λ mine. omega (arith, here.place_is mine, is, count_cons (is_of session) first (take k calls));
        text = here.text;
      }

  files_from : (calls : List Captured) (stamp least place : ℕ) → least ≤ stamp → ((k : ℕ) (call : Captured) → IsCallAt calls k call → Stands session stamp place calls k call) → AreCallsFrom session place least (calls_of session calls)
  files_from [] stamp least place order each = tt
  files_from (first ∷ calls) stamp least place order each =
      let here = each zero first refl in
      elim (cases_Bool (is_of session first)) [
        | inl mine ↦ (
            let same : first.session ≡ session = eqb-true first.session session mine in
            let one : ◌≡◌ {A = ℕ} (cond (is_of session first) 1 0) 1 = ap (λ b. cond b 1 0) mine in
            let at : first.place ≡ place = omega (arith, here.place_is same) in
            let rest = files_from calls (stamp + 1) (first.stamp + 1) (place + 1) (omega (arith, here.stamp_is)) (later stamp place (place + 1) first calls (omega (arith, one)) each) in
            subst (AreCallsFrom session place least) (ap (λ b. cond b (first ∷ calls_of session calls) (calls_of session calls)) (sym mine))
            (record { session_is = same; place_is = at; stamp = omega (arith, order, here.stamp_is); began = here.text.began; ended = here.text.ended; reply = here.text.reply }, rest))
        | inr other ↦ (
            let none : ◌≡◌ {A = ℕ} (cond (is_of session first) 1 0) 0 = ap (λ b. cond b 1 0) other in
            subst (AreCallsFrom session place least) (ap (λ b. cond b (first ∷ calls_of session calls) (calls_of session calls)) (sym other))
            (files_from calls (stamp + 1) least place (omega (arith, order)) (later stamp place place first calls (omega (arith, none)) each)))
      ]

module _ (calls : List Captured) (stamped : IsStamped calls) (placed : ArePlaced calls) (texts : AllByRecursion HasText calls) where
  pub session_file : (session : ℕ) → AreCallsOf session (calls_of session calls)
  session_file session = files_from session calls 0 0 0 (omega arith) (λ k call at. record {
    stamp_is = omega (arith, stamped k call at);
    place_is = λ mine. (let same = ap (λ s. count_by (λ (c : Captured). nat_eq c.session s) (take k calls)) mine in omega (arith, placed k call at, same));
    text = each_get HasText calls k call texts at;
  })

  sessions_from : (from count : ℕ) → AreSessionsFrom from (map (λ session. calls_of session calls) (range_with_len from count))
  sessions_from from zero = tt
  sessions_from from (suc count) = (session_file from, sessions_from (from + 1) count)

  pub session_files : (count : ℕ) → AreSessionsFrom 0 (session_lists count calls)
  session_files count = sessions_from 0 count

-- the list of one more session
pub lists_more : (session : ℕ) (lists : List (List Captured)) (calls : List Captured) → AreSessionsFrom session lists → AreCallsOf (session + length lists) calls → AreSessionsFrom session (lists ++ calls ∷ [])
lists_more session [] calls are more = (subst (λ (s : ℕ). AreCallsOf s calls) (omega arith) more, tt)
lists_more session (first ∷ lists) calls are more = (are.0, lists_more (session + 1) lists calls are.1 (subst (λ (s : ℕ). AreCallsOf s calls) (omega arith) more))
