-- The lists of sessions have just the calls.
use Rattle.std.proofs.Common.{◌≡◌, ◌∙◌, ◌<◌, ◌≤◌, ℕ, zero, suc, ◌+◌, Bool, false, cond, List, [], ◌∷◌, ◌++◌, map, refl, sym, ap, subst, inl, inr, arith}
use Rattle.std.specs.List.{range_with_len}
use Rattle.std.specs.List.Sorted.{IsPermutation}
use Rattle.std.proofs.lemmas.Bool.{cases_Bool, eq-eqb, eqb-true, false≢true, ne_eqb}
use Rattle.std.proofs.lemmas.List.Sorted.{IsPermutation-append_right, IsPermutation-cons, IsPermutation-middle, IsPermutation-refl, IsPermutation-sym, IsPermutation-trans}
use Rattle.desk_values.specs.declared.capture.Captured.{Captured}
use Rattle.captured_calls.specs.Sessions.{calls_of, is_of, session_lists}
use Rattle.captured_calls.specs.Stamps.{all_calls}
use Rattle.captured_calls.proofs.Ordered.{order_is_by_stamp}
use Rattle.capture_recorder.specs.Listed.{AreBelow, HaveJust}

-- the lists of so many sessions from this one on
abbrev lists_from : ℕ → ℕ → List Captured → List (List Captured)
lists_from a n calls = map (λ session. calls_of session calls) (range_with_len a n)

-- a call of an earlier session is in none of them
none_before : (call : Captured) (calls : List Captured) (a n : ℕ) → call.session < a → lists_from a n (call ∷ calls) ≡ lists_from a n calls
none_before call calls a zero lt = refl
none_before call calls a (suc n) lt =
    let other : is_of a call ≡ false = ne_eqb call.session a (λ same. absurd (omega (arith, same, lt))) in
    ap (λ (b : Bool). cond b (call ∷ calls_of a calls) (calls_of a calls) ∷ lists_from (a + 1) n (call ∷ calls)) other
    ∙ ap (λ (lists : List (List Captured)). calls_of a calls ∷ lists) (none_before call calls (a + 1) n (omega (arith, lt)))

-- one of theirs is in one of them
one_more : (call : Captured) (calls : List Captured) (a n : ℕ) → a ≤ call.session → call.session < a + n → IsPermutation (call ∷ all_calls (lists_from a n calls)) (all_calls (lists_from a n (call ∷ calls)))
one_more call calls a zero from to = absurd (omega (arith, from, to))
one_more call calls a (suc n) from to =
    let first : List Captured = calls_of a calls in
    let later : List Captured = all_calls (lists_from (a + 1) n calls) in
    let longer : List Captured = all_calls (lists_from (a + 1) n (call ∷ calls)) in
    elim (cases_Bool (is_of a call)) [
      | inl here ↦ (
          let lt : call.session < a + 1 = omega (arith, eqb-true call.session a here) in
          let same : longer ≡ later = ap all_calls (none_before call calls (a + 1) n lt) in
          let whole : (call ∷ first) ++ later ≡ all_calls (lists_from a (suc n) (call ∷ calls)) = sym (ap (λ (b : Bool). cond b (call ∷ first) first ++ longer) here ∙ ap (λ (rest : List Captured). (call ∷ first) ++ rest) same) in
          subst (IsPermutation (call ∷ (first ++ later))) whole (IsPermutation-refl (call ∷ (first ++ later))))
      | inr there ↦ (
          let deeper : IsPermutation (call ∷ later) longer = one_more call calls (a + 1) n (omega (arith, from, (λ (same : call.session ≡ a). false≢true (sym there ∙ eq-eqb call.session a same)))) (omega (arith, to)) in
          let moved : IsPermutation (call ∷ (first ++ later)) (first ++ call ∷ later) = IsPermutation-sym (first ++ call ∷ later) (call ∷ (first ++ later)) (IsPermutation-middle first call later) in
          let whole : first ++ longer ≡ all_calls (lists_from a (suc n) (call ∷ calls)) = sym (ap (λ (b : Bool). cond b (call ∷ first) first ++ longer) there) in
          subst (IsPermutation (call ∷ (first ++ later))) whole
          (IsPermutation-trans (call ∷ (first ++ later)) (first ++ call ∷ later) (first ++ longer) moved (IsPermutation-append_right first (call ∷ later) longer deeper)))
    ]

no_calls : (a n : ℕ) → all_calls (lists_from a n []) ≡ []
no_calls a zero = refl
no_calls a (suc n) = no_calls (a + 1) n

all_are : (count : ℕ) (calls : List Captured) → AreBelow count calls → IsPermutation calls (all_calls (session_lists count calls))
all_are count [] below = subst (IsPermutation []) (sym (no_calls 0 count)) (IsPermutation-refl [])
all_are count (call ∷ calls) below =
    let rest : IsPermutation calls (all_calls (session_lists count calls)) = all_are count calls (λ k other at. below (suc k) other at) in
    IsPermutation-trans (call ∷ calls) (call ∷ all_calls (session_lists count calls)) (all_calls (session_lists count (call ∷ calls)))
    (IsPermutation-cons call calls (all_calls (session_lists count calls)) rest) (one_more call calls 0 count (omega arith) (omega (arith, below 0 call refl)))

pub have_just : (count : ℕ) (calls : List Captured) → HaveJust count calls (session_lists count calls)
have_just count calls = record {
  all = all_are count calls;
  back = λ below stamped.
      let all : List Captured = all_calls (session_lists count calls) in
      sym (order_is_by_stamp all calls (IsPermutation-sym calls all (all_are count calls below)) stamped);
}
