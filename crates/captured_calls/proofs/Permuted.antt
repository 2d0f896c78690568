-- Where each number is the stamp of one call, the calls by stamp are all calls, in another order.
use Rattle.std.proofs.Common.{◌≡◌, ℕ, suc, ◌+◌, ◌<◌, Bool, true, false, ◌||◌, List, [], ◌∷◌, length, refl, sym, ap, subst, ◌∙◌, arith, cond}
use Rattle.std.specs.Prelude.{Option, None, Some}
use Rattle.std.specs.List.{cons_option, filter, filter_map, range_with_len}
use Rattle.std.specs.List.Sorted.{IsPermutation}
use Rattle.std.proofs.lemmas.Bool.{eqb-true, ne_eqb}
use Rattle.std.proofs.lemmas.List.Sorted.{IsPermutation-cons, IsPermutation-middle, IsPermutation-refl, IsPermutation-sym, IsPermutation-trans, length_permutation}
use Rattle.std.proofs.lemmas.List.Sums.{count_by-le-length, length-filter}
use Rattle.desk_values.specs.declared.capture.Captured.{Captured}
use Rattle.captured_calls.specs.Stamps.{HasEach, by_stamp, call_at, count_at, has_stamp}
use Rattle.captured_calls.proofs.Counts.{count_no, count_yes, not_found}
use Rattle.captured_calls.proofs.Members.{some_is}
use Rattle.captured_calls.proofs.Stamping.{by_stamp_len}

-- the stamp is one of n numbers from a on
abbrev in_range : ℕ → ℕ → Captured → Bool
in_range a Prim.Native.Nat.zero call = false
in_range a (suc n) call = has_stamp a call || in_range (a + 1) n call

lower_out : (a n : ℕ) (call : Captured) → call.stamp < a → in_range a n call ≡ false
lower_out a Prim.Native.Nat.zero call lt = refl
lower_out a (suc n) call lt = ap (λ (b : Bool). b || in_range (a + 1) n call) (ne_eqb call.stamp a (λ same. absurd (omega (arith, same, lt)))) ∙ lower_out (a + 1) n call (omega (arith, lt))

filter_cons : (p : Captured → Bool) (x : Captured) (xs : List Captured) (b : Bool) → p x ≡ b → filter p (x ∷ xs) ≡ cond b (x ∷ filter p xs) (filter p xs)
filter_cons p x xs b is = ap (λ (t : Bool). cond t (x ∷ filter p xs) (filter p xs)) is

-- the one call with a stamp comes to the front of the others
module _ (a : ℕ) (q : Captured → Bool) where
  abbrev or_here : Captured → Bool
  or_here call = has_stamp a call || q call

  nobody : (xs : List Captured) → count_at xs a ≡ 0 → filter or_here xs ≡ filter q xs
  nobody [] none = refl
  nobody (x ∷ xs) none = at (has_stamp a x) refl (nobody xs)
    where
      at : (b : Bool) → has_stamp a x ≡ b → (count_at xs a ≡ 0 → filter or_here xs ≡ filter q xs) → filter or_here (x ∷ xs) ≡ filter q (x ∷ xs)
      at true is later = absurd (omega (arith, count_yes (has_stamp a) x xs is, none))
      at false is later = filter_cons or_here x xs (q x) (ap (λ (b : Bool). b || q x) is) ∙ ap (λ (l : List Captured). cond (q x) (x ∷ l) l) (later (sym (count_no (has_stamp a) x xs is) ∙ none))

  to_front : (xs : List Captured) (call : Captured) → ((y : Captured) → has_stamp a y ≡ true → q y ≡ false) → count_at xs a ≡ 1 → call_at xs a ≡ Some call → IsPermutation (call ∷ filter q xs) (filter or_here xs)
  to_front [] call apart one found = cc
  to_front (x ∷ xs) call apart one found = at (has_stamp a x) refl (q x) refl (to_front xs call apart)
    where
      at : (b : Bool) → has_stamp a x ≡ b → (c : Bool) → q x ≡ c → (count_at xs a ≡ 1 → call_at xs a ≡ Some call → IsPermutation (call ∷ filter q xs) (filter or_here xs)) → IsPermutation (call ∷ filter q (x ∷ xs)) (filter or_here (x ∷ xs))
      at true is c other later =
          let head : call_at (x ∷ xs) a ≡ Some x = ap (λ (b : Bool). cond b (Some x) (call_at xs a)) is in
          let same : x ≡ call = some_is (sym head ∙ found) in
          let none : count_at xs a ≡ 0 = omega (arith, count_yes (has_stamp a) x xs is, one) in
          let left : call ∷ filter q (x ∷ xs) ≡ x ∷ filter q xs = ap (λ (l : List Captured). call ∷ l) (filter_cons q x xs false (apart x is)) ∙ ap (λ (y : Captured). y ∷ filter q xs) (sym same) in
          let right : filter or_here (x ∷ xs) ≡ x ∷ filter q xs = filter_cons or_here x xs true (ap (λ (b : Bool). b || q x) is) ∙ ap (λ (l : List Captured). x ∷ l) (nobody xs none) in
          subst (IsPermutation (call ∷ filter q (x ∷ xs))) (left ∙ sym right) (IsPermutation-refl (call ∷ filter q (x ∷ xs)))
      at false is true passes later =
          let rest = later (sym (count_no (has_stamp a) x xs is) ∙ one) (sym (ap (λ (b : Bool). cond b (Some x) (call_at xs a)) is) ∙ found) in
          let left : filter q (x ∷ xs) ≡ x ∷ filter q xs = filter_cons q x xs true passes in
          let right : filter or_here (x ∷ xs) ≡ x ∷ filter or_here xs = filter_cons or_here x xs true (ap (λ (b : Bool). b || q x) is ∙ passes) in
          let moved : IsPermutation (call ∷ x ∷ filter q xs) (x ∷ call ∷ filter q xs) = IsPermutation-middle (call ∷ []) x (filter q xs) in
          let joined : IsPermutation (call ∷ x ∷ filter q xs) (x ∷ filter or_here xs) = IsPermutation-trans (call ∷ x ∷ filter q xs) (x ∷ call ∷ filter q xs) (x ∷ filter or_here xs) moved (IsPermutation-cons x (call ∷ filter q xs) (filter or_here xs) rest) in
          subst (λ (l : List Captured). IsPermutation (call ∷ l) (filter or_here (x ∷ xs))) (sym left) (subst (IsPermutation (call ∷ x ∷ filter q xs)) (sym right) joined)
      at false is false fails later =
          let rest = later (sym (count_no (has_stamp a) x xs is) ∙ one) (sym (ap (λ (b : Bool). cond b (Some x) (call_at xs a)) is) ∙ found) in
          let left : filter q (x ∷ xs) ≡ filter q xs = filter_cons q x xs false fails in
          let right : filter or_here (x ∷ xs) ≡ filter or_here xs = filter_cons or_here x xs false (ap (λ (b : Bool). b || q x) is ∙ fails) in
          subst (λ (l : List Captured). IsPermutation (call ∷ l) (filter or_here (x ∷ xs))) (sym left) (subst (IsPermutation (call ∷ filter q xs)) (sym right) rest)

none_in : (a : ℕ) (xs : List Captured) → filter (in_range a 0) xs ≡ []
none_in a [] = refl
none_in a (x ∷ xs) = none_in a xs

picked : (xs : List Captured) (a n : ℕ) → ((j : ℕ) → j < n → count_at xs (a + j) ≡ 1) → IsPermutation (filter_map (call_at xs) (range_with_len a n)) (filter (in_range a n) xs)
picked xs a Prim.Native.Nat.zero each = subst (IsPermutation []) (sym (none_in a xs)) (IsPermutation-refl [])
picked xs a (suc n) each = at (call_at xs a) refl (picked xs (a + 1) n (λ j lt. subst (λ (k : ℕ). count_at xs k ≡ 1) (omega arith) (each (suc j) (omega (arith, lt)))))
  where
    one : count_at xs a ≡ 1
    one = subst (λ (k : ℕ). count_at xs k ≡ 1) (omega arith) (each 0 (omega arith))

    others : List Captured
    others = filter_map (call_at xs) (range_with_len (a + 1) n)

    at : (o : Option Captured) → call_at xs a ≡ o → IsPermutation others (filter (in_range (a + 1) n) xs) → IsPermutation (filter_map (call_at xs) (range_with_len a (suc n))) (filter (in_range a (suc n)) xs)
    at None is later = absurd (omega (arith, not_found (has_stamp a) xs is, one))
    at (Some call) is later =
        subst (λ (l : List Captured). IsPermutation l (filter (in_range a (suc n)) xs)) (sym (ap (λ (o : Option Captured). cons_option o others) is))
        (IsPermutation-trans (call ∷ others) (call ∷ filter (in_range (a + 1) n) xs) (filter (in_range a (suc n)) xs) (IsPermutation-cons call others (filter (in_range (a + 1) n) xs) later)
        (to_front a (in_range (a + 1) n) xs call (λ y here. lower_out (a + 1) n y (omega (arith, eqb-true y.stamp a here))) one is))

all_pass : (p : Captured → Bool) (xs : List Captured) → length (filter p xs) ≡ length xs → filter p xs ≡ xs
all_pass p [] len = refl
all_pass p (x ∷ xs) len = at (p x) refl (all_pass p xs)
  where
    at : (b : Bool) → p x ≡ b → (length (filter p xs) ≡ length xs → filter p xs ≡ xs) → filter p (x ∷ xs) ≡ x ∷ xs
    at true is later =
        let front : filter p (x ∷ xs) ≡ x ∷ filter p xs = filter_cons p x xs true is in
        front ∙ ap (λ (l : List Captured). x ∷ l) (later (omega (arith, sym (ap length front) ∙ len)))
    at false is later =
        let gone : length (filter p xs) ≡ suc (length xs) = sym (ap length (filter_cons p x xs false is)) ∙ len in
        absurd (omega (arith, gone, length-filter p xs, count_by-le-length p xs))

pub stamped_are_all : (calls : List Captured) → HasEach calls → IsPermutation calls (by_stamp calls)
unfolding by_stamp
stamped_are_all calls has =
    let n = length calls in
    let chosen = filter (in_range 0 n) calls in
    let moved : IsPermutation (by_stamp calls) chosen = picked calls 0 n (λ j lt. has.each (0 + j) (omega (arith, lt))) in
    let len : length chosen ≡ length calls = length_permutation (by_stamp calls) chosen moved ∙ by_stamp_len calls has in
    IsPermutation-sym (by_stamp calls) calls (subst (IsPermutation (by_stamp calls)) (all_pass (in_range 0 n) calls len) moved)
