-- How many of a list pass a test.
use Rattle.std.proofs.Common.{◌≡◌, ◌≤◌, ℕ, zero, suc, ◌+◌, Bool, true, false, cond, List, [], ◌∷◌, ◌++◌, length, take, drop, refl, sym, ap, ◌∙◌, zero-add, arith}
use Rattle.std.specs.Prelude.{None, Some, count_by, slice_get}
use Rattle.std.specs.List.{AllByRecursion, find}
use Rattle.std.proofs.lemmas.List.{take_all, take-append-drop, take-append-le}
use Rattle.std.proofs.lemmas.List.Sums.{count_by-le-length, sum_by-append, sum_by-cons}
use Rattle.std.proofs.lemmas.Option.{none-some}
use Rattle.captured_calls.proofs.Members.{some_is}

module _ {X : Type 0} (p : X → Bool) where
  pub count_cons : (x : X) (xs : List X) → count_by p (x ∷ xs) ≡ cond (p x) 1 0 + count_by p xs
  count_cons x xs = sum_by-cons _ x xs

  pub count_yes : (x : X) (xs : List X) → p x ≡ true → count_by p (x ∷ xs) ≡ 1 + count_by p xs
  count_yes x xs is = count_cons x xs ∙ ap (λ (b : Bool). cond b 1 0 + count_by p xs) is

  pub count_no : (x : X) (xs : List X) → p x ≡ false → count_by p (x ∷ xs) ≡ count_by p xs
  count_no x xs is = count_cons x xs ∙ ap (λ (b : Bool). cond b 1 0 + count_by p xs) is ∙ zero-add (count_by p xs)

  pub count_joined : (xs ys : List X) → count_by p (xs ++ ys) ≡ count_by p xs + count_by p ys
  count_joined xs ys = sum_by-append _ xs ys

  pub count_none : (xs : List X) → AllByRecursion (λ x. p x ≡ false) xs → count_by p xs ≡ 0
  count_none [] all = refl
  count_none (x ∷ xs) all = count_no x xs all.0 ∙ count_none xs all.1

  pub not_found : (xs : List X) → find p xs ≡ None → count_by p xs ≡ 0
  not_found [] none = refl
  not_found (x ∷ xs) none = at (p x) refl (not_found xs)
    where
      at : (b : Bool) → p x ≡ b → (find p xs ≡ None → count_by p xs ≡ 0) → count_by p (x ∷ xs) ≡ 0
      at true hits later = absurd (none-some x (sym (sym (rw hits refl) ∙ none)))
      at false misses later = count_no x xs misses ∙ later (sym (rw misses refl) ∙ none)

  -- ---- those in front of a place

  pub count_whole : (xs : List X) → count_by p (take (length xs) xs) ≡ count_by p xs
  count_whole xs = ap (count_by p) (take_all (length xs) xs (omega arith))

  pub count_more : (xs : List X) (x : X) → count_by p (take (length (xs ++ x ∷ [])) (xs ++ x ∷ [])) ≡ count_by p (take (length xs) xs) + cond (p x) 1 0
  count_more xs x =
      let one : count_by p (x ∷ []) ≡ cond (p x) 1 0 = omega (arith, count_cons x []) in
      omega (arith, count_whole (xs ++ x ∷ []), count_whole xs, count_joined xs (x ∷ []), one)

  pub count_before : (xs : List X) (x : X) (k : ℕ) → k ≤ length xs → count_by p (take k (xs ++ x ∷ [])) ≡ count_by p (take k xs)
  count_before xs x k le = ap (count_by p) (take-append-le k xs (x ∷ []) le)

  pub count_part : (xs : List X) (k : ℕ) → count_by p (take k xs) ≤ count_by p xs
  count_part xs k = omega (arith, count_joined (take k xs) (drop k xs), ap (count_by p) (take-append-drop k xs))

  pub count_within : (xs : List X) → count_by p (take (length xs) xs) ≤ length xs
  count_within xs = omega (arith, count_whole xs, count_by-le-length p xs)

  -- one that passes has its own number of them in front
  pub same_place : (xs : List X) (i j : ℕ) (x y : X) → slice_get xs i ≡ Some x → slice_get xs j ≡ Some y → p x ≡ true → p y ≡ true → count_by p (take i xs) ≡ count_by p (take j xs) → i ≡ j
  same_place [] i j x y there too first second same = cc
  same_place (z ∷ zs) zero zero x y there too first second same = refl
  same_place (z ∷ zs) zero (suc j) x y there too first second same = absurd (omega (arith, same, count_yes z (take j zs) (ap p (some_is there) ∙ first)))
  same_place (z ∷ zs) (suc i) zero x y there too first second same = absurd (omega (arith, same, count_yes z (take i zs) (ap p (some_is too) ∙ second)))
  same_place (z ∷ zs) (suc i) (suc j) x y there too first second same =
      let rest : count_by p (take i zs) ≡ count_by p (take j zs) = omega (arith, same, count_cons z (take i zs), count_cons z (take j zs)) in
      ap suc (same_place zs i j x y there too first second rest)
