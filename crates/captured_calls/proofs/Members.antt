-- Members of lists at their places.
use Rattle.std.proofs.Common.{◌≡◌, ◌⊎◌, ◌<◌, ℕ, zero, suc, Bool, true, false, List, [], ◌∷◌, ◌++◌, length, take, refl, sym, ap, subst, ◌∙◌, inl, inr, arith}
use Rattle.std.specs.Prelude.{Option, Some, slice_get}
use Rattle.std.specs.List.{AllByRecursion, find}

module _ {X : Type 0} where
  pub some_is : {x y : X} → ◌≡◌ {A = Option X} (Some x) (Some y) → x ≡ y
  some_is e = cc

  pub get_there : (xs : List X) (k : ℕ) → k < length xs → (x : X) × (slice_get xs k ≡ Some x)
  get_there [] k lt = absurd (omega (arith, lt))
  get_there (x ∷ xs) zero lt = (x, refl)
  get_there (x ∷ xs) (suc k) lt = get_there xs k (omega (arith, lt))

  pub take_there : (xs : List X) (k : ℕ) (x : X) → slice_get xs k ≡ Some x → take (suc k) xs ≡ take k xs ++ x ∷ []
  take_there [] k x there = cc
  take_there (y ∷ ys) zero x there = ap (λ (z : X). z ∷ []) (some_is there)
  take_there (y ∷ ys) (suc k) x there = ap (λ (l : List X). y ∷ l) (take_there ys k x there)

  -- ---- one more at the end

  pub get_before : (xs : List X) (y : X) (k : ℕ) (x : X) → slice_get xs k ≡ Some x → slice_get (xs ++ y ∷ []) k ≡ Some x
  get_before [] y k x is = absurd cc
  get_before (z ∷ xs) y zero x is = is
  get_before (z ∷ xs) y (suc k) x is = get_before xs y k x is

  pub before_or_end : (xs : List X) (y : X) (k : ℕ) (x : X) → slice_get (xs ++ y ∷ []) k ≡ Some x → ((k < length xs) × (slice_get xs k ≡ Some x)) ⊎ ((k ≡ length xs) × (x ≡ y))
  before_or_end [] y zero x is = inr (refl, cc)
  before_or_end [] y (suc k) x is = absurd cc
  before_or_end (z ∷ xs) y zero x is = inl (omega arith, is)
  before_or_end (z ∷ xs) y (suc k) x is = elim (before_or_end xs y k x is) [
    | inl before ↦ inl (omega (arith, before.0), before.1)
    | inr end ↦ inr (ap suc end.0, end.1)
  ]

  -- ---- what holds of each

  module _ (P : X → Type 0) where
    pub each_get : (xs : List X) (k : ℕ) (x : X) → AllByRecursion P xs → slice_get xs k ≡ Some x → P x
    each_get [] k x all there = cc
    each_get (y ∷ ys) zero x all there = subst P (some_is there) all.0
    each_get (y ∷ ys) (suc k) x all there = each_get ys k x all.1 there

    pub found_holds : (p : X → Bool) (xs : List X) (x : X) → AllByRecursion P xs → find p xs ≡ Some x → P x
    found_holds p [] x all found = cc
    found_holds p (y ∷ ys) x all found = at (p y) refl (λ rest. found_holds p ys x all.1 rest)
      where
        at : (b : Bool) → p y ≡ b → (find p ys ≡ Some x → P x) → P x
        at true hits rest = subst P (some_is (sym (rw hits refl) ∙ found)) all.0
        at false misses rest = rest (sym (rw misses refl) ∙ found)
