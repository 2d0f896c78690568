-- Items of lists by their places.
use Rattle.std.proofs.Common.{◌≡◌, ℕ, zero, suc, ◌<◌, ◌⊎◌, inl, inr, List, [], ◌∷◌, ◌++◌, Option, Some, length, get_or, refl, sym, ap, ◌∙◌, arith}
use Rattle.std.specs.Prelude.{slice_get}
use Rattle.std.proofs.lemmas.Option.{slice_get_within, slice_get-get_or, same_Some}

abbrev pub some : {A : Type 0} → A → Option A
some x = Some x

-- an item that a loop has at an index
pub item_at : {A : Type 0} (items xs : List A) (i : ℕ) (x : A) → items ≡ xs → i < length items → x ≡ get_or items i x → slice_get xs i ≡ Some x
item_at items xs i x e within is = ap (λ ys. slice_get ys i) (sym e) ∙ slice_get-get_or items i x within ∙ ap some (sym is)

-- an item at each place within
pub item_there : {A : Type 0} (xs : List A) (i : ℕ) → i < length xs → (x : A) × (slice_get xs i ≡ Some x)
item_there [] i lt = absurd (omega arith)
item_there (x ∷ xs) zero lt = (x, refl)
item_there (x ∷ xs) (suc i) lt = item_there xs i (omega arith)

-- an item of a list with one more is one of the list, or the last
pub at_push : {A : Type 0} (xs : List A) (x : A) (i : ℕ) (y : A) → slice_get (xs ++ x ∷ []) i ≡ Some y → (slice_get xs i ≡ Some y) ⊎ ((i ≡ length xs) × (x ≡ y))
at_push [] x zero y e = inr (refl, same_Some x y e)
at_push [] x (suc i) y e = absurd cc
at_push (z ∷ xs) x zero y e = inl e
at_push (z ∷ xs) x (suc i) y e = elim (at_push xs x i y e) [
  | inl before ↦ inl before
  | inr last ↦ inr (omega (arith, last.0), last.1)
]

pub kept_at : {A : Type 0} (xs ys : List A) (i : ℕ) (x : A) → slice_get xs i ≡ Some x → slice_get (xs ++ ys) i ≡ Some x
kept_at [] ys i x e = absurd (let within = slice_get_within [] i x e in omega (arith, within))
kept_at (y ∷ xs) ys zero x e = e
kept_at (y ∷ xs) ys (suc i) x e = kept_at xs ys i x e

pub last_at : {A : Type 0} (xs : List A) (x : A) → slice_get (xs ++ x ∷ []) (length xs) ≡ Some x
last_at [] x = refl
last_at (y ∷ xs) x = last_at xs x
