-- What holds of each member, as lists are put together and taken apart.
use Rattle.std.proofs.Common.{ℕ, zero, suc, ◌<◌, Bool, List, [], ◌∷◌, ◌++◌, length, map, get_or, take, set, arith}
use Rattle.std.specs.Prelude.{replicate}
use Rattle.std.specs.List.{AllByRecursion, filter}
use Rattle.std.proofs.lemmas.List.Elements.{All-append, All-filter, All-from_recursion, All-replicate, All-set, All-take, All-weaker, recursion_from_All}

module _ {X : Type 0} (P : X → Type 0) where
  pub each_weaker : (Q : X → Type 0) → ((x : X) → P x → Q x) → (xs : List X) → AllByRecursion P xs → AllByRecursion Q xs
  each_weaker Q weaker xs h = recursion_from_All Q xs (All-weaker P Q weaker xs (All-from_recursion P xs h))

  pub each_filtered : (p : X → Bool) (xs : List X) → AllByRecursion P xs → AllByRecursion P (filter p xs)
  each_filtered p xs h = recursion_from_All P (filter p xs) (All-filter p P xs (All-from_recursion P xs h))

  pub each_taken : (n : ℕ) (xs : List X) → AllByRecursion P xs → AllByRecursion P (take n xs)
  each_taken n xs h = recursion_from_All P (take n xs) (All-take P n xs (All-from_recursion P xs h))

  pub each_joined : (xs ys : List X) → AllByRecursion P xs → AllByRecursion P ys → AllByRecursion P (xs ++ ys)
  each_joined xs ys h g = recursion_from_All P (xs ++ ys) (All-append P xs ys (All-from_recursion P xs h) (All-from_recursion P ys g))

  pub each_set : (xs : List X) (i : ℕ) (x : X) → P x → AllByRecursion P xs → AllByRecursion P (set xs i x)
  each_set xs i x new h = recursion_from_All P (set xs i x) (All-set P xs i x new (All-from_recursion P xs h))

  pub each_repeated : (n : ℕ) (x : X) → P x → AllByRecursion P (replicate n x)
  each_repeated n x h = recursion_from_All P (replicate n x) (All-replicate P n x h)

  pub each_mapped : {Y : Type 0} (f : Y → X) (ys : List Y) → AllByRecursion (λ y. P (f y)) ys → AllByRecursion P (map f ys)
  each_mapped f [] h = tt
  each_mapped f (y ∷ ys) h = (h.0, each_mapped f ys h.1)

  pub each_at : (xs : List X) (i : ℕ) (d : X) → i < length xs → AllByRecursion P xs → P (get_or xs i d)
  each_at [] i d within all = absurd (omega arith)
  each_at (x ∷ xs) zero d within all = all.0
  each_at (x ∷ xs) (suc i) d within all = each_at xs i d (omega arith) all.1

  pub one_of : (xs : List X) (i : ℕ) (d : X) → P d → AllByRecursion P xs → P (get_or xs i d)
  one_of [] i d h all = h
  one_of (x ∷ xs) zero d h all = all.0
  one_of (x ∷ xs) (suc i) d h all = one_of xs i d h all.1
