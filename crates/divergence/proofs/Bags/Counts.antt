-- Lists in which each item stands equally often.
use Rattle.std.proofs.Common.{◌≡◌, ℕ, suc, ◌+◌, ◌<◌, Bool, true, false, cond, eqb, List, [], ◌∷◌, ◌++◌, get_or, refl, sym, ◌∙◌, ap, subst, arith, ⊎_elim}
use Rattle.std.specs.Bool.{Decides}
use Rattle.std.specs.Cmp.{IsStrictWeakOrder}
use Rattle.std.specs.List.{All, count_by, list_all}
use Rattle.std.specs.List.Sorted.{IsPermutation, IsSortedBy}
use Rattle.std.proofs.lemmas.Bool.{cases_Bool, cases_lt, eq-eqb, eqb-true}
use Rattle.std.proofs.lemmas.List.Elements.{All-head}
use Rattle.std.proofs.lemmas.List.Sums.{AllPass-from_list_all, list_all-from_AllPass, sum_by-append, sum_by-cons}
use Rattle.std.proofs.lemmas.List.Sorted.{All-permutation, IsPermutation-cons, IsPermutation-middle, IsPermutation-refl, IsPermutation-sym, IsPermutation-trans, sorted_far, sum_by-IsPermutation}

later : (k : ℕ) → suc k + 1 ≡ suc (k + 1)
later k = omega arith

abbrev one_if : Bool → ℕ
one_if b = cond b 1 0

module _ {X : Type 0} (same : X → X → Bool) (decides : (a b : X) → Decides (same a b) (a ≡ b)) where
  abbrev times : X → List X → ℕ
  times x xs = count_by (same x) xs

  -- each item as often in the one as in the other
  pub record AreEven (xs ys : List X) : Type 0 where
    pub at : (x : X) → count_by (same x) xs ≡ count_by (same x) ys

  times-cons : (x y : X) (xs : List X) → times x (y ∷ xs) ≡ cond (same x y) 1 0 + times x xs
  times-cons x y xs = sum_by-cons (λ (z : X). cond (same x z) 1 0) y xs

  times-first : (x : X) (xs : List X) → times x (x ∷ xs) ≡ 1 + times x xs
  times-first x xs = times-cons x x xs ∙ ap (λ (b : Bool). one_if b + times x xs) ((decides x x).1 refl)

  pub permuted_even : (xs ys : List X) → IsPermutation xs ys → AreEven xs ys
  permuted_even xs ys moved = record { at = λ x. sym (sum_by-IsPermutation (λ (y : X). cond (same x y) 1 0) xs ys moved) }

  -- an item that stands there can stand first
  pulled : (x : X) (xs : List X) → 0 < times x xs → (rest : List X) × IsPermutation xs (x ∷ rest)
  pulled x [] some = absurd (omega arith)
  pulled x (y ∷ xs) some = ⊎_elim
      (λ t. (xs, subst (λ (z : X). IsPermutation (y ∷ xs) (z ∷ xs)) (sym ((decides x y).0 t)) (IsPermutation-refl (y ∷ xs))))
      (λ f. let later : 0 < times x xs = omega (arith, times-cons x y xs, ap one_if f) in
      let deeper = pulled x xs later in
      (y ∷ deeper.0, IsPermutation-trans (y ∷ xs) (y ∷ x ∷ deeper.0) (x ∷ y ∷ deeper.0) (IsPermutation-cons y xs (x ∷ deeper.0) deeper.1) (IsPermutation-middle (y ∷ []) x deeper.0)))
      (cases_Bool (same x y))

  pub even_permuted : (xs ys : List X) → AreEven xs ys → IsPermutation xs ys
  even_permuted [] [] even = IsPermutation-refl []
  even_permuted [] (y ∷ ys) even = absurd (omega (arith, even.at y, times-first y ys))
  even_permuted (x ∷ xs) ys even =
      let out = pulled x ys (omega (arith, even.at x, times-first x xs)) in
      let apart = permuted_even ys (x ∷ out.0) out.1 in
      let rest = even_permuted xs out.0 (record { at = λ z. omega (arith, even.at z, apart.at z, times-cons z x xs, times-cons z x out.0) }) in
      IsPermutation-trans (x ∷ xs) (x ∷ out.0) ys (IsPermutation-cons x xs out.0 rest) (IsPermutation-sym ys (x ∷ out.0) out.1)

  -- what holds of all items holds of one that stands there
  at_one : (P : X → Type 0) (xs : List X) → All P xs → (x : X) → 0 < times x xs → P x
  at_one P xs all x some = let out = pulled x xs some in All-head P x out.0 (All-permutation P xs (x ∷ out.0) out.1 all)

  -- the test of the items of both
  pub even_decides : (xs ys : List X) → Decides (list_all (λ x. eqb (count_by (same x) xs) (count_by (same x) ys)) (xs ++ ys)) (AreEven xs ys)
  even_decides xs ys =
      let test : X → Bool = λ x. eqb (times x xs) (times x ys) in (
        λ e. record {
          at = λ x. ⊎_elim
              (λ some. eqb-true (times x xs) (times x ys) (at_one (λ (z : X). test z ≡ true) (xs ++ ys) (AllPass-from_list_all test (xs ++ ys) e) x some))
              (λ none. omega (arith, none, sum_by-append (λ (y : X). cond (same x y) 1 0) xs ys))
              (cases_lt 0 (times x (xs ++ ys)));
        },
        λ even. list_all-from_AllPass test (xs ++ ys) (λ k d h. eq-eqb _ _ (even.at (get_or (xs ++ ys) k d))),
      )

  -- ---- ascending lists

  module _ (lt : X → X → Bool) (order : IsStrictWeakOrder lt) (exact : (a b : X) → lt a b ≡ false → lt b a ≡ false → a ≡ b) where
    least : (x : X) (xs : List X) → IsSortedBy lt (x ∷ xs) → (z : X) → 0 < times z (x ∷ xs) → lt z x ≡ false
    least x xs up z some = at_one (λ (y : X). lt y x ≡ false) (x ∷ xs) (λ k d h. sorted_far lt order (x ∷ xs) up 0 k d (omega arith) h) z some

    sorted_tail : (x : X) (xs : List X) → IsSortedBy lt (x ∷ xs) → IsSortedBy lt xs
    sorted_tail x xs up = λ k d low high. subst (λ (n : ℕ). lt (get_or (x ∷ xs) n d) (get_or xs k d) ≡ false) (later k) (up (suc k) d (omega arith) (omega arith))

    -- two with the same items are one
    pub one_sorted : (xs ys : List X) → AreEven xs ys → IsSortedBy lt xs → IsSortedBy lt ys → xs ≡ ys
    one_sorted [] [] even up rise = refl
    one_sorted [] (y ∷ ys) even up rise = absurd (omega (arith, even.at y, times-first y ys))
    one_sorted (x ∷ xs) [] even up rise = absurd (omega (arith, even.at x, times-first x xs))
    one_sorted (x ∷ xs) (y ∷ ys) even up rise =
        let here : 0 < times y (x ∷ xs) = omega (arith, even.at y, times-first y ys) in
        let there : 0 < times x (y ∷ ys) = omega (arith, even.at x, times-first x xs) in
        let first : x ≡ y = exact x y (least y ys rise x there) (least x xs up y here) in
        let evens : AreEven xs ys = record { at = λ z. let same_first = ap (λ (w : X). one_if (same z w)) first in omega (arith, even.at z, times-cons z x xs, times-cons z y ys, same_first) } in
        let rest = one_sorted xs ys evens (sorted_tail x xs up) (sorted_tail y ys rise) in
        cc
