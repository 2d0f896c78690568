-- What is left of a list that is sorted and then rid of repeats: each item once, in order.
use Rattle.std.proofs.Common.{◌≡◌, ℕ, true, List, [], ◌∷◌, eqb, refl, sym, ap, subst, ◌∙◌, arith}
use Rattle.std.specs.List.{Contains, dedup}
use Rattle.std.specs.List.Sorted.{IsPermutation, IsSorted, IsStrictlySortedBy}
use Rattle.std.specs.Cmp.{Equal-is, IsEquivalence, IsTotalOrder, both_ways, tied_back, tied_itself}
use Rattle.std.specs.Ordering.{eq_by_cmp, is_eq, nat_cmp, ordering_then}
use Rattle.std.specs.declared.cmp.Ordering.{Ordering}
use Rattle.std.specs.declared.cmp.Ordering.TheVariants.{Less, Equal, Greater}
use Rattle.std.proofs.lemmas.Cmp.{nat_cmp_total, on_total, then_total}
use Rattle.std.proofs.lemmas.List.Kept.{Contains-dedup, Contains-from_dedup, IsStrictlySortedBy-dedup}
use Rattle.std.proofs.lemmas.List.Sorted.{Contains-permutation, IsPermutation-sym}
use Rattle.std.proofs.lemmas.Map.Lookups.{CmpEqualImpliesEq, exact_bytes, exact_pairs, exact_signed, exact_unsigned}
use Rattle.desk_values.specs.declared.value.Value.TheVariants.{Null, Int, Text, Row, Draw}
use Rattle.desk_values.specs.Sorting.{kind_then_value}
use Rattle.desk_values.proofs.ValueOrder.{value_total}
use Rattle.server_words.specs.declared.views.KeyId.{KeyId}
use Rattle.server_words.specs.Views.{AreOnce, Ascend, key_order}

module _ {X : Type 0} (R : X → X → Ordering) where
  ascending : (xs : List X) → IsStrictlySortedBy R xs → Ascend R xs
  unfolding IsStrictlySortedBy
  ascending [] up = tt
  ascending (x ∷ []) up = tt
  ascending (x ∷ y ∷ rest) up = (up.0.0, ascending (y ∷ rest) up.1)

  module _ (o : IsTotalOrder R) (exact : CmpEqualImpliesEq R) where
    same_so : (x y : X) → eq_by_cmp R x y ≡ true → x ≡ y
    same_so x y e = exact x y ((Equal-is (R x y)).0 e)

    equal : IsEquivalence (eq_by_cmp R)
    equal = record {
      refl = λ x. ap is_eq (tied_itself o x);
      symm = λ x y. both_ways (eq_by_cmp R x y) (eq_by_cmp R y x)
          (λ e. ap is_eq (tied_back o x y ((Equal-is (R x y)).0 e)))
          (λ e. ap is_eq (tied_back o y x ((Equal-is (R y x)).0 e)));
      congr = λ x y z e. ap is_eq (o.congr x y z ((Equal-is (R x y)).0 e));
    }

    pub once : (xs ys zs : List X) → IsPermutation xs ys → IsSorted R ys → zs ≡ dedup (eq_by_cmp R) ys → AreOnce R xs zs
    once xs ys zs moved up is = record {
      ascend = subst (Ascend R) (sym is) (ascending (dedup (eq_by_cmp R) ys) (IsStrictlySortedBy-dedup o (λ x y. refl) ys up));
      only = λ x c. Contains-permutation ys xs x (IsPermutation-sym xs ys moved) (Contains-from_dedup (eq_by_cmp R) ys x (subst (λ (l : List X). Contains l x) is c));
      all = λ x c. subst (λ (l : List X). Contains l x) (sym is) (Contains-dedup equal same_so ys x (Contains-permutation xs ys x moved c));
    }

-- ---- orders that tell any two apart

pub value_exact : CmpEqualImpliesEq kind_then_value
value_exact Null Null e = refl
value_exact (Int a) (Int b) e = ap Int (exact_signed a b e)
value_exact (Text a) (Text b) e = ap Text (exact_bytes a b e)
value_exact (Row a) (Row b) e = ap Row (exact_unsigned a b e)
value_exact (Draw p a) (Draw q b) e = let both = exact_pairs nat_cmp nat_cmp exact_unsigned exact_unsigned (p, a) (q, b) e in
    let first = ap (λ (u : ℕ × ℕ). u.0) both in
    let second = ap (λ (u : ℕ × ℕ). u.1) both in
    cc
value_exact a b e = absurd (cc)

both_equal : (o p : Ordering) → ordering_then o p ≡ Equal → (o ≡ Equal) × (p ≡ Equal)
both_equal Equal p e = (refl, e)
both_equal Less p e = absurd (cc)
both_equal Greater p e = absurd (cc)

pub key_exact : CmpEqualImpliesEq key_order
key_exact a b e =
    let both = both_equal (nat_cmp a.table b.table) (kind_then_value a.key b.key) e in
    let table = exact_unsigned a.table b.table both.0 in
    let key = value_exact a.key b.key both.1 in
    λ i. record { table = table i; key = key i }

pub key_total : IsTotalOrder key_order
key_total = then_total (on_total (λ (key : KeyId). key.table) nat_cmp_total) (on_total (λ (key : KeyId). key.key) value_total)

-- ---- numbers

number_ties : (m n : ℕ) → eqb m n ≡ eq_by_cmp nat_cmp m n
number_ties m n = grind arith

pub numbers_once : (xs ys zs : List ℕ) → IsPermutation xs ys → IsSorted nat_cmp ys → zs ≡ dedup eqb ys → AreOnce nat_cmp xs zs
numbers_once xs ys zs moved up is = once nat_cmp nat_cmp_total exact_unsigned xs ys zs moved up (is ∙ (λ i. dedup (λ m n. number_ties m n i) ys))
