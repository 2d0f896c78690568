-- The order of rows tells any two apart.
use Rattle.std.proofs.Common.{◌≡◌, ℕ, true, List, [], ◌∷◌, refl, ap, subst}
use Rattle.std.specs.Bool.{Decides}
use Rattle.std.specs.Cmp.{Equal-is, tied_itself}
use Rattle.std.specs.Ordering.{is_eq, nat_cmp, ordering_then}
use Rattle.std.specs.declared.cmp.Ordering.{Ordering}
use Rattle.std.specs.declared.cmp.Ordering.TheVariants.{Less, Equal, Greater}
use Rattle.std.proofs.lemmas.Map.Lookups.{CmpEqualImpliesEq, exact_bytes, exact_pairs, exact_signed, exact_unsigned}
use Rattle.desk_values.specs.declared.value.Value.{Value}
use Rattle.desk_values.specs.declared.value.Value.TheVariants.{Null, Int, Text, Row, Draw}
use Rattle.desk_values.specs.Sorting.{kind_then_value, value_by_value}
use Rattle.desk_values.proofs.ValueOrder.{row_total}
use Rattle.divergence.specs.Bags.Equality.{same_row}

value_exact : CmpEqualImpliesEq kind_then_value
value_exact Null Null e = refl
value_exact (Int a) (Int b) e = ap Int (exact_signed a b e)
value_exact (Text a) (Text b) e = ap Text (exact_bytes a b e)
value_exact (Row a) (Row b) e = ap Row (exact_unsigned a b e)
value_exact (Draw p a) (Draw q b) e = let both = exact_pairs nat_cmp nat_cmp exact_unsigned exact_unsigned (p, a) (q, b) e in
    let first = ap (λ (u : ℕ × ℕ). u.0) both in
    let second = ap (λ (u : ℕ × ℕ). u.1) both in
    cc
value_exact a b e = absurd (cc)

both_equal : (o p : Ordering) → ordering_then o p ≡ Equal → (o ≡ Equal) × (p ≡ Equal)
both_equal Equal p e = (refl, e)
both_equal Less p e = absurd (cc)
both_equal Greater p e = absurd (cc)

pub row_exact : CmpEqualImpliesEq value_by_value
row_exact [] [] e = refl
row_exact [] (y ∷ ys) e = absurd (cc)
row_exact (x ∷ xs) [] e = absurd (cc)
row_exact (x ∷ xs) (y ∷ ys) e =
    let both = both_equal (kind_then_value x y) (value_by_value xs ys) e in
    let first = value_exact x y both.0 in
    let others = row_exact xs ys both.1 in
    cc

pub row_decides : (a b : List Value) → Decides (same_row a b) (a ≡ b)
row_decides a b = (
  λ e. row_exact a b ((Equal-is (value_by_value a b)).0 e),
  λ e. subst (λ (row : List Value). same_row a row ≡ true) e (ap is_eq (tied_itself row_total a)),
)
