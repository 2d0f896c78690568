-- The order of values is an order.
use Rattle.std.proofs.Common.{◌≡◌, ℕ, zero, suc, List, [], ◌∷◌, length, drop, refl, sym, ap, subst, ◌∙◌, arith}
use Rattle.std.specs.Prelude.{ℤ, pos, min}
use Rattle.std.specs.Ordering.{nat_cmp, int_cmp, ordering_then, then_cmp, on}
use Rattle.std.specs.Cmp.{IsTotalOrder}
use Rattle.std.specs.Cmp.Lexicographic.{slice_cmp}
use Rattle.std.specs.declared.cmp.Ordering.{Ordering}
use Rattle.std.specs.declared.cmp.Ordering.TheVariants.{Less, Equal, Greater}
use Rattle.std.proofs.lemmas.Cmp.{nat_cmp_total, int_cmp_total, nat_list_cmp_total, on_total, then_total, lists_total}
use Rattle.desk_values.specs.declared.value.Value.{Value}
use Rattle.desk_values.specs.declared.value.Value.TheVariants.{Null, Int, Text, Row, Draw}
use Rattle.desk_values.specs.Sorting.{kind_then_value, place_of_kind, value_by_value}

number_in : Value → ℤ
number_in (Int n) = n
number_in other = pos 0

-- the bytes of a text, the number of a row, the sequence and the number of a draw
numbers_in : Value → List ℕ
numbers_in (Text text) = text
numbers_in (Row n) = n ∷ []
numbers_in (Draw sequence n) = sequence ∷ n ∷ []
numbers_in other = []

abbrev by_parts : Value → Value → Ordering
by_parts = then_cmp (on place_of_kind nat_cmp) (then_cmp (on number_in int_cmp) (on numbers_in (slice_cmp nat_cmp)))

parts_total : IsTotalOrder by_parts
parts_total = then_total (on_total place_of_kind nat_cmp_total) (then_total (on_total number_in int_cmp_total) (on_total numbers_in nat_list_cmp_total))

then_equal : (o : Ordering) → ordering_then o Equal ≡ o
then_equal Less = refl
then_equal Equal = refl
then_equal Greater = refl

by_parts_is : (a b : Value) → kind_then_value a b ≡ by_parts a b
unfolding number_in numbers_in
by_parts_is Null Null = refl
by_parts_is (Int a) (Int b) = sym (then_equal (int_cmp a b))
by_parts_is (Text a) (Text b) = refl
by_parts_is (Row a) (Row b) = sym (then_equal (nat_cmp a b))
by_parts_is (Draw p a) (Draw q b) = ap (ordering_then (nat_cmp p q)) (sym (then_equal (nat_cmp a b)))
by_parts_is a b = refl

pub value_total : IsTotalOrder kind_then_value
value_total = subst IsTotalOrder (λ i a b. sym (by_parts_is a b) i) parts_total

pub row_total : IsTotalOrder value_by_value
row_total = lists_total value_total

-- where the shorter of two rows ends, the longer one is greater
pub at_the_end : (n : ℕ) (a b : List Value) → n ≡ min (length a) (length b) → value_by_value (drop n a) (drop n b) ≡ nat_cmp (length a) (length b)
at_the_end n [] [] end = grind (arith)
at_the_end n [] (y ∷ ys) end = grind (arith)
at_the_end n (x ∷ xs) [] end = grind (arith)
at_the_end zero (x ∷ xs) (y ∷ ys) end = grind (arith)
at_the_end (suc n) (x ∷ xs) (y ∷ ys) end = at_the_end n xs ys (grind (arith)) ∙ grind (arith)
