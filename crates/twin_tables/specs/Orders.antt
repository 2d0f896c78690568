-- The order of images is an order, in which only equal ones tie. The proofs stand here since the code names them, at a trait's `total`
-- and `exact`.
use Rattle.std.proofs.Common.{◌≡◌, ℕ, List, [], Option, None, Some, refl, sym, ap, subst}
use Rattle.std.specs.Ordering.{nat_cmp, ordering_then, then_cmp, on}
use Rattle.std.specs.Cmp.{IsTotalOrder}
use Rattle.std.specs.declared.cmp.Ordering.{Ordering}
use Rattle.std.specs.declared.cmp.Ordering.TheVariants.{Less, Equal, Greater}
use Rattle.std.proofs.lemmas.Cmp.{nat_cmp_total, on_total, then_total}
use Rattle.std.proofs.lemmas.Map.Lookups.{CmpEqualImpliesEq, exact_unsigned}
use Rattle.desk_values.specs.declared.value.Value.{Value}
use Rattle.desk_values.specs.declared.value.Image.{Image}
use Rattle.desk_values.specs.Sorting.{value_by_value}
use Rattle.desk_values.proofs.ValueOrder.{row_total}
use Rattle.divergence.proofs.Bags.RowOrder.{row_exact}
use Rattle.twin_tables.specs.Members.{image_order, order_of_left}

abbrev place : Option (List Value) → ℕ
place None = 0
place (Some values) = 1

abbrev values_left : Option (List Value) → List Value
values_left None = []
values_left (Some values) = values

by_parts_is : (left other : Option (List Value)) → order_of_left left other ≡ then_cmp (on place nat_cmp) (on values_left value_by_value) left other
by_parts_is None None = refl
by_parts_is None (Some others) = refl
by_parts_is (Some values) None = refl
by_parts_is (Some values) (Some others) = refl

-- two orders that are not equal
abbrev IsApart : Ordering → Type 0
IsApart Equal = ⊥
IsApart Less = Unit {0}
IsApart Greater = Unit {0}

left_total : IsTotalOrder order_of_left
left_total = subst IsTotalOrder (λ i left other. sym (by_parts_is left other) i) (then_total (on_total place nat_cmp_total) (on_total values_left row_total))

left_exact : CmpEqualImpliesEq order_of_left
left_exact None None e = refl
left_exact None (Some others) e = absurd (subst IsApart e tt)
left_exact (Some values) None e = absurd (subst IsApart e tt)
left_exact (Some values) (Some others) e = ap (λ (row : List Value). Some row) (row_exact values others e)

pub image_total : IsTotalOrder image_order
image_total = then_total (on_total (λ (image : Image). image.row) nat_cmp_total) (then_total (on_total (λ (image : Image). image.table) nat_cmp_total) (on_total (λ (image : Image). image.left) left_total))

both_equal : (o p : Ordering) → ordering_then o p ≡ Equal → (o ≡ Equal) × (p ≡ Equal)
both_equal Equal p e = (refl, e)
both_equal Less p e = absurd (subst IsApart e tt)
both_equal Greater p e = absurd (subst IsApart e tt)

pub image_exact : CmpEqualImpliesEq image_order
image_exact image other e =
    let first = both_equal (nat_cmp image.row other.row) (ordering_then (nat_cmp image.table other.table) (order_of_left image.left other.left)) e in
    let second = both_equal (nat_cmp image.table other.table) (order_of_left image.left other.left) first.1 in
    let row = exact_unsigned image.row other.row first.0 in
    let table = exact_unsigned image.table other.table second.0 in
    let left = left_exact image.left other.left second.1 in
    λ i. record { row = row i; table = table i; left = left i }
