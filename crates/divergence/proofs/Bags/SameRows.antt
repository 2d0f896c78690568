-- Equal bags of rows.
use Rattle.std.proofs.Common.{◌≡◌, Bool, true, false, List, sym, subst}
use Rattle.std.specs.Prelude.{◌↔◌}
use Rattle.std.specs.Bool.{Decides}
use Rattle.std.specs.List.Sorted.{IsPermutation}
use Rattle.std.specs.Ordering.{is_lt, ordering_reverse}
use Rattle.std.specs.declared.cmp.Ordering.{Ordering}
use Rattle.std.specs.declared.cmp.Ordering.TheVariants.{Less, Equal, Greater}
use Rattle.std.proofs.lemmas.Bool.Decides.{same_from_decides}
use Rattle.std.proofs.lemmas.List.MinMax.{ranks_by}
use Rattle.std.proofs.lemmas.List.Sorted.{IsPermutation-sym, IsPermutation-trans}
use Rattle.desk_values.specs.declared.value.Value.{Value}
use Rattle.desk_values.specs.Sorting.{AreAscending, value_by_value}
use Rattle.desk_values.proofs.ValueOrder.{row_total}
use Rattle.divergence.specs.Bags.Equality.{same_bag, same_row}
use Rattle.divergence.specs.Bags.Laws.{OneAscendingList}
use Rattle.divergence.proofs.Bags.RowOrder.{row_exact, row_decides}
use Rattle.divergence.proofs.Bags.Counts.{AreEven, even_decides, even_permuted, one_sorted, permuted_even}

neither : (o p : Ordering) → o ≡ ordering_reverse p → is_lt o ≡ false → is_lt p ≡ false → o ≡ Equal
neither Equal p e below above = cc
neither Less p e below above = absurd (cc)
neither Greater Less e below above = absurd (cc)
neither Greater Equal e below above = absurd (cc)
neither Greater Greater e below above = absurd (cc)

ascending_even : (rows others : List (List Value)) → AreEven same_row row_decides rows others → AreAscending rows → AreAscending others → rows ≡ others
ascending_even = one_sorted same_row row_decides (λ a b. is_lt (value_by_value a b)) (ranks_by row_total (λ row. row))
    (λ a b below above. row_exact a b (neither (value_by_value a b) (value_by_value b a) (row_total.antisymm a b) below above))

pub one_list : OneAscendingList
one_list rows one other moved turned up rise = ascending_even one other
    (permuted_even same_row row_decides one other (IsPermutation-trans one rows other (IsPermutation-sym rows one moved) turned)) up rise

-- the test of two bags
pub bag_decides : (rows others : List (List Value)) → Decides (same_bag rows others) (IsPermutation rows others)
bag_decides rows others =
    let even = even_decides same_row row_decides rows others in
    (λ e. even_permuted same_row row_decides rows others (even.0 e), λ moved. even.1 (permuted_even same_row row_decides rows others moved))

-- two bags are one where they are one list in ascending order
pub sorted_tell : (rows others sorted also : List (List Value)) → IsPermutation rows sorted → AreAscending sorted → IsPermutation others also → AreAscending also → (same_bag rows others ≡ true) ↔ (sorted ≡ also)
sorted_tell rows others sorted also moved up turned rise = (
  λ e. one_list rows sorted also moved (IsPermutation-trans rows others also ((bag_decides rows others).0 e) turned) up rise,
  λ one. (bag_decides rows others).1 (IsPermutation-trans rows sorted others moved (IsPermutation-sym others sorted (subst (IsPermutation others) (sym one) turned))),
)

-- a test of the two in ascending order is the test of the bags
pub sorted_is : (rows others sorted also : List (List Value)) → IsPermutation rows sorted → AreAscending sorted → IsPermutation others also → AreAscending also → (same : Bool) → (same ≡ true) ↔ (sorted ≡ also) → same ≡ same_bag rows others
sorted_is rows others sorted also moved up turned rise same tells = same_from_decides same (same_bag rows others) tells (sorted_tell rows others sorted also moved up turned rise)
