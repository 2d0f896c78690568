-- Where the class is Same.
use Rattle.std.proofs.Common.{◌≡◌, ◌∙◌, ℕ, Bool, true, false, cond, eqb, not, List, ◌++◌, length, Option, None, Some, refl, sym, ap, subst}
use Rattle.std.specs.Prelude.{◌↔◌}
use Rattle.std.specs.Bool.{Decides}
use Rattle.std.specs.List.{find}
use Rattle.std.specs.List.Sorted.{IsPermutation}
use Rattle.std.specs.Option.{unwrap_or}
use Rattle.std.proofs.lemmas.Bool.{eq-eqb, eqb-true}
use Rattle.std.proofs.lemmas.Option.{same_Some}
use Rattle.std.proofs.lemmas.List.Sorted.{length_permutation}
use Rattle.desk_values.specs.declared.value.Value.{Value}
use Rattle.desk_values.specs.declared.value.Image.{Image}
use Rattle.desk_values.specs.declared.fault.Fault.{Fault}
use Rattle.desk_values.specs.declared.call.Outcome.{Outcome}
use Rattle.desk_values.specs.declared.call.Outcome.TheVariants.{Rows, Count, Committed, RolledBack, Marked, Connected, Disconnected, Refused}
use Rattle.desk_values.specs.Fault.{fault_number, fault_numbered}
use Rattle.desk_values.proofs.Faults.{numbered_again}
use Rattle.id_pairs.specs.Pairs.{IdPair}
use Rattle.replay_history.specs.declared.report.Class.{Class}
use Rattle.replay_history.specs.declared.report.Class.TheVariants.{Same, MutatedError, RowsModified, RowsFetched, RowContents, Images}
use Rattle.id_pairs.specs.Carrying.Carried.{carried_images, carried_row, carried_rows}
use Rattle.divergence.specs.Class.{equal_carried, fits, lines}
use Rattle.divergence.specs.Bags.Equality.{same_bag, same_map}
use Rattle.divergence.specs.Bags.Laws.{AreSameMaps}
use Rattle.divergence.specs.Laws.{IsSameOutcome, LongerMapsKeepSame, SameWhereEqual, rows, count, committed, rolled_back, marked, connected, disconnected, refused}
use Rattle.id_pairs.proofs.Carrying.Carrying.{each_length, images_longer, rows_longer}
use Rattle.divergence.proofs.Bags.SameImages.{map_decides}
use Rattle.divergence.proofs.Bags.SameRows.{bag_decides}

one_fault : (fault other : Fault) → fault_number fault ≡ fault_number other → fault ≡ other
unfolding fault_numbered
one_fault fault other e = same_Some fault other (sym (numbered_again fault) ∙ ap fault_numbered e ∙ numbered_again other)

abbrev class_at : List IdPair → Outcome → Outcome → Class
class_at pairs captured replayed = unwrap_or (find (fits pairs captured replayed) lines) Same

module _ (pairs : List IdPair) where
  -- ---- what the tests of lists tell

  carried_equal : {A : Type 0} {R : A → A → Type 0} (same : A → A → Bool) → ((x y : A) → Decides (same x y) (R x y)) → (o : Option A) (other : A) → equal_carried same o other ≡ true → (carried : A) × (o ≡ Some carried) × R carried other
  carried_equal same decides None other e = absurd (cc)
  carried_equal same decides (Some carried) other e = (carried, refl, (decides carried other).0 e)

  -- ---- where one line is left, or two

  one_left : (other : Class) → (other ≡ Same → ⊥) → (b : Bool) → (unwrap_or (cond (not b) (Some other) None) Same ≡ Same) ↔ (b ≡ true)
  one_left other apart true = (λ e. refl, λ e. refl)
  one_left other apart false = (λ e. absurd (apart e), λ e. absurd (cc))

  two_left : (b c : Bool) → (unwrap_or (cond (not b) (Some RowsFetched) (cond (not c) (Some RowContents) None)) Same ≡ Same) ↔ ((b ≡ true) × (c ≡ true))
  two_left true true = (λ e. (refl, refl), λ e. refl)
  two_left true false = (λ e. absurd (cc), λ e. absurd (cc))
  two_left false c = (λ e. absurd (cc), λ e. let f = e.0 in absurd (cc))

  same_fault : (fault other : Fault) → (class_at pairs (Refused fault) (Refused other) ≡ Same) ↔ (eqb (fault_number fault) (fault_number other) ≡ true)
  same_fault fault other = one_left MutatedError (λ e. cc) (eqb (fault_number fault) (fault_number other))

  same_count : (n other : ℕ) → (class_at pairs (Count n) (Count other) ≡ Same) ↔ (eqb n other ≡ true)
  same_count n other = one_left RowsModified (λ e. cc) (eqb n other)

  same_rows : (found others : List (List Value)) → (class_at pairs (Rows found) (Rows others) ≡ Same) ↔ ((eqb (length found) (length others) ≡ true) × (equal_carried same_bag (carried_rows pairs found) others ≡ true))
  same_rows found others = two_left (eqb (length found) (length others)) (equal_carried same_bag (carried_rows pairs found) others)

  same_images : (images others : List Image) → (class_at pairs (Committed images) (Committed others) ≡ Same) ↔ (equal_carried same_map (carried_images pairs images) others ≡ true)
  same_images images others = one_left Images (λ e. cc) (equal_carried same_map (carried_images pairs images) others)

  -- ---- both ways

  equal_where_same : (captured replayed : Outcome) → class_at pairs captured replayed ≡ Same → IsSameOutcome pairs captured replayed
  equal_where_same (Rows found) (Rows others) e = let t = carried_equal same_bag bag_decides (carried_rows pairs found) others ((same_rows found others).0 e).1 in rows found t.0 others t.1 t.2
  equal_where_same (Count n) (Count other) e = subst (λ (m : ℕ). IsSameOutcome pairs (Count n) (Count m)) (eqb-true n other ((same_count n other).0 e)) (count n)
  equal_where_same (Committed images) (Committed others) e = let t = carried_equal same_map map_decides (carried_images pairs images) others ((same_images images others).0 e) in committed images t.0 others t.1 t.2
  equal_where_same RolledBack RolledBack e = rolled_back
  equal_where_same Marked Marked e = marked
  equal_where_same Connected Connected e = connected
  equal_where_same Disconnected Disconnected e = disconnected
  equal_where_same (Refused fault) (Refused other) e = subst (λ (z : Fault). IsSameOutcome pairs (Refused fault) (Refused z)) (one_fault fault other (eqb-true _ _ ((same_fault fault other).0 e))) (refused fault)
  equal_where_same captured replayed e = absurd (cc)

  same_where_equal : {captured replayed : Outcome} → IsSameOutcome pairs captured replayed → class_at pairs captured replayed ≡ Same
  same_where_equal (rows found carried others e moved) = (same_rows found others).1 (
    eq-eqb _ _ (each_length (carried_row pairs) found carried e ∙ sym (length_permutation carried others moved)),
    ap (λ (o : Option (List (List Value))). equal_carried same_bag o others) e ∙ (bag_decides carried others).1 moved,
  )
  same_where_equal (count n) = (same_count n n).1 (eq-eqb n n refl)
  same_where_equal (committed images carried others e same) = (same_images images others).1 (ap (λ (o : Option (List Image)). equal_carried same_map o others) e ∙ (map_decides carried others).1 same)
  same_where_equal rolled_back = refl
  same_where_equal marked = refl
  same_where_equal connected = refl
  same_where_equal disconnected = refl
  same_where_equal (refused fault) = (same_fault fault fault).1 (eq-eqb _ _ refl)

pub same_is_equal : SameWhereEqual
same_is_equal pairs captured replayed = (equal_where_same pairs captured.outcome replayed.outcome, λ same. same_where_equal pairs same)

-- ---- a longer map

outcome_longer : (pairs more : List IdPair) {captured replayed : Outcome} → IsSameOutcome pairs captured replayed → IsSameOutcome (pairs ++ more) captured replayed
outcome_longer pairs more (rows found carried others e moved) = rows found carried others (rows_longer pairs more found carried e) moved
outcome_longer pairs more (count n) = count n
outcome_longer pairs more (committed images carried others e same) = committed images carried others (images_longer pairs more images carried e) same
outcome_longer pairs more rolled_back = rolled_back
outcome_longer pairs more marked = marked
outcome_longer pairs more connected = connected
outcome_longer pairs more disconnected = disconnected
outcome_longer pairs more (refused fault) = refused fault

pub longer_keep : LongerMapsKeepSame
longer_keep pairs more captured replayed e = same_where_equal (pairs ++ more) (outcome_longer pairs more (equal_where_same pairs captured.outcome replayed.outcome e))
