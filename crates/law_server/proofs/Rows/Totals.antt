-- Totals over renamed rows are the same.
use Rattle.std.proofs.Common.{◌≡◌, ℕ, List, [], ◌∷◌, Option, Result, Ok, refl, ap, ◌∙◌, sym}
use Rattle.std.proofs.lemmas.Slice.Zip.{AllZip-long}
use Rattle.std.specs.Prelude.{pos}
use Rattle.std.specs.List.{AllZip, cons_option, filter_map}
use Rattle.std.specs.Result.{result_ok}
use Rattle.desk_values.specs.declared.value.Value.{Value}
use Rattle.desk_values.specs.declared.value.Value.TheVariants.{Int}
use Rattle.desk_values.specs.declared.value.Image.{Image}
use Rattle.desk_values.specs.declared.fault.Fault.{Fault}
use Rattle.sql_tree.specs.Plain.{Term, Total}
use Rattle.sql_tree.specs.Plain as total
use Rattle.sql_eval.specs.declared.faults.Faults.{Faults}
use Rattle.sql_eval.specs.Faults.{any_fault, divides, overflows, told, unless_told}
use Rattle.sql_eval.specs.Totals.{extreme_of, members, number_in, part_in, sum_of, text_in, total_over}
use Rattle.sql_eval.proofs.TotalLaws.{total_ignores_order}
use Rattle.id_pairs.specs.Pairs.{IdPair}
use Rattle.id_pairs.specs.Renaming.{AreRenamed}
use Rattle.law_server.specs.Rows.Bags.{AreBags}
use Rattle.law_server.specs.Rows.Images.{IsRenamedImage}
use Rattle.law_server.proofs.Rows.Bags.{bags_any, zipped_any}
use Rattle.law_server.proofs.Rows.Expressions.{Twin, int, text, TwinPart, part, part_fault, image_values, value_twins}

pub number_twins : {pairs : List IdPair} {v w : Value} → Twin pairs v w → number_in v ≡ number_in w
number_twins (int n) = refl
number_twins t = refl

pub text_twins : {pairs : List IdPair} {v w : Value} → Twin pairs v w → text_in v ≡ text_in w
text_twins (text t) = refl
text_twins t = refl

pub divides_twins : {pairs : List IdPair} {r s : Result Value Fault} → TwinPart pairs r s → divides r ≡ divides s
divides_twins (part v w t) = refl
divides_twins (part_fault f) = refl

pub overflows_twins : {pairs : List IdPair} {r s : Result Value Fault} → TwinPart pairs r s → overflows r ≡ overflows s
overflows_twins (part v w t) = refl
overflows_twins (part_fault f) = refl

-- the faults of any of the items of a bag
pub bags_fault : {A B C D : Type 0} (R : A → B → Type 0) (f : A → Result C Fault) (g : B → Result D Fault) → ((x : A) (y : B) → R x y → divides (f x) ≡ divides (g y)) → ((x : A) (y : B) → R x y → overflows (f x) ≡ overflows (g y)) → {xs : List A} {ys : List B} → AreBags R xs ys → any_fault f xs ≡ any_fault g ys
unfolding any_fault
bags_fault R f g d o bags =
    let p = bags_any R (λ x. divides (f x)) (λ y. divides (g y)) d bags in
    let q = bags_any R (λ x. overflows (f x)) (λ y. overflows (g y)) o bags in
    λ k. record { divides = p k; overflows = q k }

module _ (pairs : List IdPair) (level : ℕ) (binds sent : List Value) (given : AreRenamed pairs binds sent) where
  pub part_twins : (e : Term ℕ) (image other : Image) → IsRenamedImage pairs image other → TwinPart pairs (part_in level binds e image) (part_in level sent e other)
  part_twins e image other twins = value_twins pairs level image.row other.row _ _ (image_values pairs image other twins) binds sent given e (λ _. twins.row)

  member : {X : Type 0} (choose : Value → Option X) → ((v w : Value) → Twin pairs v w → choose v ≡ choose w) → {r s : Result Value Fault} → TwinPart pairs r s → (vs ws : List Value) → filter_map choose vs ≡ filter_map choose ws → filter_map choose (cons_option (result_ok r) vs) ≡ filter_map choose (cons_option (result_ok s) ws)
  member choose same (part v w t) vs ws e = λ i. cons_option (same v w t i) (e i)
  member choose same (part_fault f) vs ws e = e

  module _ (e : Term ℕ) where
    -- what a total takes of its members
    taken : {X : Type 0} (choose : Value → Option X) → ((v w : Value) → Twin pairs v w → choose v ≡ choose w) → (rows others : List Image) → AllZip (IsRenamedImage pairs) rows others → filter_map choose (members (part_in level binds e) rows) ≡ filter_map choose (members (part_in level sent e) others)
    taken choose same [] [] z = refl
    taken choose same (x ∷ xs) (y ∷ ys) z = member choose same (part_twins e x y z.0) _ _ (taken choose same xs ys z.1)
    taken choose same [] (y ∷ ys) z = absurd z
    taken choose same (x ∷ xs) [] z = absurd z

    faults_zipped : (rows others : List Image) → AllZip (IsRenamedImage pairs) rows others → any_fault (part_in level binds e) rows ≡ any_fault (part_in level sent e) others
    unfolding any_fault
    faults_zipped rows others z =
        let p = zipped_any (IsRenamedImage pairs) (λ x. divides (part_in level binds e x)) (λ y. divides (part_in level sent e y)) (λ x y t. divides_twins (part_twins e x y t)) rows others z in
        let q = zipped_any (IsRenamedImage pairs) (λ x. overflows (part_in level binds e x)) (λ y. overflows (part_in level sent e y)) (λ x y t. overflows_twins (part_twins e x y t)) rows others z in
        λ k. record { divides = p k; overflows = q k }

    sums : (rows others : List Image) → AllZip (IsRenamedImage pairs) rows others → sum_of (members (part_in level binds e) rows) ≡ sum_of (members (part_in level sent e) others)
    unfolding sum_of
    sums rows others z = rw (taken number_in (λ _ _ t. number_twins t) rows others z) refl

    extremes : (extreme : _) (rows others : List Image) → AllZip (IsRenamedImage pairs) rows others → extreme_of level extreme (members (part_in level binds e) rows) ≡ extreme_of level extreme (members (part_in level sent e) others)
    unfolding extreme_of
    extremes extreme rows others z = rw (taken number_in (λ _ _ t. number_twins t) rows others z, taken text_in (λ _ _ t. text_twins t) rows others z) refl

  whole : {f g : Faults} {r s : Result Value Fault} → f ≡ g → r ≡ s → unless_told (told f) r ≡ unless_told (told g) s
  whole d e = λ i. unless_told (told (d i)) (e i)

  zipped_total : (t : Total ℕ) (rows others : List Image) → AllZip (IsRenamedImage pairs) rows others → total_over level binds t rows ≡ total_over level sent t others
  zipped_total total.count rows others z = ap (λ n. Ok (Int (pos n))) (sym (AllZip-long (IsRenamedImage pairs) rows others z))
  zipped_total (total.total e) rows others z = whole (faults_zipped e rows others z) (sums e rows others z)
  zipped_total (total.least e) rows others z = whole (faults_zipped e rows others z) (ap Ok (extremes e _ rows others z))
  zipped_total (total.greatest e) rows others z = whole (faults_zipped e rows others z) (ap Ok (extremes e _ rows others z))

  pub same_total : (t : Total ℕ) (rows others : List Image) → AreBags (IsRenamedImage pairs) rows others → total_over level binds t rows ≡ total_over level sent t others
  same_total t rows others bags = zipped_total t rows bags.turned bags.related ∙ total_ignores_order level sent t bags.turned others bags.moved
