-- What is found in renamed rows: which match, and which faults they have.
use Rattle.std.proofs.Common.{◌≡◌, ℕ, List, [], ◌∷◌, Option, None, Some, Result, refl, ap}
use Rattle.std.specs.List.{list_any}
use Rattle.desk_values.specs.declared.value.Value.{Value}
use Rattle.desk_values.specs.declared.value.Image.{Image}
use Rattle.desk_values.specs.declared.fault.Fault.{Fault}
use Rattle.sql_tree.specs.Plain.{Term}
use Rattle.sql_eval.specs.declared.faults.Faults.{Faults}
use Rattle.sql_eval.specs.Faults.{any_fault, divides, overflows}
use Rattle.sql_eval.specs.Totals.{values_in}
use Rattle.server_words.specs.Found.{Environment, faults_over, is_true, matches, matching, row_faults, sound, truth_in, value_in, values_for, where_faults}
use Rattle.id_pairs.specs.Pairs.{HasNoIdTwice, IdPair}
use Rattle.id_pairs.specs.Renaming.{AreRenamed}
use Rattle.law_server.specs.Rows.Bags.{AreBags}
use Rattle.law_server.specs.Rows.Images.{IsRenamedImage}
use Rattle.law_server.proofs.Rows.Bags.{bags_any, bags_filter}
use Rattle.law_server.proofs.Rows.Expressions.{Twin, null, TwinPart, part, part_fault, image_values, renamed_of, truth_twins}
use Rattle.law_server.proofs.Rows.Totals.{bags_fault, divides_twins, overflows_twins, part_twins}

-- the same faults of the same items
same_fault : {A : Type 0} (f g : A → Result Value Fault) → ((x : A) → divides (f x) ≡ divides (g x)) → ((x : A) → overflows (f x) ≡ overflows (g x)) → (xs : List A) → any_fault f xs ≡ any_fault g xs
unfolding any_fault
same_fault f g d o xs = λ i. record { divides = list_any (λ x. d x i) xs; overflows = list_any (λ x. o x i) xs }

bags_faults : {A B : Type 0} (R : A → B → Type 0) (f : A → Faults) (g : B → Faults) → ((x : A) (y : B) → R x y → f x ≡ g y) → {xs : List A} {ys : List B} → AreBags R xs ys → faults_over f xs ≡ faults_over g ys
unfolding faults_over
bags_faults R f g same bags =
    let p = bags_any R (λ x. (f x).divides) (λ y. (g y).divides) (λ x y t. ap (λ (k : Faults). k.divides) (same x y t)) bags in
    let q = bags_any R (λ x. (f x).overflows) (λ y. (g y).overflows) (λ x y t. ap (λ (k : Faults). k.overflows) (same x y t)) bags in
    λ k. record { divides = p k; overflows = q k }

pub sound_twin : {pairs : List IdPair} {r s : Result Value Fault} → TwinPart pairs r s → Twin pairs (sound r) (sound s)
sound_twin (part v w t) = t
sound_twin (part_fault f) = null

module _ (pairs : List IdPair) (once : HasNoIdTwice pairs) (level : ℕ) (binds sent : List Value) (given : AreRenamed pairs binds sent) where
  abbrev pub first_env : Environment
  first_env = record { level = level; binds = binds }

  abbrev pub second_env : Environment
  second_env = record { level = level; binds = sent }

  same_truth : (e : Term ℕ) (image other : Image) → IsRenamedImage pairs image other → truth_in first_env e image ≡ truth_in second_env e other
  same_truth e image other t = truth_twins pairs level image.row other.row (values_in image) (values_in other) (image_values pairs image other t) binds sent given once e (λ _. t.row)

  pub same_match : (condition : Option (Term ℕ)) (image other : Image) → IsRenamedImage pairs image other → matches first_env condition image ≡ matches second_env condition other
  same_match None image other t = refl
  same_match (Some e) image other t = ap is_true (same_truth e image other t)

  pub found_bags : (condition : Option (Term ℕ)) {rows others : List Image} → AreBags (IsRenamedImage pairs) rows others → AreBags (IsRenamedImage pairs) (matching first_env condition rows) (matching second_env condition others)
  found_bags condition bags = bags_filter (IsRenamedImage pairs) (matches first_env condition) (matches second_env condition) (same_match condition) bags

  pub same_where : (condition : Option (Term ℕ)) {rows others : List Image} → AreBags (IsRenamedImage pairs) rows others → where_faults first_env condition rows ≡ where_faults second_env condition others
  same_where None bags = refl
  same_where (Some e) bags = bags_fault (IsRenamedImage pairs) (truth_in first_env e) (truth_in second_env e) (λ x y t. ap divides (same_truth e x y t)) (λ x y t. ap overflows (same_truth e x y t)) bags

  pub same_row_faults : (es : List (Term ℕ)) {rows others : List Image} → AreBags (IsRenamedImage pairs) rows others → row_faults first_env es rows ≡ row_faults second_env es others
  same_row_faults es bags = bags_faults (IsRenamedImage pairs) (λ image. any_fault (value_in first_env image) es) (λ image. any_fault (value_in second_env image) es)
      (λ x y t. same_fault (value_in first_env x) (value_in second_env y) (λ e. divides_twins (part_twins pairs level binds sent given e x y t)) (λ e. overflows_twins (part_twins pairs level binds sent given e x y t)) es) bags

  pub renamed_items : (es : List (Term ℕ)) (image other : Image) → IsRenamedImage pairs image other → AreRenamed pairs (values_for first_env es image) (values_for second_env es other)
  renamed_items [] image other t = tt
  renamed_items (e ∷ es) image other t = (renamed_of (sound_twin (part_twins pairs level binds sent given e image other t)), renamed_items es image other t)
