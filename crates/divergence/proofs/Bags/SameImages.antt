-- Equal maps of images.
use Rattle.std.proofs.Common.{◌≡◌, ◌∙◌, ℕ, Bool, true, false, cond, eqb, List, [], ◌∷◌, ◌++◌, get_or, Option, None, Some, refl, sym, ap, subst}
use Rattle.std.specs.Prelude.{◌&&◌, ◌↔◌}
use Rattle.std.specs.Bool.{Decides}
use Rattle.std.specs.List.{list_all}
use Rattle.std.proofs.lemmas.Bool.{and_from, and_parts, eq-eqb, eqb-true}
use Rattle.std.proofs.lemmas.Bool.Decides.{same_from_decides}
use Rattle.std.proofs.lemmas.List.Folds.{list_all-append}
use Rattle.std.proofs.lemmas.List.Sums.{list_all-from_AllPass}
use Rattle.std.proofs.lemmas.Option.{none-some, same_Some}
use Rattle.desk_values.specs.declared.value.Value.{Value}
use Rattle.desk_values.specs.declared.value.Image.{Image}
use Rattle.desk_values.proofs.Words.{find_passes}
use Rattle.divergence.specs.Bags.Equality.{found, same_image, same_left, same_map}
use Rattle.divergence.specs.Bags.Laws.{AreSameMaps}
use Rattle.divergence.proofs.Bags.RowOrder.{row_decides}

pub left_decides : (left other : Option (List Value)) → Decides (same_left left other) (left ≡ other)
left_decides None None = (λ e. refl, λ e. refl)
left_decides (Some values) (Some others) = (λ e. ap Some ((row_decides values others).0 e), λ e. (row_decides values others).1 (same_Some values others e))
left_decides None (Some others) = (λ e. absurd (cc), λ e. absurd (cc))
left_decides (Some values) None = (λ e. absurd (cc), λ e. absurd (cc))

pub left_is : (left other : Option (List Value)) (same : Bool) → (same ≡ true) ↔ (left ≡ other) → same ≡ same_left left other
left_is left other same tells = same_from_decides same (same_left left other) tells (left_decides left other)

pub images_are : (image other : Image) (same : Bool) → image.table ≡ other.table → (same ≡ true) ↔ (image.left ≡ other.left) → same ≡ same_image (Some image) (Some other)
images_are image other same tables tells = left_is image.left other.left same tells ∙ ap (λ (b : Bool). b && same_left image.left other.left) (sym (eq-eqb image.table other.table tables))

-- of one row
abbrev IsOf : ℕ → Option Image → Type 0
IsOf row o = (image : Image) → o ≡ Some image → image.row ≡ row

found_is_of : (images : List Image) (row : ℕ) → IsOf row (found images row)
found_is_of images row image e = eqb-true image.row row (find_passes (λ (other : Image). eqb other.row row) images image e)

image_decides : (row : ℕ) (o p : Option Image) → IsOf row o → IsOf row p → Decides (same_image o p) (o ≡ p)
image_decides row None None here there = (λ e. refl, λ e. refl)
image_decides row (Some image) (Some other) here there = (
  λ e.
      let parts = and_parts (eqb image.table other.table) (same_left image.left other.left) e in
      let rows : image.row ≡ other.row = here image refl ∙ sym (there other refl) in
      let tables = eqb-true image.table other.table parts.0 in
      let lefts = (left_decides image.left other.left).0 parts.1 in
      λ i. Some (record { row = rows i; table = tables i; left = lefts i }),
  λ e.
      let same = same_Some image other e in
      and_from (eqb image.table other.table) (same_left image.left other.left) (eq-eqb image.table other.table (ap (λ (z : Image). z.table) same)) ((left_decides image.left other.left).1 (ap (λ (z : Image). z.left) same)),
)
image_decides row None (Some other) here there = (λ e. absurd (cc), λ e. absurd (cc))
image_decides row (Some image) None here there = (λ e. absurd (cc), λ e. absurd (cc))

-- what passes at each image passes at a row that is found
chosen_passes : (test : ℕ → Bool) (b : Bool) (first image : Image) (o : Option Image) (row : ℕ) → (b ≡ true → test row ≡ true) → (o ≡ Some image → test row ≡ true) → cond b (Some first) o ≡ Some image → test row ≡ true
chosen_passes test true first image o row here later e = here refl
chosen_passes test false first image o row here later e = later e

at_found : (test : ℕ → Bool) (images : List Image) (row : ℕ) (image : Image) → list_all (λ image. test image.row) images ≡ true → found images row ≡ Some image → test row ≡ true
at_found test [] row image all e = absurd (none-some image e)
at_found test (first ∷ images) row image all e =
    let parts = and_parts (test first.row) (list_all (λ (z : Image). test z.row) images) all in
    chosen_passes test (eqb first.row row) first image (found images row) row
    (λ is. subst (λ (n : ℕ). test n ≡ true) (eqb-true first.row row is) parts.0)
    (at_found test images row image parts.1) e

pub map_decides : (images others : List Image) → Decides (same_map images others) (AreSameMaps images others)
map_decides images others = (λ e row. on e row (found images row) (found others row) refl refl, λ same. list_all-from_AllPass (λ (image : Image). test image.row) (images ++ others) (λ k d h. (at (get_or (images ++ others) k d).row).1 (same (get_or (images ++ others) k d).row)))
  where
    test : ℕ → Bool
    test row = same_image (found images row) (found others row)

    at : (row : ℕ) → Decides (same_image (found images row) (found others row)) (found images row ≡ found others row)
    at row = image_decides row (found images row) (found others row) (found_is_of images row) (found_is_of others row)

    on : same_map images others ≡ true → (row : ℕ) (o p : Option Image) → found images row ≡ o → found others row ≡ p → found images row ≡ found others row
    on e row None None here there = here ∙ sym there
    on e row (Some image) p here there = (at row).0 (at_found test images row image (and_parts _ _ (sym (list_all-append (λ (image : Image). test image.row) images others) ∙ e)).0 here)
    on e row None (Some image) here there = (at row).0 (at_found test others row image (and_parts _ _ (sym (list_all-append (λ (image : Image). test image.row) images others) ∙ e)).1 there)
