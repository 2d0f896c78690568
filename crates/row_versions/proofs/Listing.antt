-- The rows at a number, listed by the rows that the map has.
use Rattle.std.proofs.Common.{◌≡◌, ◌∙◌, ◌≢◌, ℕ, ◌+◌, ◌<◌, ◌≤◌, Bool, true, false, cond, if◌then◌else◌, List, [], ◌∷◌, ◌++◌, Option, None, Some, refl, sym, ap, subst, arith}
use Rattle.std.specs.Prelude.{nat_eq}
use Rattle.std.specs.BTreeMap.{is_at}
use Rattle.std.specs.Map.{keys_of, lookup}
use Rattle.std.specs.List.{AllByRecursion}
use Rattle.std.specs.List.Sorted.{IsStrictlySortedBy}
use Rattle.std.specs.Option.{option_map}
use Rattle.std.specs.Ordering.{nat_cmp}
use Rattle.std.specs.declared.cmp.Ordering.TheVariants.{Less}
use Rattle.std.proofs.lemmas.Bool.{eq-eqb, ne_eqb}
use Rattle.std.proofs.lemmas.Map.Keys.{sorted_head, sorted_tail}
use Rattle.desk_values.specs.declared.value.Value.{Value}
use Rattle.desk_values.specs.declared.value.Image.{Image}
use Rattle.row_versions.specs.History.{AreRowsAt, RowsRise, Written, image_of, is_up_to, left_of, row_at}
use Rattle.row_versions.specs.Inside.Links.{all_left, listed}
use Rattle.row_versions.proofs.Chains.{is_at_nat, is_less}

-- what is read of a row is of it
row_is : (list : List Written) (row n : ℕ) (image : Image) → row_at list row n ≡ Some image → image.row ≡ row
row_is [] row n image at = absurd (grind (arith, at))
row_is (w ∷ list) row n image at = by (row_at list row n) refl (nat_eq w.image.row row) refl (is_up_to n w) refl (row_is list row n image)
  where
    by : (o : Option Image) → row_at list row n ≡ o → (r : Bool) → nat_eq w.image.row row ≡ r → (u : Bool) → is_up_to n w ≡ u → (row_at list row n ≡ Some image → image.row ≡ row) → image.row ≡ row
    by (Some x) e r f u g rest = rest (e ∙ grind (arith, at, e))
    by None e true f true g rest = let is : w.image ≡ image = grind (arith, at, e, f, g) in let same : w.image.row ≡ row = grind (arith, f) in ap (λ (i : Image). i.row) (sym is) ∙ same
    by None e true f false g rest = absurd (grind (arith, at, e, f, g))
    by None e false f u g rest = absurd (grind (arith, at, e, f))

left_is : (o : Option Image) (image : Image) → left_of o ≡ Some image → o ≡ Some image
left_is None image at = absurd (grind (arith, at))
left_is (Some x) image at = by x.left refl
  where
    by : (left : Option (List Value)) → x.left ≡ left → Some x ≡ Some image
    by None e = absurd (let none : left_of (Some x) ≡ None = ap (λ (o : Option (List Value)). option_map (λ _. x) o) e in grind (arith, at, none))
    by (Some values) e = sym (ap (λ (o : Option (List Value)). option_map (λ _. x) o) e) ∙ at

-- a row below all others is none of them
image_below : (row low : ℕ) (images : List Image) → RowsRise low images → row < low → image_of row images ≡ None
image_below row low [] up below = refl
image_below row low (x ∷ images) up below = ap (λ (b : Bool). if b then Some x else image_of row images) (ne_eqb x.row row (λ same. omega (arith, up.0))) ∙ image_below row (x.row + 1) images up.1 (omega (arith, up.0))

image_past : (row : ℕ) (x : Image) (images : List Image) → x.row ≢ row → image_of row (x ∷ images) ≡ image_of row images
image_past row x images apart = ap (λ (b : Bool). if b then Some x else image_of row images) (ne_eqb x.row row apart)

image_first : (row : ℕ) (x : Image) (images : List Image) → x.row ≡ row → image_of row (x ∷ images) ≡ Some x
image_first row x images same = ap (λ (b : Bool). if b then Some x else image_of row images) (eq-eqb x.row row same)

keys_above : (k : ℕ) (keys : List ℕ) → AllByRecursion (λ (y : ℕ). nat_cmp k y ≡ Less) keys → AllByRecursion (λ (y : ℕ). k + 1 ≤ y) keys
keys_above k [] all = tt
keys_above k (y ∷ keys) all = (let less = is_less k y all.0 in omega (arith, less), keys_above k keys all.1)

all_from_zero : (keys : List ℕ) → AllByRecursion (λ (k : ℕ). 0 ≤ k) keys
all_from_zero [] = tt
all_from_zero (k ∷ keys) = (omega arith, all_from_zero keys)

module _ (list : List Written) (n : ℕ) where
  abbrev left_at : ℕ → Option Image
  left_at row = left_of (row_at list row n)

  abbrev InOrder : List (ℕ × ℕ) → Type 0
  InOrder entries = IsStrictlySortedBy nat_cmp (keys_of entries)

  left_row : (row : ℕ) (image : Image) → left_at row ≡ Some image → image.row ≡ row
  left_row row image at = row_is list row n image (left_is (row_at list row n) image at)

  pub left_rise : (low : ℕ) (entries : List (ℕ × ℕ)) → InOrder entries → AllByRecursion (λ (k : ℕ). low ≤ k) (keys_of entries) → RowsRise low (all_left list n entries)
  left_rise low [] order all = tt
  left_rise low (e ∷ es) order all =
      let tail = sorted_tail nat_cmp e.0 (keys_of es) order in
      by (left_at e.0) refl (left_rise low es tail all.1) (left_rise (e.0 + 1) es tail (keys_above e.0 (keys_of es) (sorted_head nat_cmp e.0 (keys_of es) order)))
    where
      by : (o : Option Image) → left_at e.0 ≡ o → RowsRise low (all_left list n es) → RowsRise (e.0 + 1) (all_left list n es) → RowsRise low (listed o ++ all_left list n es)
      by None at same above = same
      by (Some image) at same above =
          let row = left_row e.0 image at in
          (omega (arith, all.0, row), subst (λ (r : ℕ). RowsRise (r + 1) (all_left list n es)) (sym row) above)

  -- what is found of a row that the map has
  abbrev found : ℕ → Option ℕ → Option Image
  found row None = None
  found row (Some place) = left_at row

  pub left_found : (row : ℕ) (entries : List (ℕ × ℕ)) → InOrder entries → image_of row (all_left list n entries) ≡ found row (lookup (is_at (nat_cmp row)) entries)
  left_found row [] order = refl
  left_found row (e ∷ es) order =
      let tail = sorted_tail nat_cmp e.0 (keys_of es) order in
      let above = left_rise (e.0 + 1) es tail (keys_above e.0 (keys_of es) (sorted_head nat_cmp e.0 (keys_of es) order)) in
      by (nat_eq row e.0) refl (left_at e.0) refl above (left_found row es tail)
    where
      by : (b : Bool) → nat_eq row e.0 ≡ b → (o : Option Image) → left_at e.0 ≡ o → RowsRise (e.0 + 1) (all_left list n es) → image_of row (all_left list n es) ≡ found row (lookup (is_at (nat_cmp row)) es)
          → image_of row (all_left list n (e ∷ es)) ≡ found row (lookup (is_at (nat_cmp row)) (e ∷ es))
      by true b None at above rest =
          let same : row ≡ e.0 = grind (arith, b) in
          ap (λ (o : Option Image). image_of row (listed o ++ all_left list n es)) at ∙ image_below row (e.0 + 1) (all_left list n es) above (omega (arith, same))
          ∙ sym (ap (λ (t : Bool). found row (cond t (Some e.1) (lookup (is_at (nat_cmp row)) es))) (is_at_nat row e.0 ∙ b) ∙ ap left_at same ∙ at)
      by true b (Some image) at above rest =
          let same : row ≡ e.0 = grind (arith, b) in
          ap (λ (o : Option Image). image_of row (listed o ++ all_left list n es)) at ∙ image_first row image (all_left list n es) (left_row e.0 image at ∙ sym same)
          ∙ sym (ap (λ (t : Bool). found row (cond t (Some e.1) (lookup (is_at (nat_cmp row)) es))) (is_at_nat row e.0 ∙ b) ∙ ap left_at same ∙ at)
      by false b None at above rest =
          ap (λ (o : Option Image). image_of row (listed o ++ all_left list n es)) at ∙ rest
          ∙ sym (ap (λ (t : Bool). found row (cond t (Some e.1) (lookup (is_at (nat_cmp row)) es))) (is_at_nat row e.0 ∙ b))
      by false b (Some image) at above rest =
          let apart : image.row ≢ row = λ same. (let number = left_row e.0 image at in let is : row ≡ e.0 = sym same ∙ number in grind (arith, b, is)) in
          ap (λ (o : Option Image). image_of row (listed o ++ all_left list n es)) at ∙ image_past row image (all_left list n es) apart ∙ rest
          ∙ sym (ap (λ (t : Bool). found row (cond t (Some e.1) (lookup (is_at (nat_cmp row)) es))) (is_at_nat row e.0 ∙ b))

  -- a row that the map does not have has no version
  pub rows_told : (entries : List (ℕ × ℕ)) → InOrder entries → ((row : ℕ) → lookup (is_at (nat_cmp row)) entries ≡ None → row_at list row n ≡ None) → AreRowsAt list n (all_left list n entries)
  rows_told entries order none = record {
    rise = left_rise 0 entries order (all_from_zero (keys_of entries));
    each = λ row. left_found row entries order ∙ by row (lookup (is_at (nat_cmp row)) entries) refl;
  }
    where
      by : (row : ℕ) (o : Option ℕ) → lookup (is_at (nat_cmp row)) entries ≡ o → found row o ≡ left_at row
      by row None is = sym (ap left_of (none row is))
      by row (Some place) is = refl
