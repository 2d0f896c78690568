-- Whether a row stands among rising images.
use Rattle.std.proofs.Common.{◌≡◌, ◌≢◌, ℕ, zero, suc, ◌<◌, ◌≤◌, true, false, List, [], ◌∷◌, length, get_or, inl, inr, refl, sym, ap, arith}
use Rattle.std.specs.Prelude.{nat_eq}
use Rattle.std.specs.List.{list_any}
use Rattle.std.specs.List.Sorted.{IsNonDecreasingBy, IsPartitionPoint}
use Rattle.std.specs.Ordering.{nat_cmp, ordering_index}
use Rattle.std.specs.declared.cmp.Ordering.TheVariants.{Less, Equal, Greater}
use Rattle.std.proofs.Math.Bool.{or-true}
use Rattle.std.proofs.lemmas.Bool.Decides.{nat_tests}
use Rattle.std.proofs.lemmas.Cmp.{ranked}
use Rattle.std.proofs.lemmas.Bool.{cases_lt}
use Rattle.desk_values.specs.declared.value.Image.{Image}
use Rattle.server_words.specs.Rows.{IsRising}
use denote.Ref.{Bor}
use Rattle.std.proofs.Math.ListN.{get_or-map}
use Rattle.std.proofs.lemmas.List.{length-map}
use Rattle.sql_eval.specs.Totals.{looked_at}
use Rattle.server_words.proofs.Laying.{comparisons_rise, no_image, rises_along}

module _ (row : ℕ) where
  stands : (xs : List Image) (at : ℕ) (d : Image) → at < length xs → (get_or xs at d).row ≡ row → list_any (λ (image : Image). nat_eq image.row row) xs ≡ true
  stands [] at d within same = absurd (omega arith)
  stands (x ∷ xs) zero d within same = grind (arith, nat_tests)
  stands (x ∷ xs) (suc at) d within same = rw (stands xs at d (omega arith) same) (or-true (nat_eq x.row row))

  stands_nowhere : (xs : List Image) → ((k : ℕ) (d : Image) → k < length xs → (get_or xs k d).row ≢ row) → list_any (λ (image : Image). nat_eq image.row row) xs ≡ false
  stands_nowhere [] other = refl
  stands_nowhere (x ∷ xs) other =
      let here : x.row ≢ row = other zero x (omega arith) in
      let rest : list_any (λ (image : Image). nat_eq image.row row) xs ≡ false = stands_nowhere xs (λ k d within. other (suc k) d (omega arith)) in
      grind (arith, nat_tests)

  -- what a binary search answers
  pub found_stands : (xs : List Image) (at : ℕ) → at < length xs → ((d : Image) → nat_cmp (get_or xs at d).row row ≡ Equal) → true ≡ list_any (λ (image : Image). nat_eq image.row row) xs
  found_stands xs at within equal = sym (stands xs at no_image within (ranked _ row _ (sym (equal no_image))))

  pub gap_stands_nowhere : (xs : List Image) → IsRising xs → (at : ℕ) → at ≤ length xs → (IsNonDecreasingBy (λ (image : Image). ordering_index (nat_cmp image.row row)) xs → IsPartitionPoint (λ (image : Image). nat_cmp image.row row ≡ Less) (λ (image : Image). nat_cmp image.row row ≡ Greater) xs at) → false ≡ list_any (λ (image : Image). nat_eq image.row row) xs
  gap_stands_nowhere xs up at within parted =
      let point = parted (comparisons_rise row xs up) in
      sym (stands_nowhere xs (λ k d below.
      elim (cases_lt k at) [
        | inl lt ↦ let under : (get_or xs k d).row < row = ranked _ row _ (sym (point.0 k d (omega arith) lt)) in λ same. omega arith
        | inr le ↦ let above : row < (get_or xs k d).row = ranked _ row _ (sym (point.1 k d le below)) in λ same. omega arith
      ]))

-- ---- the same of rows that are looked at

module _ (row : ℕ) where
  look_stands : (seen : List (Bor Image)) (at : ℕ) → at < length seen → ((d : Bor Image) → (get_or seen at d).now.row ≡ row) → list_any (λ (image : Image). nat_eq image.row row) (looked_at seen) ≡ true
  look_stands [] at within same = absurd (omega arith)
  look_stands (x ∷ seen) zero within same = let here : x.now.row ≡ row = same x in grind (arith, nat_tests)
  look_stands (x ∷ seen) (suc at) within same = rw (look_stands seen at (omega arith) same) (or-true (nat_eq x.now.row row))

  look_nowhere : (seen : List (Bor Image)) → ((k : ℕ) (d : Bor Image) → k < length seen → (get_or seen k d).now.row ≢ row) → list_any (λ (image : Image). nat_eq image.row row) (looked_at seen) ≡ false
  look_nowhere [] other = refl
  look_nowhere (x ∷ seen) other =
      let here : x.now.row ≢ row = other zero x (omega arith) in
      let rest : list_any (λ (image : Image). nat_eq image.row row) (looked_at seen) ≡ false = look_nowhere seen (λ k d within. other (suc k) d (omega arith)) in
      grind (arith, nat_tests)

  look_rises : (seen : List (Bor Image)) → IsRising (looked_at seen) → IsNonDecreasingBy (λ (b : Bor Image). ordering_index (nat_cmp b.now.row row)) seen
  look_rises seen up i j d le within =
      let now : Bor Image → Image = λ b. b.now in
      let long : length (looked_at seen) ≡ length seen = length-map seen now in
      let le_rows : (get_or (looked_at seen) i d.now).row ≤ (get_or (looked_at seen) j d.now).row = rises_along 0 (looked_at seen) up i j d.now le (omega arith) in
      let first : (get_or (looked_at seen) i d.now).row ≡ (get_or seen i d).now.row = ap (λ (x : Image). x.row) (get_or-map now seen i d) in
      let second : (get_or (looked_at seen) j d.now).row ≡ (get_or seen j d).now.row = ap (λ (x : Image). x.row) (get_or-map now seen j d) in
      let below : (get_or seen i d).now.row ≤ (get_or seen j d).now.row = omega arith in
      grind (arith, nat_tests)

  pub found_looked : (seen : List (Bor Image)) (at : ℕ) → at < length seen → ((d : Bor Image) → nat_cmp (get_or seen at d).now.row row ≡ Equal) → true ≡ list_any (λ (image : Image). nat_eq image.row row) (looked_at seen)
  found_looked seen at within equal = sym (look_stands seen at within (λ d. ranked _ row _ (sym (equal d))))

  pub gap_looked : (seen : List (Bor Image)) → IsRising (looked_at seen) → (at : ℕ) → at ≤ length seen → (IsNonDecreasingBy (λ (b : Bor Image). ordering_index (nat_cmp b.now.row row)) seen → IsPartitionPoint (λ (b : Bor Image). nat_cmp b.now.row row ≡ Less) (λ (b : Bor Image). nat_cmp b.now.row row ≡ Greater) seen at) → false ≡ list_any (λ (image : Image). nat_eq image.row row) (looked_at seen)
  gap_looked seen up at within parted =
      let point = parted (look_rises seen up) in
      sym (look_nowhere seen (λ k d below.
      elim (cases_lt k at) [
        | inl lt ↦ let under : (get_or seen k d).now.row < row = ranked _ row _ (sym (point.0 k d (omega arith) lt)) in λ same. omega arith
        | inr le ↦ let above : row < (get_or seen k d).now.row = ranked _ row _ (sym (point.1 k d le below)) in λ same. omega arith
      ]))
