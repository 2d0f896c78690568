-- The rows of one table: changes are laid over them as over all rows, where a number is of one table.
use Rattle.std.proofs.Common.{◌≡◌, ◌∙◌, ◌<◌, ℕ, ◌+◌, true, false, List, [], ◌∷◌, ◌++◌, map, refl, sym, ap, subst, inl, inr, arith, if◌then◌else◌}
use Rattle.std.specs.Prelude.{nat_eq}
use Rattle.std.proofs.lemmas.Bool.{cases_eq, cases_lt, eq-eqb, le-ltb, lt-ltb, ne_eqb}
use Rattle.std.proofs.lemmas.List.{append-nil}
use Rattle.std.proofs.lemmas.List.Elements.{filter-append}
use Rattle.desk_values.specs.declared.value.Image.{Image}
use Rattle.server_words.specs.Rows.{IsRising, RisesFrom, is_there, lay, lay_all, of_table, placed, shown}
use Rattle.server_words.proofs.Laying.{rising_lay, rising_shown}
use Rattle.server_words.proofs.Looks.{filtered_from}
use Rattle.server_words.proofs.Noting.{of_other, of_same}
use Rattle.law_keys.proofs.Members.{In}
use Rattle.law_keys.proofs.Rows.{in_laid, in_placed, in_shown}

module _ (table : ℕ) (P : Image → Type 0) (one_table : (x y : Image) → P x → P y → x.row ≡ y.row → x.table ≡ y.table) where
  abbrev Each : List Image → Type 0
  Each xs = (x : Image) → In x xs → P x

  shown_same : (c : Image) → c.table ≡ table → of_table table (shown c) ≡ shown c
  shown_same c is = elim (is_there c) as (λ b. of_table table (if b then c ∷ [] else []) ≡ (if b then c ∷ [] else [])) [ true ↦ of_same table c [] is | false ↦ refl ]

  shown_other : (c : Image) → (c.table ≡ table → ⊥) → of_table table (shown c) ≡ []
  shown_other c other = elim (is_there c) as (λ b. of_table table (if b then c ∷ [] else []) ≡ []) [ true ↦ of_other table c [] other | false ↦ refl ]

  -- what stands above the change
  placed_above : (c : Image) (ys : List Image) (n : ℕ) → RisesFrom n ys → c.row < n → placed shown c (of_table table ys) ≡ shown c ++ of_table table ys
  placed_above c ys n up lt = front (of_table table ys) (filtered_from (λ (image : Image). nat_eq image.table table) n ys up) where
    front : (zs : List Image) → RisesFrom n zs → placed shown c zs ≡ shown c ++ zs
    front [] above = sym (append-nil (shown c))
    front (z ∷ zs) above = rw (le-ltb z.row c.row (omega (arith, above.0, lt)), ne_eqb z.row c.row (λ e. omega (arith, above.0, lt, e))) refl

  placed_same : (n : ℕ) (c : Image) (xs : List Image) → RisesFrom n xs → Each xs → P c → c.table ≡ table → of_table table (placed shown c xs) ≡ placed shown c (of_table table xs)
  placed_same n c [] up each pc is = shown_same c is
  placed_same n c (x ∷ xs) up each pc is = elim (cases_lt x.row c.row) [
    | inl below ↦ (
        let rest = placed_same (x.row + 1) c xs up.1 (λ y there. each y (inr there)) pc is in
        rw (lt-ltb x.row c.row below) (elim (nat_eq x.table table) as (λ b. (if b then x ∷ of_table table (placed shown c xs) else of_table table (placed shown c xs)) ≡ placed shown c (if b then x ∷ of_table table xs else of_table table xs)) [
          | true ↦ rw (lt-ltb x.row c.row below) (ap (λ l. x ∷ l) rest)
          | false ↦ rest
        ]))
    | inr above ↦ (elim (cases_eq x.row c.row) [
      | inl same ↦ (
          let there : x.table ≡ table = one_table x c (each x (inl refl)) pc same ∙ is in
          rw (le-ltb x.row c.row above, eq-eqb x.row c.row same) (filter-append (λ (image : Image). nat_eq image.table table) (shown c) xs ∙ ap (λ l. l ++ of_table table xs) (shown_same c is) ∙ sym (rw (of_same table x xs there, le-ltb x.row c.row above, eq-eqb x.row c.row same) refl)))
      | inr apart ↦ (
          rw (le-ltb x.row c.row above, ne_eqb x.row c.row apart) (filter-append (λ (image : Image). nat_eq image.table table) (shown c) (x ∷ xs) ∙ ap (λ l. l ++ of_table table (x ∷ xs)) (shown_same c is) ∙ sym (placed_above c (x ∷ xs) x.row (omega arith, up.1) (omega (arith, above, apart)))))
    ])
  ]

  placed_other : (n : ℕ) (c : Image) (xs : List Image) → RisesFrom n xs → Each xs → P c → (c.table ≡ table → ⊥) → of_table table (placed shown c xs) ≡ of_table table xs
  placed_other n c [] up each pc other = shown_other c other
  placed_other n c (x ∷ xs) up each pc other = elim (cases_lt x.row c.row) [
    | inl below ↦ (
        let rest = placed_other (x.row + 1) c xs up.1 (λ y there. each y (inr there)) pc other in
        rw (lt-ltb x.row c.row below) (elim (nat_eq x.table table) as (λ b. (if b then x ∷ of_table table (placed shown c xs) else of_table table (placed shown c xs)) ≡ (if b then x ∷ of_table table xs else of_table table xs)) [
          | true ↦ ap (λ l. x ∷ l) rest
          | false ↦ rest
        ]))
    | inr above ↦ (elim (cases_eq x.row c.row) [
      | inl same ↦ (
          let apart : x.table ≡ table → ⊥ = λ is. other (sym (one_table x c (each x (inl refl)) pc same) ∙ is) in
          rw (le-ltb x.row c.row above, eq-eqb x.row c.row same) (filter-append (λ (image : Image). nat_eq image.table table) (shown c) xs ∙ ap (λ l. l ++ of_table table xs) (shown_other c other) ∙ sym (of_other table x xs apart)))
      | inr apart ↦ (
          rw (le-ltb x.row c.row above, ne_eqb x.row c.row apart) (filter-append (λ (image : Image). nat_eq image.table table) (shown c) (x ∷ xs) ∙ ap (λ l. l ++ of_table table (x ∷ xs)) (shown_other c other)))
    ])
  ]

  each_placed : (c : Image) (xs : List Image) → IsRising xs → Each xs → P c → Each (placed shown c xs)
  each_placed c xs up each pc x there = elim (in_placed shown c 0 x xs up there) [
    | inl new ↦ subst P (sym (in_shown x c new).0) pc
    | inr old ↦ each x old.0
  ]

  each_laid : (xs changes : List Image) → IsRising xs → Each xs → Each changes → Each (lay xs changes)
  each_laid xs changes up each also x there = elim (in_laid x xs changes up there) [ inl new ↦ also x new.0 | inr old ↦ each x old.0 ]

  pub laid_of : (xs changes : List Image) → IsRising xs → Each xs → Each changes → of_table table (lay xs changes) ≡ lay (of_table table xs) (of_table table changes)
  laid_of xs [] up each also = refl
  laid_of xs (c ∷ changes) up each also =
      let pc : P c = also c (inl refl) in
      let rest = laid_of (placed shown c xs) changes (rising_shown c xs up) (each_placed c xs up each pc) (λ x there. also x (inr there)) in
      elim (cases_eq c.table table) [
        | inl is ↦ rest ∙ ap (λ l. lay l (of_table table changes)) (placed_same 0 c xs up each pc is) ∙ ap (lay (of_table table xs)) (sym (of_same table c changes is))
        | inr other ↦ rest ∙ ap (λ l. lay l (of_table table changes)) (placed_other 0 c xs up each pc other) ∙ ap (lay (of_table table xs)) (sym (of_other table c changes other))
      ]

  pub all_laid_of : (xs : List Image) (commits : List (List Image)) → IsRising xs → Each xs → ((c : List Image) → In c commits → Each c) → of_table table (lay_all xs commits) ≡ lay_all (of_table table xs) (map (of_table table) commits)
  all_laid_of xs [] up each also = refl
  all_laid_of xs (c ∷ commits) up each also =
      let first = also c (inl refl) in
      all_laid_of (lay xs c) commits (rising_lay xs c up) (each_laid xs c up each first) (λ d there. also d (inr there))
      ∙ ap (λ l. lay_all l (map (of_table table) commits)) (laid_of xs c up each first)
