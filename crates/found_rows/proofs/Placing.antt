-- What goes to its place by the number of its row is placed among the rows.
use Rattle.std.proofs.Common.{◌≡◌, ℕ, ◌+◌, ◌<◌, Bool, true, false, List, [], ◌∷◌, ◌++◌, refl, sym, ap, ◌∙◌, cond, arith}
use Rattle.std.specs.BTreeMap.{insert_entry, is_at}
use Rattle.std.specs.List.{AllByRecursion}
use Rattle.std.specs.Map.{remove_entry}
use Rattle.std.specs.Ordering.{nat_cmp, match_ordering, is_eq}
use Rattle.std.specs.declared.cmp.Ordering.{Ordering}
use Rattle.std.specs.declared.cmp.Ordering.TheVariants.{Less, Equal, Greater}
use Rattle.std.proofs.lemmas.Cmp.{ranked}
use Rattle.std.proofs.lemmas.Bool.{lt-ltb, le-ltb, eq-eqb, ne_eqb}
use denote.Ref.{Bor}
use Rattle.desk_values.specs.declared.value.Image.{Image}
use Rattle.server_words.specs.Rows.{RisesFrom, is_there, lay, placed, shown}
use Rattle.found_rows.specs.Inside.ByRow.{AreKeyed, all_in}
use Rattle.server_words.proofs.Laying.{lay_last, rises_less}

-- ---- one row by another

module _ (c : Image) (x : Image) (rest : List Image) where
  placed_above : x.row < c.row → placed shown c (x ∷ rest) ≡ x ∷ placed shown c rest
  placed_above lt = rw (lt-ltb x.row c.row lt) refl

  placed_over : x.row ≡ c.row → placed shown c (x ∷ rest) ≡ shown c ++ rest
  placed_over same = rw (le-ltb x.row c.row (omega (arith, same)), eq-eqb x.row c.row same) refl

  placed_below : c.row < x.row → placed shown c (x ∷ rest) ≡ shown c ++ x ∷ rest
  placed_below lt = rw (le-ltb x.row c.row (omega arith), ne_eqb x.row c.row (λ e. omega arith)) refl

-- ---- an image that is there

module _ (b : Bor Image) where
  pub put_keyed : (es : List (ℕ × Bor Image)) → AreKeyed es → AreKeyed (insert_entry nat_cmp es b.now.row b)
  put_keyed [] keyed = (refl, tt)
  put_keyed (e ∷ es) keyed = by (nat_cmp b.now.row e.0) refl (put_keyed es keyed.1)
    where
      by : (o : Ordering) → nat_cmp b.now.row e.0 ≡ o → AreKeyed (insert_entry nat_cmp es b.now.row b) → AreKeyed (match_ordering o ((b.now.row, b) ∷ e ∷ es) ((e.0, b) ∷ es) (e ∷ insert_entry nat_cmp es b.now.row b))
      by Less is rest = (refl, keyed)
      by Equal is rest = (sym (ranked _ _ _ (sym is)), keyed.1)
      by Greater is rest = (keyed.0, rest)

  pub put_placed : (es : List (ℕ × Bor Image)) → AreKeyed es → is_there b.now ≡ true → all_in (insert_entry nat_cmp es b.now.row b) ≡ placed shown b.now (all_in es)
  put_placed [] keyed there = rw there refl
  put_placed (e ∷ es) keyed there = by (nat_cmp b.now.row e.0) refl (put_placed es keyed.1 there)
    where
      here : shown b.now ≡ b.now ∷ []
      here = rw there refl

      by : (o : Ordering) → nat_cmp b.now.row e.0 ≡ o → all_in (insert_entry nat_cmp es b.now.row b) ≡ placed shown b.now (all_in es) → all_in (match_ordering o ((b.now.row, b) ∷ e ∷ es) ((e.0, b) ∷ es) (e ∷ insert_entry nat_cmp es b.now.row b)) ≡ placed shown b.now (e.1.now ∷ all_in es)
      by Less is rest = let lt : b.now.row < e.0 = ranked _ _ _ (sym is) in sym (placed_below b.now e.1.now (all_in es) (omega (arith, lt, keyed.0)) ∙ ap (λ l. l ++ e.1.now ∷ all_in es) here)
      by Equal is rest = let same : b.now.row ≡ e.0 = ranked _ _ _ (sym is) in sym (placed_over b.now e.1.now (all_in es) (omega (arith, same, keyed.0)) ∙ ap (λ l. l ++ all_in es) here)
      by Greater is rest = let gt : e.0 < b.now.row = ranked _ _ _ (sym is) in ap (λ l. e.1.now ∷ l) rest ∙ sym (placed_above b.now e.1.now (all_in es) (omega (arith, gt, keyed.0)))

-- ---- a row that is gone

module _ (c : Image) where
  pub taken_keyed : (es : List (ℕ × Bor Image)) → AreKeyed es → AreKeyed (remove_entry (is_at (nat_cmp c.row)) es)
  taken_keyed [] keyed = tt
  taken_keyed (e ∷ es) keyed = by (is_at (nat_cmp c.row) e.0) (taken_keyed es keyed.1)
    where
      by : (b : Bool) → AreKeyed (remove_entry (is_at (nat_cmp c.row)) es) → AreKeyed (cond b es (e ∷ remove_entry (is_at (nat_cmp c.row)) es))
      by true rest = keyed.1
      by false rest = (keyed.0, rest)

  module _ (gone : is_there c ≡ false) where
    none : shown c ≡ []
    none = rw gone refl

    -- a row below all others is none of them
    placed_none : (xs : List Image) → RisesFrom (c.row + 1) xs → placed shown c xs ≡ xs
    placed_none [] up = none
    placed_none (x ∷ xs) up = placed_below c x xs (omega (arith, up.0)) ∙ ap (λ l. l ++ x ∷ xs) none

    pub taken_placed : (n : ℕ) (es : List (ℕ × Bor Image)) → AreKeyed es → RisesFrom n (all_in es) → all_in (remove_entry (is_at (nat_cmp c.row)) es) ≡ placed shown c (all_in es)
    taken_placed n [] keyed up = sym none
    taken_placed n (e ∷ es) keyed up = by (nat_cmp c.row e.0) refl (taken_placed (e.1.now.row + 1) es keyed.1 up.1)
      where
        by : (o : Ordering) → nat_cmp c.row e.0 ≡ o → all_in (remove_entry (is_at (nat_cmp c.row)) es) ≡ placed shown c (all_in es) → all_in (cond (is_eq o) es (e ∷ remove_entry (is_at (nat_cmp c.row)) es)) ≡ placed shown c (e.1.now ∷ all_in es)
        by Less is rest =
            let lt : c.row < e.0 = ranked _ _ _ (sym is) in
            ap (λ l. e.1.now ∷ l) (rest ∙ placed_none (all_in es) (rises_less _ _ (all_in es) (omega (arith, lt, keyed.0)) up.1))
            ∙ sym (placed_below c e.1.now (all_in es) (omega (arith, lt, keyed.0)) ∙ ap (λ l. l ++ e.1.now ∷ all_in es) none)
        by Equal is rest = let same : c.row ≡ e.0 = ranked _ _ _ (sym is) in sym (placed_over c e.1.now (all_in es) (omega (arith, same, keyed.0)) ∙ ap (λ l. l ++ all_in es) none)
        by Greater is rest = let gt : e.0 < c.row = ranked _ _ _ (sym is) in ap (λ l. e.1.now ∷ l) rest ∙ sym (placed_above c e.1.now (all_in es) (omega (arith, gt, keyed.0)))

-- ---- rows of a start

-- laid over none, they are as they were
pub lay_standing : (n : ℕ) (rows : List Image) → RisesFrom n rows → AllByRecursion (λ (image : Image). is_there image ≡ true) rows → lay [] rows ≡ rows
lay_standing n [] up there = refl
lay_standing n (x ∷ xs) up there = lay_last x xs n up ∙ ap (λ l. l ++ lay [] xs) (here x there.0) ∙ ap (λ l. x ∷ l) (lay_standing (x.row + 1) xs up.1 there.1)
  where
    here : (image : Image) → is_there image ≡ true → shown image ≡ image ∷ []
    here image is = rw is refl
