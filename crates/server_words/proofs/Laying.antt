-- What placing a change and laying changes do to rising rows.
use Rattle.std.proofs.Common.{◌≡◌, ◌≢◌, ℕ, zero, suc, ◌+◌, ◌<◌, ◌≤◌, true, false, ltb, eqb, List, [], ◌∷◌, ◌++◌, length, None, get_or, set, if◌then◌else◌, ◌⊎◌, inl, inr, refl, sym, ap, subst, ◌∙◌, append-nil, arith}
use Rattle.std.specs.List.{insert}
use Rattle.std.specs.List.Sorted.{IsNonDecreasingBy, IsPartitionPoint}
use Rattle.std.specs.Ordering.{nat_cmp, ordering_index}
use Rattle.std.specs.declared.cmp.Ordering.TheVariants.{Less, Equal, Greater}
use Rattle.std.proofs.lemmas.Cmp.{ranked}
use Rattle.std.proofs.lemmas.List.Sums.{prefix_len_is}
use Rattle.std.proofs.lemmas.Bool.{ltb-true, eqb-true, lt-ltb, le-ltb, eq-eqb, ne_eqb}
use Rattle.std.proofs.lemmas.Bool.Decides.{nat_tests}
use Rattle.desk_values.specs.declared.value.Image.{Image}
use Rattle.server_words.specs.Rows.{RisesFrom, IsRising, is_there, lay, lay_all, one, placed, shown}
use Rattle.server_words.specs.Inside.Rows.{place}

-- each row is at least what they rise from
rises_above : (n : ℕ) (xs : List Image) → RisesFrom n xs → (j : ℕ) (d : Image) → j < length xs → n ≤ (get_or xs j d).row
rises_above n [] up j d within = absurd (omega arith)
rises_above n (x ∷ xs) up zero d within = up.0
rises_above n (x ∷ xs) up (suc j) d within = omega (arith, up.0, rises_above (x.row + 1) xs up.1 j d (omega arith))

-- each row is at most a later one
pub rises_along : (n : ℕ) (xs : List Image) → RisesFrom n xs → (i j : ℕ) (d : Image) → i ≤ j → j < length xs → (get_or xs i d).row ≤ (get_or xs j d).row
rises_along n [] up i j d le within = absurd (omega arith)
rises_along n (x ∷ xs) up zero zero d le within = omega arith
rises_along n (x ∷ xs) up zero (suc j) d le within = omega (arith, rises_above (x.row + 1) xs up.1 j d (omega arith))
rises_along n (x ∷ xs) up (suc i) zero d le within = absurd (omega arith)
rises_along n (x ∷ xs) up (suc i) (suc j) d le within = rises_along (x.row + 1) xs up.1 i j d (omega arith) (omega arith)

-- and below each one after it
rises_strictly : (n : ℕ) (xs : List Image) → RisesFrom n xs → (i j : ℕ) (d : Image) → i < j → j < length xs → (get_or xs i d).row < (get_or xs j d).row
rises_strictly n [] up i j d lt within = absurd (omega arith)
rises_strictly n (x ∷ xs) up i zero d lt within = absurd (omega arith)
rises_strictly n (x ∷ xs) up zero (suc j) d lt within = omega (arith, rises_above (x.row + 1) xs up.1 j d (omega arith))
rises_strictly n (x ∷ xs) up (suc i) (suc j) d lt within = rises_strictly (x.row + 1) xs up.1 i j d (omega arith) (omega arith)

pub no_image : Image
no_image = record { row = 0; table = 0; left = None }

-- what a binary search finds is the row's place
module _ (row : ℕ) (xs : List Image) (up : IsRising xs) where
  pub comparisons_rise : IsNonDecreasingBy (λ (image : Image). ordering_index (nat_cmp image.row row)) xs
  comparisons_rise i j d le within = let le_rows : (get_or xs i d).row ≤ (get_or xs j d).row = rises_along 0 xs up i j d le within in grind (arith, nat_tests)

  pub found_place : (at : ℕ) → at < length xs → ((d : Image) → nat_cmp (get_or xs at d).row row ≡ Equal) → at ≡ place row xs
  found_place at within equal =
      let here : (get_or xs at no_image).row ≡ row = ranked _ row _ (sym (equal no_image)) in
      sym (prefix_len_is (λ (image : Image). ltb image.row row) xs at no_image (omega arith) (λ k lt. lt-ltb _ _ (omega (arith, rises_strictly 0 xs up k at no_image lt within))) (λ _. le-ltb _ _ (omega arith)))

  pub gap_place : (at : ℕ) → at ≤ length xs → (IsNonDecreasingBy (λ (image : Image). ordering_index (nat_cmp image.row row)) xs → IsPartitionPoint (λ (image : Image). nat_cmp image.row row ≡ Less) (λ (image : Image). nat_cmp image.row row ≡ Greater) xs at) → at ≡ place row xs
  gap_place at within parted =
      let point = parted comparisons_rise in
      sym (prefix_len_is (λ (image : Image). ltb image.row row) xs at no_image within (λ k lt. lt-ltb _ _ (ranked _ row _ (sym (point.0 k no_image (omega arith) lt)))) (λ lt. le-ltb _ _ (let above : row < (get_or xs at no_image).row = ranked _ row _ (sym (point.1 at no_image (omega arith) lt)) in omega arith)))

-- ---- one change that stands

-- the row has an image: it is written over
put_set : (new : Image) (xs : List Image) (d : Image) → place new.row xs < length xs → (get_or xs (place new.row xs) d).row ≡ new.row → placed one new xs ≡ set xs (place new.row xs) new
put_set new [] d within same = absurd (omega arith)
put_set new (x ∷ xs) d within same = grind (arith, nat_tests, put_set new xs d)

-- the row has none: one is put in
put_insert : (new : Image) (xs : List Image) (d : Image) → (place new.row xs < length xs → (get_or xs (place new.row xs) d).row ≢ new.row) → placed one new xs ≡ insert xs (place new.row xs) new
put_insert new [] d other = refl
put_insert new (x ∷ xs) d other = grind (arith, nat_tests, put_insert new xs d)

-- the same of the image x that was read there
pub put_over : (new x : Image) (xs : List Image) (at : ℕ) → at ≡ place new.row xs → at < length xs → x ≡ get_or xs at x → x.row ≡ new.row → set xs at new ≡ placed one new xs
put_over new x xs at is within read same = rw is (sym (put_set new xs x (rw is at within) (let P : ℕ → Type 0 = λ k. (get_or xs k x).row ≡ new.row in subst P is (rw (← read) same))))

pub put_between : (new x : Image) (xs : List Image) (at : ℕ) → at ≡ place new.row xs → x ≡ get_or xs at x → x.row ≢ new.row → insert xs at new ≡ placed one new xs
put_between new x xs at is read apart = rw is (sym (put_insert new xs x (λ within same. apart (let P : ℕ → Type 0 = λ k. (get_or xs k x).row ≡ new.row in rw read (subst P (sym is) same)))))

pub put_last : (new : Image) (xs : List Image) (at : ℕ) → at ≡ place new.row xs → length xs ≤ at → insert xs at new ≡ placed one new xs
put_last new xs at is beyond = rw is (sym (put_insert new xs new (λ within same. omega arith)))

-- ---- rows keep rising

pub rises_less : (m n : ℕ) (xs : List Image) → n ≤ m → RisesFrom m xs → RisesFrom n xs
rises_less m n [] le up = tt
rises_less m n (x ∷ xs) le up = (omega (arith, up.0), up.1)

one_shows : (new : Image) → (one new ≡ []) ⊎ (one new ≡ new ∷ [])
one_shows new = inr refl

shown_shows : (new : Image) → (shown new ≡ []) ⊎ (shown new ≡ new ∷ [])
shown_shows new = elim (is_there new) as (λ b. ((if b then new ∷ [] else []) ≡ []) ⊎ ((if b then new ∷ [] else []) ≡ new ∷ [])) [ true ↦ inr refl | false ↦ inl refl ]

module _ (show : Image → List Image) (new : Image) (shows : (show new ≡ []) ⊎ (show new ≡ new ∷ [])) where
  rises_shown : (n : ℕ) (xs : List Image) → n ≤ new.row → RisesFrom (new.row + 1) xs → RisesFrom n (show new ++ xs)
  rises_shown n xs le up = elim shows [
    | inl none ↦ rw none (rises_less (new.row + 1) n xs (omega arith) up)
    | inr some ↦ rw some (le, up)
  ]

  rises_placed : (n : ℕ) (xs : List Image) → RisesFrom n xs → n ≤ new.row → RisesFrom n (placed show new xs)
  rises_placed n [] up le = let P : List Image → Type 0 = λ l. RisesFrom n l in subst P (append-nil (show new)) (rises_shown n [] le tt)
  rises_placed n (x ∷ xs) up le =
      elim (ltb x.row new.row) as (λ b. ltb x.row new.row ≡ b → RisesFrom n (if b then x ∷ placed show new xs else if eqb x.row new.row then show new ++ xs else show new ++ x ∷ xs)) [
        | true ↦ λ below. (up.0, rises_placed (x.row + 1) xs up.1 (omega (arith, ltb-true _ _ below)))
        | false ↦ λ above.
            elim (eqb x.row new.row) as (λ b. eqb x.row new.row ≡ b → RisesFrom n (if b then show new ++ xs else show new ++ x ∷ xs)) [
              | true ↦ λ same. rises_shown n xs le (let P : ℕ → Type 0 = λ r. RisesFrom (r + 1) xs in subst P (eqb-true _ _ same) up.1)
              | false ↦ λ apart. rises_shown n (x ∷ xs) le (grind (arith, nat_tests), up.1)
            ] refl
      ] refl

pub rising_put : (new : Image) (xs : List Image) → IsRising xs → IsRising (placed one new xs)
rising_put new xs up = rises_placed one new (one_shows new) 0 xs up (omega arith)

pub rising_shown : (new : Image) (xs : List Image) → IsRising xs → IsRising (placed shown new xs)
rising_shown new xs up = rises_placed shown new (shown_shows new) 0 xs up (omega arith)

pub rising_lay : (xs changes : List Image) → IsRising xs → IsRising (lay xs changes)
rising_lay xs [] up = up
rising_lay xs (c ∷ cs) up = rising_lay (placed shown c xs) cs (rising_shown c xs up)

pub rising_lay_all : (xs : List Image) (commits : List (List Image)) → IsRising xs → IsRising (lay_all xs commits)
rising_lay_all xs [] up = up
rising_lay_all xs (c ∷ cs) up = rising_lay_all (lay xs c) cs (rising_lay xs c up)

pub lay_all_push : (xs : List Image) (commits : List (List Image)) (c : List Image) → lay_all xs (commits ++ c ∷ []) ≡ lay (lay_all xs commits) c
lay_all_push xs [] c = refl
lay_all_push xs (d ∷ ds) c = lay_all_push (lay xs d) ds c

-- ---- laying rising changes goes row by row

-- what stands below all changes stays in front
pub lay_front : (x : Image) (xs cs : List Image) → RisesFrom (x.row + 1) cs → lay (x ∷ xs) cs ≡ x ∷ lay xs cs
lay_front x xs [] up = refl
lay_front x xs (c ∷ cs) up =
    let below : ltb x.row c.row ≡ true = lt-ltb _ _ (omega (arith, up.0)) in
    let first : placed shown c (x ∷ xs) ≡ x ∷ placed shown c xs = rw below refl in
    ap (λ l. lay l cs) first ∙ lay_front x (placed shown c xs) cs (rises_less (c.row + 1) (x.row + 1) cs (omega (arith, up.0)) up.1)

lay_shown : (c : Image) (xs cs : List Image) → RisesFrom (c.row + 1) cs → lay (shown c ++ xs) cs ≡ shown c ++ lay xs cs
lay_shown c xs cs up = elim (is_there c) as (λ b. lay ((if b then c ∷ [] else []) ++ xs) cs ≡ (if b then c ∷ [] else []) ++ lay xs cs) [ true ↦ lay_front c xs cs up | false ↦ refl ]

module _ (c : Image) (cs : List Image) (n : ℕ) (up : RisesFrom n (c ∷ cs)) where
  pub lay_below : (x : Image) (xs : List Image) → x.row < c.row → lay (x ∷ xs) (c ∷ cs) ≡ x ∷ lay xs (c ∷ cs)
  lay_below x xs lt = lay_front x xs (c ∷ cs) (omega arith, up.1)

  pub lay_over : (x : Image) (xs : List Image) → x.row ≡ c.row → lay (x ∷ xs) (c ∷ cs) ≡ shown c ++ lay xs cs
  lay_over x xs same =
      let first : placed shown c (x ∷ xs) ≡ shown c ++ xs = rw (le-ltb x.row c.row (omega arith), eq-eqb x.row c.row same) refl in
      ap (λ l. lay l cs) first ∙ lay_shown c xs cs up.1

  pub lay_between : (x : Image) (xs : List Image) → c.row < x.row → lay (x ∷ xs) (c ∷ cs) ≡ shown c ++ lay (x ∷ xs) cs
  lay_between x xs lt =
      let first : placed shown c (x ∷ xs) ≡ shown c ++ x ∷ xs = rw (le-ltb x.row c.row (omega arith), ne_eqb x.row c.row (λ e. omega arith)) refl in
      ap (λ l. lay l cs) first ∙ lay_shown c (x ∷ xs) cs up.1

  pub lay_last : lay [] (c ∷ cs) ≡ shown c ++ lay [] cs
  lay_last = let P : List Image → Type 0 = λ l. lay l cs ≡ shown c ++ lay [] cs in subst P (append-nil (shown c)) (lay_shown c [] cs up.1)
