-- Rising rows are told by what stands at each number.
use Rattle.std.proofs.Common.{◌≡◌, ◌≢◌, inl, inr, ℕ, ◌+◌, ◌<◌, ◌≤◌, Bool, true, false, if◌then◌else◌, List, [], ◌∷◌, ◌++◌, map, Option, None, Some, refl, sym, ap, subst, ◌∙◌, arith}
use Rattle.std.specs.List.{AllByRecursion, filter}
use Rattle.std.proofs.lemmas.Bool.{cases_eq, cases_lt, eq-eqb, le-ltb, lt-ltb, ne_eqb}
use Rattle.std.proofs.lemmas.Option.{same_Some}
use Rattle.desk_values.specs.declared.value.Image.{Image}
use Rattle.server_words.specs.Rows.{IsRising, RisesFrom, is_there, lay, placed, shown, row_at}
use Rattle.machine_stores.proofs.Indexing.{none_above, row_beside}
use Rattle.server_words.proofs.Laying.{lay_front, lay_over, rising_lay, rising_shown}
use Rattle.server_words.proofs.Looks.{filtered_from}

some_none : {X : Type 0} {x : X} (o : Option X) → o ≡ Some x → o ≡ None → ⊥
some_none o some none = absurd cc

pub at_first : (row : ℕ) (x : Image) (xs : List Image) → x.row ≡ row → row_at row (x ∷ xs) ≡ Some x
at_first row x xs here = rw (eq-eqb x.row row here) refl

pub past_first : (row : ℕ) (x : Image) (xs : List Image) → x.row ≢ row → row_at row (x ∷ xs) ≡ row_at row xs
past_first row x xs apart = rw (ne_eqb x.row row apart) refl

-- ---- two lists that have the same at each number are one

same_later : (x y : Image) (xs ys : List Image) → x.row ≡ y.row → RisesFrom (x.row + 1) xs → RisesFrom (y.row + 1) ys → ((row : ℕ) → row_at row (x ∷ xs) ≡ row_at row (y ∷ ys)) → (row : ℕ) → row_at row xs ≡ row_at row ys
same_later x y xs ys one up also same row = elim (cases_eq x.row row) [
  | inl here ↦ none_above row (x.row + 1) xs up (omega arith) ∙ sym (none_above row (y.row + 1) ys also (omega arith))
  | inr apart ↦ sym (past_first row x xs apart) ∙ same row ∙ past_first row y ys (λ e. apart (one ∙ e))
]

-- the first of one does not stand below the other
not_below : (x y : Image) (xs ys : List Image) → RisesFrom (y.row + 1) ys → x.row < y.row → row_at x.row (x ∷ xs) ≡ row_at x.row (y ∷ ys) → ⊥
not_below x y xs ys also below same = some_none (row_at x.row (x ∷ xs)) (at_first x.row x xs refl) (same ∙ none_above x.row y.row (y ∷ ys) (omega arith, also) below)

pub rising_same : (n : ℕ) (xs ys : List Image) → RisesFrom n xs → RisesFrom n ys → ((row : ℕ) → row_at row xs ≡ row_at row ys) → xs ≡ ys
rising_same n [] [] up also same = refl
rising_same n [] (y ∷ ys) up also same = absurd (some_none (row_at y.row (y ∷ ys)) (at_first y.row y ys refl) (sym (same y.row)))
rising_same n (x ∷ xs) [] up also same = absurd (some_none (row_at x.row (x ∷ xs)) (at_first x.row x xs refl) (same x.row))
rising_same n (x ∷ xs) (y ∷ ys) up also same = elim (cases_eq x.row y.row) [
  | inl one ↦ (
      let is : x ≡ y = same_Some x y (sym (at_first x.row x xs refl) ∙ same x.row ∙ at_first x.row y ys (sym one)) in
      let rest : xs ≡ ys = rising_same (x.row + 1) xs ys up.1 (subst (λ (r : ℕ). RisesFrom (r + 1) ys) (sym one) also.1) (same_later x y xs ys one up.1 also.1 same) in
      ap (λ (z : Image). z ∷ xs) is ∙ ap (λ (l : List Image). y ∷ l) rest)
  | inr apart ↦ (elim (cases_lt x.row y.row) [
    | inl below ↦ absurd (not_below x y xs ys also.1 below (same x.row))
    | inr above ↦ absurd (not_below y x ys xs up.1 (let beyond : y.row < x.row = omega arith in beyond) (sym (same y.row)))
  ])
]

-- ---- what stands at a number where changes are laid

-- a change, where there is one: nothing where it is gone
abbrev pub over : Option Image → Option Image → Option Image
over None old = old
over (Some change) old = if is_there change then Some change else None

row_here : (n : ℕ) (c : Image) (xs : List Image) → RisesFrom n xs → row_at c.row (placed shown c xs) ≡ over (Some c) None
row_here n c [] up = elim (is_there c) as (λ b. row_at c.row (if b then c ∷ [] else []) ≡ (if b then Some c else None)) [ true ↦ at_first c.row c [] refl | false ↦ refl ]
row_here n c (x ∷ xs) up = elim (cases_lt x.row c.row) [
  | inl below ↦ (let lt = lt-ltb x.row c.row below in rw lt (past_first c.row x (placed shown c xs) (λ e. omega arith) ∙ row_here (x.row + 1) c xs up.1))
  | inr above ↦ (elim (cases_eq x.row c.row) [
    | inl same ↦ rw (le-ltb x.row c.row above, eq-eqb x.row c.row same) (shown_at c xs (none_above c.row (x.row + 1) xs up.1 (omega arith)))
    | inr apart ↦ rw (le-ltb x.row c.row above, ne_eqb x.row c.row apart) (shown_at c (x ∷ xs) (none_above c.row x.row (x ∷ xs) (omega arith, up.1) (omega arith)))
  ])
]
  where
    shown_at : (c : Image) (rest : List Image) → row_at c.row rest ≡ None → row_at c.row (shown c ++ rest) ≡ over (Some c) None
    shown_at c rest none = elim (is_there c) as (λ b. row_at c.row ((if b then c ∷ [] else []) ++ rest) ≡ (if b then Some c else None)) [ true ↦ at_first c.row c rest refl | false ↦ none ]

pub row_lay : (row n : ℕ) (xs cs : List Image) → IsRising xs → RisesFrom n cs → row_at row (lay xs cs) ≡ over (row_at row cs) (row_at row xs)
row_lay row n xs [] up over_up = refl
row_lay row n xs (c ∷ cs) up over_up = elim (cases_eq c.row row) [
  | inl same ↦ (
      let gone = none_above row (c.row + 1) cs over_up.1 (omega arith) in
      row_lay row (c.row + 1) (placed shown c xs) cs (rising_shown c xs up) over_up.1
      ∙ ap (λ (o : Option Image). over o (row_at row (placed shown c xs))) gone
      ∙ subst (λ (r : ℕ). row_at r (placed shown c xs) ≡ over (Some c) None) same (row_here 0 c xs up)
      ∙ ap (λ (o : Option Image). over o (row_at row xs)) (sym (at_first row c cs same)))
  | inr apart ↦ row_lay row (c.row + 1) (placed shown c xs) cs (rising_shown c xs up) over_up.1
      ∙ ap (over (row_at row cs)) (row_beside row c xs apart)
      ∙ ap (λ (o : Option Image). over o (row_at row xs)) (sym (past_first row c cs apart))
]

-- ---- what passes a test

abbrev pub kept : (Image → Bool) → Option Image → Option Image
kept test None = None
kept test (Some x) = if test x then Some x else None

pub row_filtered : (test : Image → Bool) (row n : ℕ) (xs : List Image) → RisesFrom n xs → row_at row (filter test xs) ≡ kept test (row_at row xs)
row_filtered test row n [] up = refl
row_filtered test row n (x ∷ xs) up = elim (cases_eq x.row row) [
  | inl same ↦ (elim (test x) as (λ b. test x ≡ b → row_at row (if b then x ∷ filter test xs else filter test xs) ≡ kept test (row_at row (x ∷ xs))) [
    | true ↦ λ passes. at_first row x (filter test xs) same ∙ sym (ap (kept test) (at_first row x xs same) ∙ ap (λ (b : Bool). if b then Some x else None) passes)
    | false ↦ λ fails. none_above row (x.row + 1) (filter test xs) (filtered_from test (x.row + 1) xs up.1) (omega arith) ∙ sym (ap (kept test) (at_first row x xs same) ∙ ap (λ (b : Bool). if b then Some x else None) fails)
  ] refl)
  | inr apart ↦ (
      let rest = row_filtered test row (x.row + 1) xs up.1 ∙ ap (kept test) (sym (past_first row x xs apart)) in
      elim (test x) as (λ b. row_at row (if b then x ∷ filter test xs else filter test xs) ≡ kept test (row_at row (x ∷ xs))) [
        | true ↦ past_first row x (filter test xs) apart ∙ rest
        | false ↦ rest
      ])
]

kept_over : (test : Image → Bool) (o a b : Option Image) → kept test a ≡ kept test b → kept test (over o a) ≡ kept test (over o b)
kept_over test None a b same = same
kept_over test (Some c) a b same = refl

-- what passes a test among rows with changes over them depends on what passes among the rows
pub filtered_lay : (test : Image → Bool) (xs ys cs : List Image) → IsRising xs → IsRising ys → IsRising cs → filter test xs ≡ filter test ys → filter test (lay xs cs) ≡ filter test (lay ys cs)
filtered_lay test xs ys cs up also over_up same =
    rising_same 0 (filter test (lay xs cs)) (filter test (lay ys cs)) (filtered_from test 0 (lay xs cs) (rising_lay xs cs up)) (filtered_from test 0 (lay ys cs) (rising_lay ys cs also)) (λ row.
    let rows : kept test (row_at row xs) ≡ kept test (row_at row ys) = sym (row_filtered test row 0 xs up) ∙ ap (row_at row) same ∙ row_filtered test row 0 ys also in
    row_filtered test row 0 (lay xs cs) (rising_lay xs cs up) ∙ ap (kept test) (row_lay row 0 xs cs up over_up)
    ∙ kept_over test (row_at row cs) (row_at row xs) (row_at row ys) rows
    ∙ ap (kept test) (sym (row_lay row 0 ys cs also over_up)) ∙ sym (row_filtered test row 0 (lay ys cs) (rising_lay ys cs also)))

-- ---- changes over changes

abbrev AreThere : List Image → Type 0
AreThere images = AllByRecursion (λ (image : Image). is_there image ≡ true) images

pub there_at : (row : ℕ) (ns : List Image) (x : Image) → AreThere ns → row_at row ns ≡ Some x → is_there x ≡ true
there_at row [] x there at = absurd cc
there_at row (n ∷ ns) x there at = elim (cases_eq n.row row) [
  | inl same ↦ (let is : n ≡ x = same_Some n x (sym (at_first row n ns same) ∙ at) in ap is_there (sym is) ∙ there.0)
  | inr apart ↦ there_at row ns x there.1 (sym (past_first row n ns apart) ∙ at)
]

over_twice : (o changed old : Option Image) → ((x : Image) → o ≡ Some x → is_there x ≡ true) → over o (over changed old) ≡ over (over o changed) old
over_twice None changed old there = refl
over_twice (Some x) changed old there =
    let stands = there x refl in
    ap (λ (b : Bool). if b then Some x else None) stands ∙ sym (ap (λ (b : Bool). over (if b then Some x else None) old) stands ∙ ap (λ (b : Bool). if b then Some x else None) stands)

-- rows that are there, laid over laid ones, are laid over the changes
pub lay_twice : (xs cs ns : List Image) → IsRising xs → IsRising cs → IsRising ns → AreThere ns → lay (lay xs cs) ns ≡ lay xs (lay cs ns)
lay_twice xs cs ns up over_up news_up there =
    rising_same 0 (lay (lay xs cs) ns) (lay xs (lay cs ns)) (rising_lay (lay xs cs) ns (rising_lay xs cs up)) (rising_lay xs (lay cs ns) up) (λ row.
    row_lay row 0 (lay xs cs) ns (rising_lay xs cs up) news_up ∙ ap (over (row_at row ns)) (row_lay row 0 xs cs up over_up)
    ∙ over_twice (row_at row ns) (row_at row cs) (row_at row xs) (λ x at. there_at row ns x there at)
    ∙ sym (row_lay row 0 xs (lay cs ns) up (rising_lay cs ns over_up) ∙ ap (λ (o : Option Image). over o (row_at row xs)) (row_lay row 0 cs ns over_up news_up)))

-- ---- new images of some of the rows

module _ (test : Image → Bool) (make : Image → Image) (same : (x : Image) → (make x).row ≡ x.row) (there : (x : Image) → is_there (make x) ≡ true) where
  made_from : (n : ℕ) (xs : List Image) → RisesFrom n xs → RisesFrom n (map make xs)
  made_from n [] up = tt
  made_from n (x ∷ xs) up = (subst (λ (r : ℕ). n ≤ r) (sym (same x)) up.0, subst (λ (r : ℕ). RisesFrom (r + 1) (map make xs)) (sym (same x)) (made_from (x.row + 1) xs up.1))

  pub made_rise : (n : ℕ) (xs : List Image) → RisesFrom n xs → RisesFrom n (map make (filter test xs))
  made_rise n xs up = made_from n (filter test xs) (filtered_from test n xs up)

  pub made_there : (xs : List Image) → AreThere (map make xs)
  made_there [] = tt
  made_there (x ∷ xs) = (there x, made_there xs)

  -- laid over the rows they stand in the place of theirs
  pub made_laid : (n : ℕ) (xs : List Image) → RisesFrom n xs → lay xs (map make (filter test xs)) ≡ map (λ (x : Image). if test x then make x else x) xs
  made_laid n [] up = refl
  made_laid n (x ∷ xs) up =
      let rest = made_laid (x.row + 1) xs up.1 in
      let news = map make (filter test xs) in
      let rise = made_rise (x.row + 1) xs up.1 in
      elim (test x) as (λ b. lay (x ∷ xs) (map make (if b then x ∷ filter test xs else filter test xs)) ≡ (if b then make x else x) ∷ map (λ (y : Image). if test y then make y else y) xs) [
        | true ↦ lay_over (make x) news (make x).row (omega arith, subst (λ (r : ℕ). RisesFrom (r + 1) news) (sym (same x)) rise) x xs (sym (same x))
            ∙ ap (λ (b : Bool). (if b then make x ∷ [] else []) ++ lay xs news) (there x)
            ∙ ap (λ (l : List Image). make x ∷ l) rest
        | false ↦ lay_front x xs news rise ∙ ap (λ (l : List Image). x ∷ l) rest
      ]
