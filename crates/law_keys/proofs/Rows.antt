-- Which rows are members of rising rows, once changes are noted or laid over them.
use Rattle.std.proofs.Common.{◌≡◌, ◌∙◌, ◌⊎◌, ◌<◌, ◌≤◌, ℕ, ◌+◌, true, false, ltb, eqb, List, [], ◌∷◌, ◌++◌, refl, sym, ap, subst, inl, inr, arith, if◌then◌else◌}
use Rattle.std.specs.Prelude.{nat_eq}
use Rattle.std.proofs.lemmas.Bool.{ltb-true, eqb-true, eq-eqb}
use Rattle.std.proofs.lemmas.Bool.Decides.{nat_tests}
use Rattle.desk_values.specs.declared.value.Image.{Image}
use Rattle.server_words.specs.Rows.{IsRising, RisesFrom, is_there, lay, lay_all, noted, one, placed, shown}
use Rattle.server_words.specs.Writes.{is_among}
use Rattle.server_words.proofs.Laying.{rising_lay, rising_put, rising_shown}
use Rattle.law_keys.proofs.Members.{In, in_joined, in_left, in_right, in_any, any_in}

-- ---- rising rows

pub in_from : (n : ℕ) (x : Image) (xs : List Image) → RisesFrom n xs → In x xs → n ≤ x.row
in_from n x [] up there = absurd there
in_from n x (y ∷ xs) up (inl is) = let row : x.row ≡ y.row = ap (λ (i : Image). i.row) is in omega (arith, row, up.0)
in_from n x (y ∷ xs) up (inr there) = omega (arith, up.0, in_from (y.row + 1) x xs up.1 there)

-- two members of one number are one
pub one_row : (n : ℕ) (x y : Image) (xs : List Image) → RisesFrom n xs → In x xs → In y xs → x.row ≡ y.row → x ≡ y
one_row n x y [] up there other same = absurd there
one_row n x y (z ∷ xs) up (inl is) (inl also) same = is ∙ sym also
one_row n x y (z ∷ xs) up (inl is) (inr later) same = let row : x.row ≡ z.row = ap (λ (i : Image). i.row) is in absurd (omega (arith, row, same, in_from (z.row + 1) y xs up.1 later))
one_row n x y (z ∷ xs) up (inr later) (inl is) same = let row : y.row ≡ z.row = ap (λ (i : Image). i.row) is in absurd (omega (arith, row, same, in_from (z.row + 1) x xs up.1 later))
one_row n x y (z ∷ xs) up (inr later) (inr also) same = one_row (z.row + 1) x y xs up.1 later also same

-- ---- a row among others, by its number

-- a row of this number is a member
abbrev pub HasRow : ℕ → List Image → Type 0
HasRow row xs = (x : Image) × In x xs × (x.row ≡ row)

pub among_has : (x : Image) (xs : List Image) → is_among xs x ≡ true → HasRow x.row xs
among_has x xs is = let found = any_in (λ (other : Image). nat_eq other.row x.row) xs is in (found.0, found.1, eqb-true _ _ found.2)

pub has_among : (x : Image) (xs : List Image) → HasRow x.row xs → is_among xs x ≡ true
has_among x xs has = in_any (λ (other : Image). nat_eq other.row x.row) has.0 xs has.1 (eq-eqb _ _ has.2)

-- the number is one of the members', or it is not
pub has_row : (x : Image) (xs : List Image) → HasRow x.row xs ⊎ (HasRow x.row xs → ⊥)
has_row x xs = elim (is_among xs x) as (λ b. is_among xs x ≡ b → HasRow x.row xs ⊎ (HasRow x.row xs → ⊥)) [
  | true ↦ λ is. inl (among_has x xs is)
  | false ↦ λ none. inr (λ has. let never : false ≡ true = sym none ∙ has_among x xs has in absurd cc)
] refl

-- ---- a change that is placed

module _ (show : Image → List Image) (new : Image) where
  pub in_placed : (n : ℕ) (x : Image) (xs : List Image) → RisesFrom n xs → In x (placed show new xs) → In x (show new) ⊎ (In x xs × (x.row ≡ new.row → ⊥))
  in_placed n x [] up there = inl there
  in_placed n x (y ∷ xs) up there =
      elim (ltb y.row new.row) as (λ b. ltb y.row new.row ≡ b → In x (if b then y ∷ placed show new xs else if eqb y.row new.row then show new ++ xs else show new ++ y ∷ xs) → In x (show new) ⊎ (In x (y ∷ xs) × (x.row ≡ new.row → ⊥))) [
        | true ↦ λ below found. elim found [
          | inl is ↦ (let row : x.row ≡ y.row = ap (λ (i : Image). i.row) is in inr (inl is, λ same. omega (arith, row, same, ltb-true _ _ below)))
          | inr later ↦ (elim (in_placed (y.row + 1) x xs up.1 later) [ inl new ↦ inl new | inr old ↦ inr (inr old.0, old.1) ])
        ]
        | false ↦ λ above found. elim (eqb y.row new.row) as (λ b. eqb y.row new.row ≡ b → In x (if b then show new ++ xs else show new ++ y ∷ xs) → In x (show new) ⊎ (In x (y ∷ xs) × (x.row ≡ new.row → ⊥))) [
          | true ↦ λ same there. elim (in_joined x (show new) xs there) [
            | inl new ↦ inl new
            | inr old ↦ inr (inr old, λ also. omega (arith, also, eqb-true _ _ same, in_from (y.row + 1) x xs up.1 old))
          ]
          | false ↦ λ apart there. elim (in_joined x (show new) (y ∷ xs) there) [
            | inl new ↦ inl new
            | inr old ↦ (
                let beyond : new.row < y.row = grind (arith, nat_tests) in
                let from : y.row ≤ x.row = in_from y.row x (y ∷ xs) (omega arith, up.1) old in
                inr (old, λ also. omega (arith, also, beyond, from)))
          ]
        ] refl found
      ] refl there

  pub placed_new : (x : Image) (xs : List Image) → In x (show new) → In x (placed show new xs)
  placed_new x [] there = there
  placed_new x (y ∷ xs) there =
      elim (ltb y.row new.row) as (λ b. In x (if b then y ∷ placed show new xs else if eqb y.row new.row then show new ++ xs else show new ++ y ∷ xs)) [
        | true ↦ inr (placed_new x xs there)
        | false ↦ elim (eqb y.row new.row) as (λ b. In x (if b then show new ++ xs else show new ++ y ∷ xs)) [
          | true ↦ in_left x (show new) xs there
          | false ↦ in_left x (show new) (y ∷ xs) there
        ]
      ]

  pub placed_old : (x : Image) (xs : List Image) → In x xs → (x.row ≡ new.row → ⊥) → In x (placed show new xs)
  placed_old x [] there apart = absurd there
  placed_old x (y ∷ xs) there apart =
      elim (ltb y.row new.row) as (λ b. In x (if b then y ∷ placed show new xs else if eqb y.row new.row then show new ++ xs else show new ++ y ∷ xs)) [
        | true ↦ (elim there [ inl is ↦ inl is | inr later ↦ inr (placed_old x xs later apart) ])
        | false ↦ elim (eqb y.row new.row) as (λ b. eqb y.row new.row ≡ b → In x (if b then show new ++ xs else show new ++ y ∷ xs)) [
          | true ↦ λ same. elim there [
            | inl is ↦ (let row : x.row ≡ y.row = ap (λ (i : Image). i.row) is in absurd (apart (row ∙ eqb-true _ _ same)))
            | inr later ↦ in_right x (show new) xs later
          ]
          | false ↦ λ other. in_right x (show new) (y ∷ xs) there
        ] refl
      ]

-- ---- changes that are noted

pub rising_noted : (changes images : List Image) → IsRising changes → IsRising (noted changes images)
rising_noted changes [] up = up
rising_noted changes (i ∷ images) up = rising_noted (placed one i changes) images (rising_put i changes up)

-- a member is one of the further ones, or one of the first that has none of their numbers
pub in_noted : (x : Image) (changes images : List Image) → IsRising changes → In x (noted changes images) → In x images ⊎ (In x changes × (HasRow x.row images → ⊥))
in_noted x changes [] up there = inr (there, λ has. has.1)
in_noted x changes (i ∷ images) up there = elim (in_noted x (placed one i changes) images (rising_put i changes up) there) [
  | inl new ↦ inl (inr new)
  | inr old ↦ (elim (in_placed one i 0 x changes up old.0) [
    | inl is ↦ (elim is [ inl same ↦ inl (inl same) | inr none ↦ absurd none ])
    | inr kept ↦ inr (
      kept.0,
      λ has. elim has.1 [
        | inl is ↦ kept.1 (sym has.2 ∙ ap (λ (j : Image). j.row) is)
        | inr later ↦ old.1 (has.0, later, has.2)
      ],
    )
  ])
]

placed_has : (row : ℕ) (i : Image) (xs : List Image) → HasRow row xs → HasRow row (placed one i xs)
placed_has row i xs has = elim (nat_eq has.0.row i.row) as (λ b. nat_eq has.0.row i.row ≡ b → HasRow row (placed one i xs)) [
  | true ↦ λ same. (i, placed_new one i i xs (inl refl), sym (eqb-true _ _ same) ∙ has.2)
  | false ↦ λ apart. (has.0, placed_old one i has.0 xs has.1 (λ same. let never : true ≡ false = sym (eq-eqb _ _ same) ∙ apart in absurd cc), has.2)
] refl

-- no number is lost
pub noted_has : (row : ℕ) (changes images : List Image) → HasRow row changes → HasRow row (noted changes images)
noted_has row changes [] has = has
noted_has row changes (i ∷ images) has = noted_has row (placed one i changes) images (placed_has row i changes has)

pub noted_all : (row : ℕ) (changes images : List Image) → HasRow row images → HasRow row (noted changes images)
noted_all row changes [] has = absurd has.1
noted_all row changes (i ∷ images) has = elim has.1 [
  | inl is ↦ noted_has row (placed one i changes) images (i, placed_new one i i changes (inl refl), sym (ap (λ (j : Image). j.row) is) ∙ has.2)
  | inr later ↦ noted_all row (placed one i changes) images (has.0, later, has.2)
]

-- ---- changes that are laid over rows

pub in_shown : (x c : Image) → In x (shown c) → (x ≡ c) × (is_there x ≡ true)
in_shown x c there = elim (is_there c) as (λ b. is_there c ≡ b → In x (if b then c ∷ [] else []) → (x ≡ c) × (is_there x ≡ true)) [
  | true ↦ λ is found. elim found [ inl same ↦ (same, ap is_there same ∙ is) | inr none ↦ absurd none ]
  | false ↦ λ gone found. absurd found
] refl there

shown_in : (c : Image) → is_there c ≡ true → In c (shown c)
shown_in c is = rw is (inl refl)

-- a member is a change that is there, or a row that no change has an image of
pub in_laid : (x : Image) (xs changes : List Image) → IsRising xs → In x (lay xs changes) → (In x changes × (is_there x ≡ true)) ⊎ (In x xs × (HasRow x.row changes → ⊥))
in_laid x xs [] up there = inr (there, λ has. has.1)
in_laid x xs (c ∷ changes) up there = elim (in_laid x (placed shown c xs) changes (rising_shown c xs up) there) [
  | inl new ↦ inl (inr new.0, new.1)
  | inr old ↦ (elim (in_placed shown c 0 x xs up old.0) [
    | inl new ↦ (let is = in_shown x c new in inl (inl is.0, is.1))
    | inr kept ↦ inr (
      kept.0,
      λ has. elim has.1 [
        | inl is ↦ kept.1 (sym has.2 ∙ ap (λ (j : Image). j.row) is)
        | inr later ↦ old.1 (has.0, later, has.2)
      ],
    )
  ])
]

pub laid_old : (x : Image) (xs changes : List Image) → In x xs → (HasRow x.row changes → ⊥) → In x (lay xs changes)
laid_old x xs [] there none = there
laid_old x xs (c ∷ changes) there none = laid_old x (placed shown c xs) changes (placed_old shown c x xs there (λ same. none (c, inl refl, sym same))) (λ has. none (has.0, inr has.1, has.2))

pub laid_new : (n : ℕ) (x : Image) (xs changes : List Image) → RisesFrom n changes → In x changes → is_there x ≡ true → In x (lay xs changes)
laid_new n x xs [] up there is = absurd there
laid_new n x xs (c ∷ changes) up (inr later) is = laid_new (c.row + 1) x (placed shown c xs) changes up.1 later is
laid_new n x xs (c ∷ changes) up (inl same) is =
    let row : x.row ≡ c.row = ap (λ (i : Image). i.row) same in
    let shows : In x (shown c) = subst (λ (i : Image). In x (shown i)) same (shown_in x is) in
    laid_old x (placed shown c xs) changes (placed_new shown c x xs shows) (λ has. omega (arith, row, has.2, in_from (c.row + 1) has.0 changes up.1 has.1))

-- of several commits
pub in_laid_all : (x : Image) (xs : List Image) (commits : List (List Image)) → IsRising xs → In x (lay_all xs commits) → In x xs ⊎ ((c : List Image) × In c commits × In x c)
in_laid_all x xs [] up there = inl there
in_laid_all x xs (c ∷ commits) up there = elim (in_laid_all x (lay xs c) commits (rising_lay xs c up) there) [
  | inl first ↦ (elim (in_laid x xs c up first) [ inl new ↦ inr (c, inl refl, new.0) | inr old ↦ inl old.0 ])
  | inr later ↦ inr (later.0, inr later.1, later.2)
]
