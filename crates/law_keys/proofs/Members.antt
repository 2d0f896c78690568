-- Members of lists.
use Rattle.std.proofs.Common.{◌≡◌, ◌∙◌, ◌⊎◌, ◌<◌, ℕ, zero, suc, Bool, true, false, ◌||◌, List, [], ◌∷◌, ◌++◌, length, map, get_or, take, drop, refl, sym, ap, subst, inl, inr, arith, if◌then◌else◌}
use Rattle.std.specs.List.{AllByRecursion, Contains, filter, list_any, flat_map}
use Rattle.std.proofs.Math.Bool.{or-true}
use Rattle.std.proofs.lemmas.Bool.{or_cases, or_parts}

-- the item is a member of the list
abbrev pub In : {X : Type 0} → X → List X → Type 0
In x [] = ⊥
In x (y ∷ ys) = (x ≡ y) ⊎ In x ys

module _ {X : Type 0} where
  pub in_joined : (x : X) (xs ys : List X) → In x (xs ++ ys) → In x xs ⊎ In x ys
  in_joined x [] ys there = inr there
  in_joined x (y ∷ xs) ys (inl is) = inl (inl is)
  in_joined x (y ∷ xs) ys (inr there) = elim (in_joined x xs ys there) [ inl left ↦ inl (inr left) | inr right ↦ inr right ]

  pub in_left : (x : X) (xs ys : List X) → In x xs → In x (xs ++ ys)
  in_left x [] ys there = absurd there
  in_left x (y ∷ xs) ys (inl is) = inl is
  in_left x (y ∷ xs) ys (inr there) = inr (in_left x xs ys there)

  pub in_right : (x : X) (xs ys : List X) → In x ys → In x (xs ++ ys)
  in_right x [] ys there = there
  in_right x (y ∷ xs) ys there = inr (in_right x xs ys there)

  pub in_taken : (x : X) (n : ℕ) (xs : List X) → In x (take n xs) → In x xs
  in_taken x zero xs there = absurd there
  in_taken x (suc n) [] there = absurd there
  in_taken x (suc n) (y ∷ xs) (inl is) = inl is
  in_taken x (suc n) (y ∷ xs) (inr there) = inr (in_taken x n xs there)

  pub in_place : (xs : List X) (i : ℕ) (d : X) → i < length xs → In (get_or xs i d) xs
  in_place [] i d within = absurd (omega arith)
  in_place (x ∷ xs) zero d within = inl refl
  in_place (x ∷ xs) (suc i) d within = inr (in_place xs i d (omega arith))

  -- one at another place is among those before and after this place
  pub in_rest : (xs : List X) (i j : ℕ) (d : X) → (j ≡ i → ⊥) → j < length xs → In (get_or xs j d) (take i xs ++ drop (suc i) xs)
  in_rest [] i j d other within = absurd (omega arith)
  in_rest (x ∷ xs) zero zero d other within = absurd (other refl)
  in_rest (x ∷ xs) zero (suc j) d other within = in_place xs j d (omega arith)
  in_rest (x ∷ xs) (suc i) zero d other within = inl refl
  in_rest (x ∷ xs) (suc i) (suc j) d other within = inr (in_rest xs i j d (λ is. other (ap suc is)) (omega arith))

  module _ (p : X → Bool) where
    pub in_filtered : (x : X) (xs : List X) → In x (filter p xs) → In x xs × (p x ≡ true)
    in_filtered x [] there = absurd there
    in_filtered x (y ∷ xs) there = elim (p y) as (λ b. p y ≡ b → In x (if b then y ∷ filter p xs else filter p xs) → In x (y ∷ xs) × (p x ≡ true)) [
      | true ↦ λ passes found. elim found [
        | inl is ↦ (inl is, ap p is ∙ passes)
        | inr later ↦ (let rest = in_filtered x xs later in (inr rest.0, rest.1))
      ]
      | false ↦ λ fails found. let rest = in_filtered x xs found in (inr rest.0, rest.1)
    ] refl there

    pub filtered_in : (x : X) (xs : List X) → In x xs → p x ≡ true → In x (filter p xs)
    filtered_in x [] there passes = absurd there
    filtered_in x (y ∷ xs) (inl is) passes = rw (ap p (sym is) ∙ passes) (inl is)
    filtered_in x (y ∷ xs) (inr there) passes = elim (p y) as (λ b. In x (if b then y ∷ filter p xs else filter p xs)) [
      | true ↦ inr (filtered_in x xs there passes)
      | false ↦ filtered_in x xs there passes
    ]

    pub any_in : (xs : List X) → list_any p xs ≡ true → (x : X) × In x xs × (p x ≡ true)
    any_in [] is = absurd cc
    any_in (x ∷ xs) is = elim (or_cases (p x) (list_any p xs) is) [
      | inl here ↦ (x, inl refl, here)
      | inr later ↦ (let rest = any_in xs later in (rest.0, inr rest.1, rest.2))
    ]

    pub in_any : (x : X) (xs : List X) → In x xs → p x ≡ true → list_any p xs ≡ true
    in_any x [] there passes = absurd there
    in_any x (y ∷ xs) (inl is) passes = ap (λ b. b || list_any p xs) (ap p (sym is) ∙ passes)
    in_any x (y ∷ xs) (inr there) passes = ap (λ b. p y || b) (in_any x xs there passes) ∙ or-true (p y)

    pub none_in : (x : X) (xs : List X) → list_any p xs ≡ false → In x xs → p x ≡ false
    none_in x [] none there = absurd there
    none_in x (y ∷ xs) none (inl is) = ap p is ∙ (or_parts (p y) (list_any p xs) none).0
    none_in x (y ∷ xs) none (inr there) = none_in x xs (or_parts (p y) (list_any p xs) none).1 there

    pub in_none : (xs : List X) → ((x : X) → In x xs → p x ≡ false) → list_any p xs ≡ false
    in_none [] fails = refl
    in_none (x ∷ xs) fails = ap (λ b. b || list_any p xs) (fails x (inl refl)) ∙ in_none xs (λ y there. fails y (inr there))

-- a member by its place
module _ {X : Type 0} where
  pub at_place : (xs : List X) (x : X) → Contains xs x → In x xs
  at_place xs x there = subst (λ y. In y xs) there.2 (in_place xs there.0 x there.1)

  pub place_of : (x : X) (xs : List X) → In x xs → Contains xs x
  place_of x [] there = absurd there
  place_of x (y ∷ xs) (inl is) = (0, omega arith, sym is)
  place_of x (y ∷ xs) (inr there) = let rest = place_of x xs there in (suc rest.0, omega (arith, rest.1), rest.2)

-- what holds of each member
module _ {X : Type 0} (P : X → Type 0) where
  pub each_in : (x : X) (xs : List X) → AllByRecursion P xs → In x xs → P x
  each_in x [] each there = absurd there
  each_in x (y ∷ xs) each (inl is) = subst P (sym is) each.0
  each_in x (y ∷ xs) each (inr there) = each_in x xs each.1 there

  pub in_each : (xs : List X) → ((x : X) → In x xs → P x) → AllByRecursion P xs
  in_each [] holds = tt
  in_each (x ∷ xs) holds = (holds x (inl refl), in_each xs (λ y there. holds y (inr there)))

module _ {X Y : Type 0} (f : X → Y) where
  pub in_mapped : (y : Y) (xs : List X) → In y (map f xs) → (x : X) × In x xs × (y ≡ f x)
  in_mapped y [] there = absurd there
  in_mapped y (x ∷ xs) (inl is) = (x, inl refl, is)
  in_mapped y (x ∷ xs) (inr there) = let rest = in_mapped y xs there in (rest.0, inr rest.1, rest.2)

  pub mapped_in : (x : X) (xs : List X) → In x xs → In (f x) (map f xs)
  mapped_in x [] there = absurd there
  mapped_in x (y ∷ xs) (inl is) = inl (ap f is)
  mapped_in x (y ∷ xs) (inr there) = inr (mapped_in x xs there)

pub in_flat : {X Y : Type 0} (f : X → List Y) (y : Y) (xs : List X) → In y (flat_map f xs) → (x : X) × In x xs × In y (f x)
in_flat f y [] there = absurd there
in_flat f y (x ∷ xs) there = elim (in_joined y (f x) (flat_map f xs) there) [
  | inl here ↦ (x, inl refl, here)
  | inr later ↦ (let rest = in_flat f y xs later in (rest.0, inr rest.1, rest.2))
]

pub flat_in : {X Y : Type 0} (f : X → List Y) (y : Y) (x : X) (xs : List X) → In x xs → In y (f x) → In y (flat_map f xs)
flat_in f y x [] there here = absurd there
flat_in f y x (z ∷ xs) (inl same) here = in_left y (f z) (flat_map f xs) (subst (λ w. In y (f w)) same here)
flat_in f y x (z ∷ xs) (inr there) here = in_right y (f z) (flat_map f xs) (flat_in f y x xs there here)
