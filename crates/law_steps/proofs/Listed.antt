-- Members of lists, and the places of those that pass a test.
use Rattle.std.proofs.Common.{◌≡◌, ◌∙◌, ◌<◌, inl, inr, ℕ, suc, Bool, true, false, List, [], ◌∷◌, length, map, get_or, refl, sym, ap, subst, arith}
use Rattle.std.proofs.lemmas.Bool.{eqb-true, or_cases}
use Rattle.std.specs.Prelude.{cond, nat_eq}
use Rattle.std.specs.List.{Contains, filter, flat_map, list_any}
use Rattle.std.proofs.lemmas.List.Elements.{Contains-append_cases, Contains-append_left, Contains-append_right}
use Rattle.desk_schema.proofs.Members.{Contains-cases, Contains-here, Contains-none, Contains-there}

module _ {X : Type 0} (p : X → Bool) where
  -- one that passes, by its place
  pub place_of : (xs : List X) (d : X) → list_any p xs ≡ true → (k : ℕ) × (k < length xs) × (p (get_or xs k d) ≡ true)
  place_of [] d is = absurd (let never : false ≡ true = is in cc)
  place_of (x ∷ xs) d is = elim (or_cases (p x) (list_any p xs) is) [
    | inl here ↦ (0, omega arith, here)
    | inr later ↦ (let rest = place_of xs d later in (suc rest.0, omega (arith, rest.1), rest.2))
  ]

  pub kept : (xs : List X) (x : X) → Contains xs x → p x ≡ true → Contains (filter p xs) x
  kept [] x there passes = absurd (Contains-none x there)
  kept (y ∷ xs) x there passes = elim (Contains-cases y xs x there) [
    | inl same ↦ rw (ap p same, passes) (subst (Contains (y ∷ filter p xs)) same (Contains-here y (filter p xs)))
    | inr later ↦ (
        let rest = kept xs x later passes in
        elim (p y) as (λ b. Contains (cond b (y ∷ filter p xs) (filter p xs)) x) [ true ↦ Contains-there y (filter p xs) x rest | false ↦ rest ])
  ]

  pub kept_from : (xs : List X) (x : X) → Contains (filter p xs) x → Contains xs x × (p x ≡ true)
  kept_from [] x there = absurd (Contains-none x there)
  kept_from (y ∷ xs) x there =
      let later : Contains (filter p xs) x → Contains (y ∷ xs) x × (p x ≡ true) = λ rest. (let found = kept_from xs x rest in (Contains-there y xs x found.0, found.1)) in
      elim (p y) as (λ b. p y ≡ b → Contains (cond b (y ∷ filter p xs) (filter p xs)) x → Contains (y ∷ xs) x × (p x ≡ true)) [
        | true ↦ λ passes among. elim (Contains-cases y (filter p xs) x among) [
          | inl same ↦ (subst (Contains (y ∷ xs)) same (Contains-here y xs), ap p (sym same) ∙ passes)
          | inr rest ↦ later rest
        ]
        | false ↦ λ fails among. later among
      ] refl there

  -- one that passes both tests
  pub both_passed : (q : X → Bool) (xs : List X) → list_any q (filter p xs) ≡ true → (x : X) × Contains xs x × (p x ≡ true) × (q x ≡ true)
  both_passed q [] is = absurd (let never : false ≡ true = is in cc)
  both_passed q (y ∷ xs) is =
      let later : list_any q (filter p xs) ≡ true → (x : X) × Contains (y ∷ xs) x × (p x ≡ true) × (q x ≡ true) = λ any. (let rest = both_passed q xs any in (rest.0, Contains-there y xs rest.0 rest.1, rest.2, rest.3)) in
      elim (p y) as (λ b. p y ≡ b → list_any q (cond b (y ∷ filter p xs) (filter p xs)) ≡ true → (x : X) × Contains (y ∷ xs) x × (p x ≡ true) × (q x ≡ true)) [
        | true ↦ λ passes any. elim (or_cases (q y) (list_any q (filter p xs)) any) [
          | inl here ↦ (y, Contains-here y xs, passes, here)
          | inr rest ↦ later rest
        ]
        | false ↦ λ fails any. later any
      ] refl is

module _ {X Y : Type 0} where
  pub mapped : (f : X → Y) (xs : List X) (x : X) → Contains xs x → Contains (map f xs) (f x)
  mapped f [] x there = absurd (Contains-none x there)
  mapped f (y ∷ xs) x there = elim (Contains-cases y xs x there) [
    | inl same ↦ subst (λ (z : X). Contains (map f (y ∷ xs)) (f z)) same (Contains-here (f y) (map f xs))
    | inr later ↦ Contains-there (f y) (map f xs) (f x) (mapped f xs x later)
  ]

  pub mapped_from : (f : X → Y) (xs : List X) (y : Y) → Contains (map f xs) y → (x : X) × Contains xs x × (f x ≡ y)
  mapped_from f [] y there = absurd (Contains-none y there)
  mapped_from f (x ∷ xs) y there = elim (Contains-cases (f x) (map f xs) y there) [
    | inl same ↦ (x, Contains-here x xs, same)
    | inr later ↦ (let rest = mapped_from f xs y later in (rest.0, Contains-there x xs rest.0 rest.1, rest.2))
  ]

  pub joined_from : (f : X → List Y) (xs : List X) (y : Y) → Contains (flat_map f xs) y → (x : X) × Contains xs x × Contains (f x) y
  joined_from f [] y there = absurd (Contains-none y there)
  joined_from f (x ∷ xs) y there = elim (Contains-append_cases (f x) (flat_map f xs) y there) [
    | inl here ↦ (x, Contains-here x xs, here)
    | inr later ↦ (let rest = joined_from f xs y later in (rest.0, Contains-there x xs rest.0 rest.1, rest.2))
  ]

  pub joined : (f : X → List Y) (xs : List X) (x : X) (y : Y) → Contains xs x → Contains (f x) y → Contains (flat_map f xs) y
  joined f [] x y there in_it = absurd (Contains-none x there)
  joined f (z ∷ xs) x y there in_it = elim (Contains-cases z xs x there) [
    | inl same ↦ Contains-append_left (f z) (flat_map f xs) y (subst (λ (w : X). Contains (f w) y) (sym same) in_it)
    | inr later ↦ Contains-append_right (f z) (flat_map f xs) y (joined f xs x y later in_it)
  ]

pub number_in : (ns : List ℕ) (n : ℕ) → list_any (nat_eq n) ns ≡ true → Contains ns n
number_in ns n is =
    let found = place_of (nat_eq n) ns n is in
    (found.0, found.1, sym (eqb-true n (get_or ns found.0 n) found.2))
