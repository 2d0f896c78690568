-- Members of lists.
use Rattle.std.proofs.Common.{◌≡◌, ◌⊎◌, ◌<◌, ℕ, zero, suc, List, [], ◌∷◌, length, get_or, refl, sym, subst, inl, inr, arith}
use Rattle.std.specs.List.{AllByRecursion, Any}

module _ {X : Type 0} (P : X → Type 0) where
  pub any_here : (x : X) (xs : List X) → P x → Any P (x ∷ xs)
  any_here x xs h = (zero, x, omega arith, refl, h)

  pub any_later : (x : X) (xs : List X) → Any P xs → Any P (x ∷ xs)
  any_later x xs h = (suc h.0, h.1, omega (arith, h.2), h.3, h.4)

  pub any_weaker : (Q : X → Type 0) → ((x : X) → P x → Q x) → (xs : List X) → Any P xs → Any Q xs
  any_weaker Q gives xs h = (h.0, h.1, h.2, h.3, gives h.1 h.4)

  -- the first, or one of the others
  at_place : (x : X) (xs : List X) (k : ℕ) (y : X) → k < length (x ∷ xs) → get_or (x ∷ xs) k y ≡ y → P y → P x ⊎ Any P xs
  at_place x xs zero y lt is h = inl (subst P (sym is) h)
  at_place x xs (suc k) y lt is h = inr (k, y, omega (arith, lt), is, h)

  pub any_split : (x : X) (xs : List X) → Any P (x ∷ xs) → P x ⊎ Any P xs
  any_split x xs h = at_place x xs h.0 h.1 h.2 h.3 h.4

  -- what holds of each holds of one
  pub any_also : (Q : X → Type 0) (xs : List X) → AllByRecursion Q xs → Any P xs → Any (λ x. Q x × P x) xs
  any_also Q [] each h = absurd (omega (arith, h.2))
  any_also Q (x ∷ xs) each h = elim (any_split x xs h) [
    | inl here ↦ (zero, x, omega arith, refl, (each.0, here))
    | inr later ↦ (let rest = any_also Q xs each.1 later in (suc rest.0, rest.1, omega (arith, rest.2), rest.3, rest.4))
  ]
