-- Holds of one session among those of others.
use Rattle.std.proofs.Common.{◌≡◌, ℕ, zero, suc, ◌+◌, ◌-◌, ◌<◌, ◌≤◌, Bool, true, false, List, [], ◌∷◌, ◌++◌, take, drop, length, remove, get_or, refl, ap, ◌∙◌, add-one, arith}
use Rattle.lock_table.specs.Holds.{with_first}

module _ {X : Type 0} (is_own : X → Bool) where
  -- what a walk over the holds leaves: those before the place, and those behind it as they are to be
  abbrev pub walked : ℕ → ℕ → List X → List X
  walked n at holds = take at holds ++ with_first is_own n (drop at holds)

  -- at the end of the walk all stand before the place
  pub walked_all : (n at : ℕ) (holds : List X) → length holds ≤ at → walked n at holds ≡ holds
  walked_all n zero [] h = refl
  walked_all n (suc at) [] h = refl
  walked_all n zero (x ∷ xs) h = absurd (omega (arith, h))
  walked_all n (suc at) (x ∷ xs) h = ap (λ (rest : List X). x ∷ rest) (walked_all n at xs (omega arith))

  past_other : (n at : ℕ) (holds : List X) (d : X) → at < length holds → is_own (get_or holds at d) ≡ false → walked n (suc at) holds ≡ walked n at holds
  past_other n at [] d h other = absurd (omega (arith, h))
  past_other n zero (x ∷ xs) d h other = grind arith
  past_other n (suc at) (x ∷ xs) d h other = ap (λ (rest : List X). x ∷ rest) (past_other n at xs d (omega arith) other)

  past_own : (n at : ℕ) (holds : List X) (d : X) → at < length holds → is_own (get_or holds at d) ≡ true → 0 < n → walked (n - 1) (suc at) holds ≡ walked n at holds
  past_own n at [] d h own more = absurd (omega (arith, h))
  past_own n zero (x ∷ xs) d h own more = grind arith
  past_own n (suc at) (x ∷ xs) d h own more = ap (λ (rest : List X). x ∷ rest) (past_own n at xs d (omega arith) own more)

  -- a hold of another is passed
  pub pass_other : (n at : ℕ) (holds : List X) (d : X) → at < length holds → is_own (get_or holds at d) ≡ false → walked n (at + 1) holds ≡ walked n at holds
  pass_other n at holds d h other = ap (λ (m : ℕ). walked n m holds) (add-one at) ∙ past_other n at holds d h other

  -- and one of its own, where one more may stay
  pub pass_own : (n at : ℕ) (holds : List X) (d : X) → at < length holds → is_own (get_or holds at d) ≡ true → 0 < n → walked (n - 1) (at + 1) holds ≡ walked n at holds
  pass_own n at holds d h own more = ap (λ (m : ℕ). walked (n - 1) m holds) (add-one at) ∙ past_own n at holds d h own more

  -- where none may, it goes
  pub take_own : (n at : ℕ) (holds : List X) (d : X) → at < length holds → is_own (get_or holds at d) ≡ true → n ≡ 0 → walked n at (remove holds at) ≡ walked n at holds
  take_own n at [] d h own none = absurd (omega (arith, h))
  take_own n zero (x ∷ xs) d h own none = grind arith
  take_own n (suc at) (x ∷ xs) d h own none = ap (λ (rest : List X). x ∷ rest) (take_own n at xs d (omega arith) own none)
