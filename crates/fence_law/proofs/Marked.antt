-- The places of marks rise, and are just those that are marked.
use Rattle.std.proofs.Common.{◌≡◌, ℕ, zero, suc, ◌+◌, ◌≤◌, Bool, true, false, List, [], ◌∷◌, refl, sym, subst, ◌∙◌, ⊎_elim, arith}
use Rattle.std.specs.Prelude.{◌↔◌}
use Rattle.std.specs.List.{Contains}
use Rattle.desk_schema.proofs.Members.{Contains-cases, Contains-here, Contains-none, Contains-there}
use Rattle.replay_walk.specs.Walked.{marked_at}
use Rattle.fence_law.specs.Inside.{stamps_in}
use Rattle.fence_law.specs.Plain.{StampsRiseFrom}

lower : (m n : ℕ) (stamps : List ℕ) → m ≤ n → StampsRiseFrom n stamps → StampsRiseFrom m stamps
lower m n [] le up = tt
lower m n (stamp ∷ stamps) le up = (omega (arith, up.0), up.1)

pub stamps_rise : (n : ℕ) (marks : List Bool) → StampsRiseFrom n (stamps_in n marks)
stamps_rise n [] = tt
stamps_rise n (true ∷ marks) = (omega arith, stamps_rise (n + 1) marks)
stamps_rise n (false ∷ marks) = lower n (n + 1) (stamps_in (n + 1) marks) (omega arith) (stamps_rise (n + 1) marks)

there : (n : ℕ) (marks : List Bool) (k : ℕ) → marked_at marks k ≡ true → Contains (stamps_in n marks) (n + k)
there n [] k is = absurd cc
there n (true ∷ marks) zero is = let same : n ≡ n + zero = omega arith in subst (λ (j : ℕ). Contains (n ∷ stamps_in (n + 1) marks) j) same (Contains-here n (stamps_in (n + 1) marks))
there n (true ∷ marks) (suc k) is = let same : n + 1 + k ≡ n + suc k = omega arith in Contains-there n (stamps_in (n + 1) marks) (n + suc k) (subst (λ (j : ℕ). Contains (stamps_in (n + 1) marks) j) same (there (n + 1) marks k is))
there n (false ∷ marks) zero is = absurd cc
there n (false ∷ marks) (suc k) is = let same : n + 1 + k ≡ n + suc k = omega arith in subst (λ (j : ℕ). Contains (stamps_in (n + 1) marks) j) same (there (n + 1) marks k is)

back : (n : ℕ) (marks : List Bool) (j : ℕ) → Contains (stamps_in n marks) j → (k : ℕ) × (j ≡ n + k) × (marked_at marks k ≡ true)
back n [] j c = absurd (Contains-none j c)
back n (true ∷ marks) j c = ⊎_elim
    (λ same. let is : j ≡ n + zero = omega (arith, same) in (zero, is, refl))
    (λ later. let t = back (n + 1) marks j later in let is : j ≡ n + suc t.0 = omega (arith, t.1) in (suc t.0, is, t.2))
    (Contains-cases n (stamps_in (n + 1) marks) j c)
back n (false ∷ marks) j c = let t = back (n + 1) marks j c in let is : j ≡ n + suc t.0 = omega (arith, t.1) in (suc t.0, is, t.2)

pub each_marked : (marks : List Bool) (k : ℕ) → Contains (stamps_in 0 marks) k ↔ (marked_at marks k ≡ true)
each_marked marks k = (
  λ c. let t = back 0 marks k c in let same : t.0 ≡ k = omega (arith, t.1) in subst (λ (j : ℕ). marked_at marks j ≡ true) same t.2,
  λ is. let same : 0 + k ≡ k = omega arith in subst (λ (j : ℕ). Contains (stamps_in 0 marks) j) same (there 0 marks k is),
)
