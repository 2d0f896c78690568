-- Lists of what is made of the numbers that pass a test, number by number.
use Rattle.std.proofs.Common.{◌≡◌, ◌∙◌, ◌+◌, ◌-◌, ◌<◌, ◌≤◌, ◌++◌, ℕ, suc, Bool, true, false, cond, List, [], ◌∷◌, ap, sym, append_assoc, arith}
use Rattle.std.specs.List.{filter, range_with_len}

module _ (test : ℕ → Bool) where
  -- the numbers from a to n that pass
  abbrev pub passing : ℕ → ℕ → List ℕ
  passing a n = filter test (range_with_len a (n - a))

  front : (a n : ℕ) → a < n → passing a n ≡ cond (test a) (a ∷ passing (a + 1) n) (passing (a + 1) n)
  front a n below = let more : n - a ≡ suc (n - (a + 1)) = omega (arith, below) in ap (λ (len : ℕ). filter test (range_with_len a len)) more

  pub taken : (a n : ℕ) → a < n → test a ≡ true → passing a n ≡ a ∷ passing (a + 1) n
  taken a n below passes = front a n below ∙ ap (λ (b : Bool). cond b (a ∷ passing (a + 1) n) (passing (a + 1) n)) passes

  pub left_out : (a n : ℕ) → a < n → test a ≡ false → passing a n ≡ passing (a + 1) n
  left_out a n below fails = front a n below ∙ ap (λ (b : Bool). cond b (a ∷ passing (a + 1) n) (passing (a + 1) n)) fails

  pub none_left : (a n : ℕ) → n ≤ a → passing a n ≡ []
  none_left a n past = let none : n - a ≡ 0 = omega (arith, past) in ap (λ (len : ℕ). filter test (range_with_len a len)) none

  -- a list goes on by the next number that passes
  pub one_more : (its next : List ℕ) (a n : ℕ) (all : List ℕ) → a < n → test a ≡ true → next ≡ its ++ a ∷ [] → its ++ passing a n ≡ all → next ++ passing (a + 1) n ≡ all
  one_more its next a n all below passes is whole = ap (λ (xs : List ℕ). xs ++ passing (a + 1) n) is ∙ append_assoc its (a ∷ []) (passing (a + 1) n) ∙ ap (λ (xs : List ℕ). its ++ xs) (sym (taken a n below passes)) ∙ whole

  pub passed_over : (its next : List ℕ) (a n : ℕ) (all : List ℕ) → a < n → test a ≡ false → next ≡ its → its ++ passing a n ≡ all → next ++ passing (a + 1) n ≡ all
  passed_over its next a n all below fails is whole = ap (λ (xs : List ℕ). xs ++ passing (a + 1) n) is ∙ ap (λ (xs : List ℕ). its ++ xs) (sym (left_out a n below fails)) ∙ whole
