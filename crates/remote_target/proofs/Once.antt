-- No session stands twice among those that take part.
use Rattle.std.proofs.Common.{◌≡◌, ℕ, zero, suc, ◌+◌, ◌<◌, ◌≤◌, inl, inr, Bool, List, ◌∷◌, Some, refl, sym, ap, subst, arith}
use Rattle.std.specs.Prelude.{slice_get}
use Rattle.std.specs.List.{filter, range_with_len}
use Rattle.std.proofs.lemmas.Bool.{cases_Bool}
use Rattle.std.proofs.lemmas.Option.{same_Some}
use Rattle.desk_values.specs.Limits.{session_limit}
use Rattle.desk_values.specs.declared.capture.Captured.{Captured}
use Rattle.replay_lanes.specs.Sessions.{sessions, takes_part}
use Rattle.remote_target.specs.Inside.{HasOneEach}

-- one below all the others
cons_once : (a : ℕ) (list : List ℕ) → ((i s : ℕ) → slice_get list i ≡ Some s → a < s) → HasOneEach list → HasOneEach (a ∷ list)
cons_once a list above once zero zero s x y = refl
cons_once a list above once zero (suc j) s x y = (let same : a ≡ s = same_Some a s x in let less = above j s y in absurd (omega (arith, same, less)))
cons_once a list above once (suc i) zero s x y = (let same : a ≡ s = same_Some a s y in let less = above i s x in absurd (omega (arith, same, less)))
cons_once a list above once (suc i) (suc j) s x y = ap suc (once i j s x y)

-- the first of some, or one behind it
first_or_later : (a s : ℕ) (rest : List ℕ) → ((k : ℕ) → slice_get rest k ≡ Some s → a + 1 ≤ s) → (i : ℕ) → slice_get (a ∷ rest) i ≡ Some s → a ≤ s
first_or_later a s rest later zero found = let same : a ≡ s = same_Some a s found in omega (arith, same)
first_or_later a s rest later (suc i) found = let more = later i found in omega (arith, more)

module _ (p : ℕ → Bool) where
  above : (n a i s : ℕ) → slice_get (filter p (range_with_len a n)) i ≡ Some s → a ≤ s
  above zero a i s at = absurd cc
  above (suc n) a i s at = elim (cases_Bool (p a)) [
    | inl is_so ↦ first_or_later a s (filter p (range_with_len (a + 1) n)) (λ k found. above n (a + 1) k s found) i (rw is_so at at)
    | inr is_not ↦ let more = above n (a + 1) i s (rw is_not at at) in omega (arith, more)
  ]

  once_from : (n a : ℕ) → HasOneEach (filter p (range_with_len a n))
  once_from zero a = λ i j s x y. absurd cc
  once_from (suc n) a = elim (cases_Bool (p a)) [
    | inl is_so ↦ rw is_so (cons_once a (filter p (range_with_len (a + 1) n)) (λ i s at. (let more = above n (a + 1) i s at in omega (arith, more))) (once_from n (a + 1)))
    | inr is_not ↦ rw is_not (once_from n (a + 1))
  ]

once_where : (n : ℕ) (list : List ℕ) (p : ℕ → Bool) → list ≡ filter p (range_with_len 0 n) → HasOneEach list
once_where n list p is = subst HasOneEach (sym is) (once_from p n 0)

they_are : (calls : List Captured) → sessions calls ≡ filter (takes_part calls) (range_with_len 0 session_limit)
unfolding sessions
they_are calls = refl

pub sessions_once : (calls : List Captured) → HasOneEach (sessions calls)
sessions_once calls = once_where session_limit (sessions calls) (takes_part calls) (they_are calls)
