-- Where names stand.
use Rattle.std.proofs.Common.{Bool, ℕ, ◌+◌, ◌<◌, true, false, cond, suc, List, [], ◌∷◌, length, arith}
use Rattle.std.specs.Prelude.{IfSome, Option, None, Some, option_map}
use Rattle.desk_schema.specs.Schema.{place_where}

one_later : (o : Option ℕ) (n : ℕ) → IfSome o (λ place. place < n) → IfSome (option_map (λ place. place + 1) o) (λ place. place < suc n)
one_later None n lt = tt
one_later (Some place) n lt = omega (arith, lt)

-- the place of a name is one of the list
pub place_within : (test : List ℕ → Bool) (names : List (List ℕ)) → IfSome (place_where test names) (λ place. place < length names)
place_within test [] = tt
place_within test (name ∷ names) = elim (test name) as (λ b. IfSome (cond b (Some 0) (option_map (λ place. place + 1) (place_where test names))) (λ place. place < suc (length names))) [
  | true ↦ omega arith
  | false ↦ one_later (place_where test names) (length names) (place_within test names)
]
