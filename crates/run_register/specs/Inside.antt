-- Words of the private clauses.
use Rattle.std.specs.Prelude.{ℕ, suc, List, [], ◌∷◌, map, T}
use Rattle.std.specs.FinMap.{is_sorted}
use Rattle.std.specs.Ordering.{nat_cmp, ordering_then}
use Rattle.std.specs.declared.cmp.Ordering.{Ordering}
use Rattle.std.specs.declared.cmp.Ordering.TheVariants.{Less, Equal, Greater}
use Rattle.run_register.specs.declared.mem_keeper.Accepted.{Accepted}
use Rattle.run_register.specs.Memory.{divergence_of}
use Rattle.run_register.specs.Register.{divergence_cmp}

-- one behind where the key is greater
abbrev pub behind : Ordering → ℕ → ℕ
behind Less place = 0
behind Equal place = 0
behind Greater place = suc place

-- where a key that is new stands among entries in order: behind those that are less
abbrev pub place_of : {K X : Type 0} → (K → K → Ordering) → K → List (K × X) → ℕ
place_of R key [] = 0
place_of R key (entry ∷ entries) = behind (R key entry.0) (place_of R key entries)

-- pairs compare by their first parts, then by the second ones
abbrev pub pair_cmp : ℕ × ℕ → ℕ × ℕ → Ordering
pair_cmp a b = ordering_then (nat_cmp a.0 b.0) (nat_cmp a.1 b.1)

-- the divergences stand in order, each once
abbrev pub DivergencesRise : List Accepted → Type 0
DivergencesRise accepted = T (is_sorted divergence_cmp (map divergence_of accepted))
