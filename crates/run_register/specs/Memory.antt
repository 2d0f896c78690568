-- What contracts see of the keeper in memory.
use Rattle.std.specs.Prelude.{ℕ, List, map, T, refl}
use Rattle.std.specs.Coded.{Coded, code_by, coded×, coded_ℕ, coded_list}
use Rattle.std.specs.FinMap.{code, from_sorted, is_sorted}
use Rattle.std.specs.FinSet.{code as set_code}
use Rattle.desk_files.specs.Memory.{Calls, calls_code}
use Rattle.run_register.specs.declared.kept.Kept.{Kept}
use Rattle.run_register.specs.declared.mem_keeper.Accepted.{Accepted}
use Rattle.run_register.specs.Register.{RunMap, DivergenceSet, Divergence, entry_of, name_cmp}

-- the runs, the accepted divergences, the calls of their device, and how often it was closed
pub record MemoryKeeper : Type 0 where
  pub runs : RunMap
  pub divergences : DivergenceSet
  pub calls : Calls
  pub closes : ℕ

-- no name stands twice, and none before one that is less
abbrev pub NamesRise : List Kept → Type 0
NamesRise kept = T (is_sorted name_cmp (map entry_of kept))

abbrev pub runs_of : List Kept → RunMap
runs_of kept = from_sorted (map entry_of kept)

-- ---- the accepted divergences as they lie in memory

abbrev pub divergence_of : Accepted → Divergence × Unit {0}
divergence_of accepted = ((accepted.name, (accepted.stamp, accepted.class)), tt)

abbrev pub divergences_of : List Accepted → DivergenceSet
divergences_of accepted = from_sorted (map divergence_of accepted)

-- ---- how the value above is stored

abbrev pub runs_code : Coded RunMap
runs_code = code (coded_list coded_ℕ) (coded_list coded_ℕ)

abbrev pub divergences_code : Coded DivergenceSet
divergences_code = set_code (coded× (coded_list coded_ℕ) (coded× coded_ℕ coded_ℕ))

abbrev pub memory_keeper_code : Coded MemoryKeeper
memory_keeper_code = code_by (RunMap × (DivergenceSet × (Calls × ℕ))) (coded× runs_code (coded× divergences_code (coded× calls_code coded_ℕ)))
    (λ m. (m.runs, (m.divergences, (m.calls, m.closes)))) (λ p. record { runs = p.0; divergences = p.1.0; calls = p.1.1.0; closes = p.1.1.1 }) (λ _. refl)
