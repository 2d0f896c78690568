-- A keeper before and after it was asked, as far as it tells.
use Rattle.std.specs.Prelude.{◌≡◌, ℕ, Option}
use Rattle.desk_files.specs.Outside.{Counts, Ending}
use Rattle.run_register.specs.Register.{DivergenceSet, KeeperAccount, RunMap}

-- the runs, the accepted divergences, and the count of faults
pub record Keeping : Type 0 where
  pub runs_before : Option RunMap
  pub runs_after : Option RunMap
  pub divergences_before : Option DivergenceSet
  pub divergences_after : Option DivergenceSet
  pub faults_before : ℕ
  pub faults_after : ℕ

abbrev pub keeping : KeeperAccount → KeeperAccount → Keeping
keeping before after = record { runs_before = before.runs; runs_after = after.runs; divergences_before = before.divergences; divergences_after = after.divergences; faults_before = before.faults; faults_after = after.faults }

-- all that is told is as before, and the count of faults goes as at this ending
pub record KeepsAll (k : Keeping) (ending : Ending) : Type 0 where
  pub runs : k.runs_after ≡ k.runs_before
  pub divergences : k.divergences_after ≡ k.divergences_before
  pub faults : Counts ending k.faults_before k.faults_after
