use Rattle.std.proofs.Common.{◌≡◌, ℕ, ◌<◌, ◌≤◌, length, get_or}
use Rattle.row_versions.specs.History.{History}
use Rattle.machine_stores.specs.Tables.{IsForgot}
use Rattle.machine_stores.proofs.tables.forget_each.Given as goal

abbrev pub invariant-loop-table : goal.invariant-loop-table
invariant-loop-table l = record {
  done : (k : ℕ) (d : History) → k < l.table-index → IsForgot l.number (get_or l.fn.tables k d) (get_or l.tables k d);
  left : (k : ℕ) (d : History) → l.table-index ≤ k → k < length l.fn.tables → get_or l.tables k d ≡ get_or l.fn.tables k d;
}
