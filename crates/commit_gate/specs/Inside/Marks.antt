-- What a mark stands for.
use Rattle.std.specs.Prelude.{◌≡◌, ℕ, ◌<◌, ◌≤◌, Bool, true, false, List, length, take, slice_index_or, count_by}
use Rattle.object_depends.specs.declared.fact.Fact.{Fact}
use Rattle.object_depends.specs.Facts.{fact_at, has_table}
use Rattle.commit_gate.specs.declared.mark.Watch.{Watch}
use Rattle.commit_gate.specs.declared.mark.Watch.TheVariants.{Table}
use Rattle.commit_gate.specs.declared.mark.Mark.{Mark}
use Rattle.commit_gate.specs.Gates.{is_in, watches}
use Rattle.desk_values.specs.Limits.{table_limit}

abbrev pub IsWatch : Watch → Type 0
IsWatch (Table table) = table < table_limit
IsWatch other = Unit {0}

-- each watched call below `at` is answered, and there are `count` of them
pub record IsPassed (watch : Watch) (facts : List Fact) (answered : List Bool) (at count : ℕ) : Type 0 where
  pub within : at ≤ length facts
  pub below : (j : ℕ) → j < at → watches watch (fact_at facts j) ≡ true → is_in answered j ≡ true
  pub counted : count ≡ count_by (watches watch) (take at facts)

-- so too, and the call at `at` is watched and not answered
pub record IsMark (watch : Watch) (facts : List Fact) (answered : List Bool) (mark : Mark) : Type 0 where
  pub passed : IsPassed watch facts answered mark.at mark.count
  pub here : mark.at < length facts → (watches watch (fact_at facts mark.at) ≡ true) × (is_in answered mark.at ≡ false)

-- a mark that has not moved
abbrev pub no_mark : Mark
no_mark = record { at = 0; count = 0 }

abbrev pub mark_at : List Mark → ℕ → Mark
mark_at marks table = slice_index_or marks table no_mark

-- the marks of the first n tables, by table
abbrev pub AreTableMarks : List Fact → List Bool → List Mark → ℕ → Type 0
AreTableMarks facts answered marks n = (table : ℕ) → table < n → IsMark (Table table) facts answered (mark_at marks table)

-- the marks of all tables in a set have come to a call
abbrev pub AreTablesPassed : List Mark → ℕ → ℕ → Type 0
AreTablesPassed marks refs k = (table : ℕ) → table < table_limit → has_table refs table ≡ true → k ≤ (mark_at marks table).at
