-- What holds of every state on the way to a start that keeps the rules.
use Rattle.std.specs.Prelude.{ℕ, ◌≡◌, ◌<◌, ◌≤◌, List, [], ◌∷◌, length}
use Rattle.std.specs.List.{AllByRecursion}
use Rattle.desk_values.specs.Limits.{session_limit}
use Rattle.desk_schema.specs.declared.schema.Table.{Table}
use Rattle.desk_schema.specs.Schema.{IsVersion}
use Rattle.desk_schema.specs.Start.{StartView}
use Rattle.desk_schema.specs.State.{State}
use Rattle.desk_schema.specs.Rules.{IsLevel}
use Rattle.desk_schema.specs.Sound.{IsSound, IsSoundNextRow}

-- each table but the last has columns, which may still be coming
abbrev pub HaveColumnsButLast : List Table → Type 0
HaveColumnsButLast [] = Unit {0}
HaveColumnsButLast (table ∷ []) = Unit {0}
HaveColumnsButLast (table ∷ next ∷ tables) = (1 ≤ length table.columns) × HaveColumnsButLast (next ∷ tables)

-- what has its turn later than the last line is not there yet
pub record IsInOrder (last : ℕ) (start : StartView) : Type 0 where
  pub version : 1 ≤ last → IsVersion start.schema.version
  pub level : 2 ≤ last → IsLevel start.schema.level
  pub no_sequences : last ≤ 2 → start.schema.sequences ≡ []
  pub no_services : last ≤ 3 → start.schema.services ≡ []
  pub no_tables : last ≤ 4 → start.schema.tables ≡ []
  pub some_table : 5 ≤ last → last ≤ 6 → 0 < length start.schema.tables
  pub no_rows : last ≤ 6 → start.rows ≡ []
  -- the columns of the last table come right after it
  pub begun : HaveColumnsButLast start.schema.tables
  pub whole : ¬ (last ≡ 5) → AllByRecursion (λ table. 1 ≤ length table.columns) start.schema.tables

-- what holds in every state that lines lead to
pub record IsSoundState (state : State) : Type 0 where
  pub order : IsInOrder state.last state.start
  pub sound : IsSound state.start
  pub next_row : 8 ≤ state.last → IsSoundNextRow state.start
  pub sessions : state.sessions ≤ session_limit
