-- The numbers that a state gives out next, and the ids below them.
use Rattle.std.specs.Prelude.{ℕ, ◌<◌, ◌≤◌, slice_index}
use Rattle.std.specs.List.{AllByRecursion}
use Rattle.desk_values.specs.declared.value.Value.{Value}
use Rattle.desk_values.specs.declared.value.Value.TheVariants.{Row, Draw}
use Rattle.server_words.specs.State.{State}

-- the id is below the one of its kind that the state gives out next: the state gives it out no more
abbrev pub IsPassed : State → Value → Type 0
IsPassed state (Row n) = n < state.next_row
IsPassed state (Draw sequence n) = n < slice_index state.next_values sequence
IsPassed state other = Unit {0}

-- the next row and the next value of each sequence are at most this
pub record AreAtMost (bound : ℕ) (state : State) : Type 0 where
  pub next_row : state.next_row ≤ bound
  pub next_values : AllByRecursion (λ next. next ≤ bound) state.next_values

-- the number of an id is below this
abbrev pub IsBelow : ℕ → Value → Type 0
IsBelow bound (Row n) = n < bound
IsBelow bound (Draw sequence n) = n < bound
IsBelow bound other = Unit {0}
