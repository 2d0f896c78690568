-- What the server gave out since it began.
use Rattle.std.specs.Prelude.{ℕ, Bool, false, List, Some, slice_get}
use Rattle.desk_values.specs.declared.value.Value.{Value}
use Rattle.desk_values.specs.declared.value.Value.TheVariants.{Row, Draw}
use Rattle.desk_schema.specs.Start.{StartView}
use Rattle.server_words.specs.State.{is_between}

-- the id was given out before the server came to give these numbers out next
abbrev pub is_later : StartView → ℕ → List ℕ → Value → Bool
is_later start next_row next_values (Row n) = is_between (Some start.next_row) (Some next_row) n
is_later start next_row next_values (Draw sequence n) = is_between (slice_get start.next_values sequence) (slice_get next_values sequence) n
is_later start next_row next_values other = false
