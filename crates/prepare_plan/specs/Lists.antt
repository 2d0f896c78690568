-- The lists of sessions as contracts see them, and the words for their calls.
use Rattle.std.specs.Prelude.{List, map}
use Rattle.desk_values.specs.Room.{Room}
use Rattle.desk_values.specs.declared.capture.Captured.{Captured}
pub use Rattle.captured_calls.specs.Stamps.{all_calls, by_stamp}

-- the calls of each session
abbrev pub lists_of : List (Room Captured) → List (List Captured)
lists_of sessions = map (λ session. session.items) sessions
