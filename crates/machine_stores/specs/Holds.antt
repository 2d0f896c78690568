-- What an index tells of what sessions hold.
use Rattle.std.specs.Prelude.{ℕ, Bool, ◌&&◌, nat_eq, List, ◌∷◌, ◌++◌, map, slice_index_or}
use Rattle.std.specs.List.{list_any}
use Rattle.desk_values.specs.declared.value.Value.{Value}
use Rattle.desk_values.specs.Comparison.{same_key}
use Rattle.server_words.specs.declared.session.Session.{Session}
use Rattle.server_words.specs.declared.session.HeldKey.{HeldKey}
use Rattle.hold_index.specs.Told.{AreTold, Told, own_or, print_in}
use Rattle.machine_stores.specs.declared.holds.Others.{Others}
use Rattle.server_words.specs.declared.session.Transaction.{Transaction}
use Rattle.server_words.specs.State.{disconnected}

-- a session holds the key of a table
abbrev pub holds_key : ℕ → ℕ → Value → Session → Bool
holds_key level table key session = list_any (λ (held : HeldKey). nat_eq held.table table && same_key level key held.key) session.own.keys

-- the prints of keys
abbrev pub prints_of : List HeldKey → List ℕ
prints_of keys = map (λ (held : HeldKey). print_in held.table held.key) keys

-- the rows that the sessions hold, by their numbers
abbrev pub rows_at : List Session → ℕ → List ℕ
rows_at sessions session = (slice_index_or sessions session disconnected).own.rows

-- the prints of the keys that they hold
abbrev pub prints_at : List Session → ℕ → List ℕ
prints_at sessions session = prints_of (slice_index_or sessions session disconnected).own.keys

-- what the sessions hold is told
abbrev pub AreHeld : Told → List Session → Type 0
AreHeld told sessions = AreTold told (rows_at sessions) (prints_at sessions)

-- what the sessions beside one hold is told
abbrev pub IsBeside : Others → Type 0
IsBeside others = (mine : Session) × AreHeld others.holds.now (others.before.now ++ mine ∷ others.after.now)

-- what a session's transaction holds is told, whatever the others hold
abbrev pub IsHolder : Told → ℕ → Transaction → Type 0
IsHolder told session own =
    (rows : ℕ → List ℕ) × (prints : ℕ → List ℕ) × AreTold told (own_or session own.rows rows) (own_or session (prints_of own.keys) prints)

-- the session holds what the one has in the place of what the other has, and all else is told as before
abbrev pub HoldsMove : Told → Told → ℕ → Transaction → Transaction → Type 0
HoldsMove old new session own next = (rows prints : ℕ → List ℕ)
    → AreTold old (own_or session own.rows rows) (own_or session (prints_of own.keys) prints)
    → AreTold new (own_or session next.rows rows) (own_or session (prints_of next.keys) prints)
