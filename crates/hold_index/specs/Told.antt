-- What is told of who holds rows and keys.
use Rattle.std.specs.Prelude.{◌≡◌, ℕ, ◌+◌, ◌*◌, ◌^◌, ◌%◌, Bool, true, false, nat_eq, if◌then◌else◌, List, Option, None, Some}
use Rattle.std.specs.List.{list_any}
use Rattle.std.specs.Map.{lookup}
use Rattle.desk_values.specs.declared.value.Value.{Value}
use Rattle.same_keys.specs.Print.{print_of}

pub record Told : Type 0 where
  -- whether it is kept; else nothing is told
  pub is_kept : Bool
  -- rows, each with its session
  pub rows : List (ℕ × ℕ)
  -- prints of keys, likewise
  pub prints : List (ℕ × ℕ)

-- the session of a number
abbrev pub session_in : List (ℕ × ℕ) → ℕ → Option ℕ
session_in told number = lookup (nat_eq number) told

-- the print of a key of a table: tables have prints of their own, but for chance
abbrev pub print_in : ℕ → Value → ℕ
print_in table key = (table * 11400714819323198485 % 2 ^ 64 + print_of key) % 2 ^ 64

-- this session is told
abbrev pub is_told : ℕ → Option ℕ → Bool
is_told session None = false
is_told session (Some other) = nat_eq session other

-- what a session has, in the place of what the rest says of it
abbrev pub own_or : ℕ → List ℕ → (ℕ → List ℕ) → ℕ → List ℕ
own_or session list rest other = if nat_eq other session then list else rest other

-- of each number just the sessions are told that have it
abbrev pub TellsEach : (ℕ → Option ℕ) → (ℕ → List ℕ) → Type 0
TellsEach told held = (session n : ℕ) → list_any (nat_eq n) (held session) ≡ is_told session (told n)

-- where it is kept, it tells the rows and the prints of keys that sessions hold
pub record AreTold (told : Told) (rows prints : ℕ → List ℕ) : Type 0 where
  pub of_rows : told.is_kept ≡ true → TellsEach (session_in told.rows) rows
  pub of_prints : told.is_kept ≡ true → TellsEach (session_in told.prints) prints

-- a session has these rows in the place of those, and all else is told as before
abbrev pub RowsMove : Told → Told → ℕ → List ℕ → List ℕ → Type 0
RowsMove old new session list next = (rest prints : ℕ → List ℕ) → AreTold old (own_or session list rest) prints → AreTold new (own_or session next rest) prints

-- the same of prints
abbrev pub PrintsMove : Told → Told → ℕ → List ℕ → List ℕ → Type 0
PrintsMove old new session list next = (rows rest : ℕ → List ℕ) → AreTold old rows (own_or session list rest) → AreTold new rows (own_or session next rest)
