-- What sessions hold.
use Rattle.std.specs.Prelude.{ℕ, ◌+◌, ◌-◌, Bool, ◌&&◌, true, false, nat_eq, if◌then◌else◌, List, [], ◌∷◌, ◌++◌, Option, None, Some, Result, Err}
use Rattle.std.specs.Map.{lookup}
use Rattle.desk_values.specs.declared.value.Value.{Value}
use Rattle.desk_values.specs.declared.value.Value.TheVariants.{Text}
use Rattle.desk_values.specs.Comparison.{same_key}
use Rattle.lock_table.specs.declared.holds.KeyHold.{KeyHold}
use Rattle.lock_table.specs.declared.holds.LockErr.{LockErr}
use Rattle.lock_table.specs.declared.holds.LockErr.TheVariants.{Held}

pub record Holds : Type 0 where
  -- how keys compare
  pub level : ℕ
  -- each row that is held, with who holds it, in the order of holding; no row stands twice
  pub rows : List (ℕ × ℕ)
  -- the keys likewise
  pub keys : List KeyHold
  -- how many rows and keys more can be held without asking for memory
  pub row_room : ℕ
  pub key_room : ℕ

abbrev pub holder_of_row : List (ℕ × ℕ) → ℕ → Option ℕ
holder_of_row rows row = lookup (nat_eq row) rows

-- the hold is of this key of the table
abbrev pub is_of_key : ℕ → ℕ → Value → KeyHold → Bool
is_of_key level table key hold = nat_eq hold.table table && same_key level hold.key key

abbrev pub holder_of_key : ℕ → List KeyHold → ℕ → Value → Option ℕ
holder_of_key level [] table key = None
holder_of_key level (hold ∷ holds) table key = if is_of_key level table key hold then Some hold.session else holder_of_key level holds table key

-- the holder, where it is another session
abbrev pub another : ℕ → Option ℕ → Option ℕ
another session None = None
another session (Some holder) = if nat_eq holder session then None else Some holder

-- with a hold that comes last, unless it is there
abbrev pub with_hold : {X : Type 0} → Option ℕ → List X → X → List X
with_hold None holds hold = holds ++ hold ∷ []
with_hold (Some holder) holds hold = holds

-- the session that a refusal names
abbrev pub named : {X : Type 0} → Result X LockErr → Option ℕ
named (Err (Held session)) = Some session
named other = None

abbrev pub is_text : Value → Bool
is_text (Text text) = true
is_text other = false

-- how many of them are the session's
abbrev pub count_of : {X : Type 0} → (X → Bool) → List X → ℕ
count_of is_own [] = 0
count_of is_own (hold ∷ holds) = if is_own hold then count_of is_own holds + 1 else count_of is_own holds

-- the others', and the first so many of the session's
abbrev pub with_first : {X : Type 0} → (X → Bool) → ℕ → List X → List X
with_first is_own n [] = []
with_first is_own n (hold ∷ holds) =
    if is_own hold then (if nat_eq n 0 then with_first is_own 0 holds else hold ∷ with_first is_own (n - 1) holds) else hold ∷ with_first is_own n holds

abbrev pub is_row_of : ℕ → (ℕ × ℕ) → Bool
is_row_of session hold = nat_eq hold.1 session

abbrev pub is_key_of : ℕ → KeyHold → Bool
is_key_of session hold = nat_eq hold.session session
