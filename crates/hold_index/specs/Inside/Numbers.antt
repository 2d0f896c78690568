-- Numbers as they are kept.
use Rattle.std.specs.Prelude.{ℕ, Bool, true, Option, None, Some, nat_eq}
use Rattle.std.specs.HashMap.{get}
use Rattle.hold_index.specs.declared.numbers.Numbers.{Numbers}

abbrev pub session_of : Numbers → ℕ → Option ℕ
session_of numbers number = get nat_eq numbers.sessions number

-- no other session is told
abbrev pub is_free : ℕ → Option ℕ → Bool
is_free session None = true
is_free session (Some other) = nat_eq session other
