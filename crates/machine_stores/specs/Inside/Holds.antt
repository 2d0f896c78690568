-- Whether a holder is one of several sessions.
use Rattle.std.specs.Prelude.{ℕ, ◌-◌, Bool, false, ◌&&◌, nat_le, nat_lt, Option, None, Some}

-- one of so many sessions is told, from this one on
abbrev pub is_within : ℕ → ℕ → Option ℕ → Bool
is_within first count None = false
is_within first count (Some session) = nat_le first session && nat_lt (session - first) count
