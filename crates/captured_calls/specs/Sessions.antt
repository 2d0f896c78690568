-- The calls of each session.
use Rattle.std.specs.Prelude.{ℕ, ◌+◌, Bool, nat_eq, List, [], ◌∷◌, map}
use Rattle.std.specs.List.{filter, range_with_len}
use Rattle.desk_values.specs.declared.capture.Captured.{Captured}
use Rattle.capture_format.specs.SessionFile.{AreCallsOf}

abbrev pub is_of : ℕ → Captured → Bool
is_of session call = nat_eq call.session session

-- the calls of a session, in their order
abbrev pub calls_of : ℕ → List Captured → List Captured
calls_of session calls = filter (is_of session) calls

-- those of each session below this number
abbrev pub session_lists : ℕ → List Captured → List (List Captured)
session_lists count calls = map (λ session. calls_of session calls) (range_with_len 0 count)

-- the calls of each session, by the sessions' numbers from this one on
abbrev pub AreSessionsFrom : ℕ → List (List Captured) → Type 0
AreSessionsFrom session [] = Unit {0}
AreSessionsFrom session (calls ∷ lists) = AreCallsOf session calls × AreSessionsFrom (session + 1) lists
