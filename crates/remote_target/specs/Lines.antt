-- What is known of the lines that are given back.
use Rattle.std.specs.Prelude.{◌≡◌, ℕ, List, [], ◌∷◌, slice_get, Some}
use Rattle.desk_values.specs.declared.value.Value.{Value}
use Rattle.desk_values.specs.declared.value.Value.TheVariants as value
use Rattle.desk_values.specs.declared.call.Call.{Call}
use Rattle.desk_values.specs.declared.call.Call.TheVariants.{Connect, Sql, Disconnect}
use Rattle.desk_values.specs.declared.capture.Captured.{Captured}
use Rattle.captured_calls.specs.Sessions.{calls_of}
use Rattle.remote_link.specs.declared.heard.Heard.{Heard}

-- ---- the captured call, but that the service may be another, and ids that it binds

abbrev pub IsValueOf : Value → Value → Type 0
IsValueOf (value.Row a) (value.Row b) = Unit {0}
IsValueOf (value.Draw p a) (value.Draw q b) = p ≡ q
IsValueOf captured other = captured ≡ other

abbrev pub AreBindsOf : List Value → List Value → Type 0
AreBindsOf [] [] = Unit {0}
AreBindsOf (captured ∷ binds) (other ∷ others) = IsValueOf captured other × AreBindsOf binds others
AreBindsOf binds others = ⊥

abbrev pub IsSentFor : Call → Call → Type 0
IsSentFor (Connect service) (Connect other) = Unit {0}
IsSentFor (Sql text binds) (Sql other others) = (text ≡ other) × AreBindsOf binds others
IsSentFor Disconnect Disconnect = Unit {0}
IsSentFor captured other = ⊥

-- ---- a line

-- each call that a line was sent stands there at the place that it has in the session: so it was sent once at most, and in order
abbrev pub IsInOrder : List Captured → List Heard → Type 0
IsInOrder own list = (i : ℕ) (one : Heard) → slice_get list i ≡ Some one → (captured : Captured) × (slice_get own i ≡ Some captured) × IsSentFor captured.call one.call

-- lines of the first of these sessions, one each
abbrev pub AreLinesInOrder : List Captured → List ℕ → List (List Heard) → Type 0
AreLinesInOrder calls its [] = Unit {0}
AreLinesInOrder calls [] (list ∷ lists) = ⊥
AreLinesInOrder calls (session ∷ its) (list ∷ lists) = IsInOrder (calls_of session calls) list × AreLinesInOrder calls its lists
