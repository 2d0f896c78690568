-- The transaction of a call: the calls of its session behind the last end before it, up to its own end.
use Rattle.std.specs.Prelude.{ℕ, nat_eq, nat_le, nat_lt, ◌&&◌, if◌then◌else◌, Bool, true, false, List, [], ◌∷◌, ◌++◌, Option, None, Some}
use Rattle.std.specs.List.{fold}
use Rattle.desk_values.specs.declared.capture.Captured.{Captured}
use Rattle.desk_values.specs.declared.call.Call.{Call}
use Rattle.desk_values.specs.declared.call.Call.TheVariants.{Connect, Sql, Disconnect}
use Rattle.desk_values.specs.declared.call.Outcome.{Outcome}
use Rattle.desk_values.specs.declared.call.Outcome.TheVariants.{Rows, Count, Committed, RolledBack, Marked, Connected, Disconnected, Refused}
use Rattle.sql_tree.specs.Plain.{Plan, rollback}
use Rattle.sql_reader.specs.Reading.{statement_of}

abbrev pub is_rollback_plan : {N : Type 0} → Option (Plan N) → Bool
is_rollback_plan None = false
is_rollback_plan (Some rollback) = true
is_rollback_plan (Some other) = false

-- the call rolls its whole transaction back, and not to a savepoint
abbrev pub is_rollback : Call → Bool
is_rollback (Connect service) = false
is_rollback (Sql text binds) = is_rollback_plan (statement_of text)
is_rollback Disconnect = false

abbrev pub ends_by : Outcome → Call → Bool
ends_by (Rows rows) call = false
ends_by (Count n) call = false
ends_by (Committed images) call = true
ends_by RolledBack call = is_rollback call
ends_by Marked call = false
ends_by Connected call = true
ends_by Disconnected call = true
ends_by (Refused fault) call = false

-- as it was captured the call ended a transaction
abbrev pub is_end : Captured → Bool
is_end call = ends_by call.reply.outcome call.call

-- a call of this session before this stamp
abbrev pub is_earlier : ℕ → ℕ → Captured → Bool
is_earlier session k call = nat_eq call.session session && nat_lt call.stamp k

-- a call of this session from this stamp on
abbrev pub is_later : ℕ → ℕ → Captured → Bool
is_later session k call = nat_eq call.session session && nat_le k call.stamp

-- what is kept behind an earlier call: nothing where it is an end
abbrev pub kept_behind : ℕ → ℕ → List Captured → Captured → List Captured
kept_behind session k kept call = if is_earlier session k call then (if is_end call then [] else kept ++ call ∷ []) else kept

-- the earlier calls behind the last end among them
abbrev pub behind_ends : ℕ → ℕ → List Captured → List Captured
behind_ends session k calls = fold (kept_behind session k) [] calls

-- the later calls up to the first end, with it
abbrev pub up_to_end : ℕ → ℕ → List Captured → List Captured
up_to_end session k [] = []
up_to_end session k (call ∷ calls) = if is_later session k call then (if is_end call then call ∷ [] else call ∷ up_to_end session k calls) else up_to_end session k calls

-- of the calls of a session: those before a stamp that are behind the last end, and those from there on up to the next
abbrev pub transaction_of : List Captured → ℕ → ℕ → List Captured
transaction_of calls session k = behind_ends session k calls ++ up_to_end session k calls
