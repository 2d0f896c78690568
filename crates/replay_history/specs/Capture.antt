-- Which calls are a legal capture, whatever machine answers them.
use Rattle.std.specs.Prelude.{◌≡◌, ℕ, ◌+◌, ◌<◌, ◌≤◌, ◌⊎◌, Bool, true, false, IsTrue, if◌then◌else◌, nat_eq, Some, List, [], ◌∷◌, length, take, count_by}
use Rattle.std.specs.List.{AllByRecursion, Any}
use Rattle.desk_values.specs.Limits.{session_limit}
use Rattle.replay_history.specs.Limits.{call_limit}
use Rattle.desk_values.specs.declared.value.Value.{Value}
use Rattle.desk_values.specs.declared.value.Value.TheVariants.{Row, Draw}
use Rattle.desk_values.specs.declared.value.Image.{Image}
use Rattle.desk_values.specs.declared.call.Call.{Call}
use Rattle.desk_values.specs.declared.call.Call.TheVariants.{Connect, Sql, Disconnect}
use Rattle.desk_values.specs.declared.call.Outcome.{Outcome}
use Rattle.desk_values.specs.declared.call.Outcome.TheVariants.{Rows, Count, Committed, RolledBack, Marked, Connected, Disconnected, Refused}
use Rattle.desk_values.specs.declared.call.Reply.{Reply}
use Rattle.desk_values.specs.declared.capture.Captured.{Captured}
use Rattle.desk_values.specs.Ids.{is_id, ids_of_image}
use Rattle.replay_history.specs.Gap.{IsCallAt, IsJustBefore}

-- the reply is that of a numbered commit: it committed something
abbrev pub commits : Outcome → Bool
commits (Committed (image ∷ images)) = true
commits (Committed []) = false
commits (Rows rows) = false
commits (Count n) = false
commits RolledBack = false
commits Marked = false
commits Connected = false
commits Disconnected = false
commits (Refused fault) = false

-- how many calls of a session stand before a stamp
abbrev pub session_calls_before : List Captured → ℕ → ℕ → ℕ
session_calls_before calls session k = count_by (λ (call : Captured). nat_eq call.session session) (take k calls)

-- the call stands behind as many of its session as its place says
abbrev pub HasPlace : List Captured → ℕ → Captured → Type 0
HasPlace calls k call = call.place ≡ session_calls_before calls call.session k

-- how many numbered commits are among the calls
abbrev pub commits_in : List Captured → ℕ
commits_in calls = count_by (λ (call : Captured). commits call.reply.outcome) calls

-- and before a stamp
abbrev pub commits_before : List Captured → ℕ → ℕ
commits_before calls k = commits_in (take k calls)

-- the number of a call with this outcome behind these calls: the next one where it is a numbered commit, else 0
abbrev pub number_behind : List Captured → Outcome → ℕ
number_behind before outcome = if commits outcome then commits_in before + 1 else 0

-- the number of a call with this stamp
abbrev pub number_of : List Captured → ℕ → Captured → ℕ
number_of calls k call = number_behind (take k calls) call.reply.outcome

-- the values of a call's binds
abbrev pub binds_of : Call → List Value
binds_of (Connect service) = []
binds_of (Sql text binds) = binds
binds_of Disconnect = []

-- the value is no id, or one that this reply drew or made
abbrev pub IsGivenBy : Value → Reply → Type 0
IsGivenBy (Row n) reply = reply.made ≡ Some n
IsGivenBy (Draw sequence n) reply = Any (λ drawn. drawn ≡ Draw sequence n) reply.draws
IsGivenBy other reply = ⊥

-- the id stands in the rows that a capture begins with: as a row's number, or as a value of a row
abbrev pub StandsIn : List Image → Value → Type 0
StandsIn rows id = Any (λ image. Any (λ other. other ≡ id) (ids_of_image image)) rows

-- each id was there when the call with this stamp began
abbrev pub IsKnown : List Image → List Captured → ℕ → Value → Type 0
IsKnown rows calls k value = IsTrue (is_id value) → StandsIn rows value ⊎ ((j : ℕ) × (call : Captured) × (j < k) × IsCallAt calls j call × IsGivenBy value call.reply)

-- The calls, one after the other, are answered so by a machine: `gives s session call reply t` says that in the state s
-- a session's call is given this reply and leaves the state t.
abbrev pub IsRun : {S : Type 0} → (S → ℕ → Call → Reply → S → Type 0) → S → List Captured → S → Type 0
IsRun gives first [] last = first ≡ last
IsRun {S} gives first (call ∷ calls) last = (next : S) × gives first call.session call.call call.reply next × IsRun gives next calls last

-- what is said of each call by itself and the calls before it
pub record FitsIn (rows : List Image) (calls : List Captured) (k : ℕ) (call : Captured) : Type 0 where
  pub stamp : call.stamp ≡ k
  pub session : call.session < session_limit
  pub place : HasPlace calls k call
  pub number : call.number ≡ number_of calls k call
  pub seen : call.seen ≡ commits_before calls k
  pub ends : call.began ≤ call.ended
  pub follows : (j : ℕ) (before : Captured) → IsCallAt calls j before → IsJustBefore before call → before.ended ≤ call.began
  pub known : AllByRecursion (IsKnown rows calls k) (binds_of call.call)

-- Calls by stamp that a server which began with these rows may have answered, each with the reply that the machine gives.
pub record IsLegalCapture {S : Type 0} (rows : List Image) (gives : S → ℕ → Call → Reply → S → Type 0)
    (first : S) (calls : List Captured) : Type 0 where
  pub count : length calls ≤ call_limit
  pub each : (k : ℕ) (call : Captured) → IsCallAt calls k call → FitsIn rows calls k call
  pub replies : (last : S) × IsRun gives first calls last
