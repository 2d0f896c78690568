-- What stands of all connections that were served, and of the capture.
use Rattle.std.specs.Prelude.{◌≡◌, ℕ, ◌+◌, ◌<◌, ◌≤◌, ◌⊎◌, Bool, true, false, List, [], ◌∷◌, ◌++◌, length, min, count_by, Option, Some, IsSomeAnd}
use Rattle.desk_values.specs.declared.capture.Captured.{Captured}
use Rattle.desk_values.specs.Limits.{session_limit}
use Rattle.desk_schema.specs.Start.{StartView}
use Rattle.desk_files.specs.Outside.{Told, risen_by}
use Rattle.desk_files.specs.Hosts.{Connections, Handed, Returned}
use Rattle.server_words.specs.State.{is_connected}
use Rattle.capture_format.specs.SessionFile.{IsSessionFile, session_text}
use Rattle.captured_calls.specs.Sessions.{session_lists}
use Rattle.capture_recorder.specs.Listed.{AreBelow}
use Rattle.capture_recorder.specs.Recording.{IsRecording, Recording}
use Rattle.capture_http.specs.declared.conn_end.ConnEnd.{ConnEnd}
use Rattle.capture_http.specs.declared.conn_end.ConnEnd.TheVariants as ends
use Rattle.capture_serve.specs.Connections.{EachFrom, IsConnection, IsGivenBack}

-- memory was short in the connection
abbrev pub is_short : ConnEnd → Bool
is_short ends.Ended = false
is_short ends.Spent = false
is_short ends.SourceFault = false
is_short ends.SinkFault = false
is_short ends.Memory = true

-- The first of those waiting were taken, as many as were to be served or all that there were; each was served as the session of its
-- place, and they were given back in this order.
pub record AreServed (most : ℕ) (r : Recording) (ends : List ConnEnd) (before after : Connections) : Type 0 where
  pub sent : List (List ℕ)
  pub back : List Returned
  pub taken : before.waiting ≡ sent ++ after.waiting
  pub count : length sent ≡ min most (length before.waiting)
  pub returned : after.returned ≡ before.returned ++ back
  pub each : EachFrom (IsConnection r) 0 sent ends back

-- The first of those waiting were taken, at most so many; each was served as the session of its place, and they were given back in this order.
pub record AreGivenBack (most : ℕ) (before after : Connections) : Type 0 where
  pub sent : List (List ℕ)
  pub ends : List ConnEnd
  pub back : List Returned
  pub taken : before.waiting ≡ sent ++ after.waiting
  pub few : length sent ≤ most
  pub returned : after.returned ≡ before.returned ++ back
  pub each : EachFrom IsGivenBack 0 sent ends back

-- they were as many as were to be served, or all that there were
pub record AreAllGivenBack (most : ℕ) (before after : Connections) : Type 0 where
  pub given : AreGivenBack most before after
  pub count : length given.sent ≡ min most (length before.waiting)

-- where the host tells its connections, at most so many were taken, served and given back
abbrev pub HasGivenBack : ℕ → Option Connections → Option Connections → Type 0
HasGivenBack most before after = Told before (λ connections. IsSomeAnd after (AreGivenBack most connections))

-- and just so many, or all that there were
abbrev pub HasGivenBackAll : ℕ → Option Connections → Option Connections → Type 0
HasGivenBackAll most before after = Told before (λ connections. IsSomeAnd after (AreAllGivenBack most connections))

-- where the host tells its connections, some that were taken are not told as given back
abbrev pub HasLost : Option Connections → Option Connections → Type 0
HasLost before after = Told before (λ c. IsSomeAnd after (λ c'. length c'.returned + length c'.waiting < length c.returned + length c.waiting))

-- However serving ends, told or not: so many connections were taken, as many were given back, and the host listens at this port, unless none
-- was taken.
pub record IsHandedBack (most port : ℕ) (before after : Handed) : Type 0 where
  pub count : ℕ
  pub few : count ≤ most
  pub taken : after.taken ≡ risen_by count before.taken
  pub backs : after.backs ≡ risen_by count before.backs
  pub listens : (after.port ≡ Some port) ⊎ ((after.port ≡ before.port) × (count ≡ 0))

-- how many connections there were, how many of them were short of memory, how many calls were captured, and those of each session
pub record CaptureView : Type 0 where
  pub connections : ℕ
  pub short : ℕ
  pub calls : ℕ
  pub sessions : List (List Captured)

-- the file of this version of each session, from this one on, is read as its calls
abbrev pub AreReadFrom : ℕ → ℕ → List (List Captured) → Type 0
AreReadFrom version session [] = Unit {0}
AreReadFrom version session (calls ∷ lists) = IsSessionFile session version (session_text session version calls) calls × AreReadFrom version (session + 1) lists

-- What was captured is all that a recorder holds: a legal capture from the start, of as many sessions as there were connections. No session
-- is connected after its last call.
pub record IsCapture (start : StartView) (c : CaptureView) (r : Recording) : Type 0 where
  pub recording : IsRecording r
  pub start_is : r.start ≡ start
  pub calls : c.calls ≡ length r.calls
  pub below : AreBelow c.connections r.calls
  pub sessions : c.sessions ≡ session_lists c.connections r.calls
  pub off : (session : ℕ) → session < session_limit → is_connected r.state session ≡ false

-- what stands where at most so many connections were served, and nothing differed
pub record IsService (start : StartView) (most : ℕ) (c : CaptureView) (before after : Option Connections) : Type 0 where
  pub recording : Recording
  pub ends : List ConnEnd
  pub capture : IsCapture start c recording
  pub count : length ends ≡ c.connections
  pub few : c.connections ≤ most
  pub short : c.short ≡ count_by is_short ends
  pub served : Told before (λ connections. IsSomeAnd after (AreServed most recording ends connections))
