-- What stands of a connection that was served, beside what was captured of its session.
use Rattle.std.specs.Prelude.{◌≡◌, ◌⊎◌, ℕ, ◌+◌, ◌-◌, ◌<◌, Bool, true, false, List, [], ◌∷◌, ◌++◌, length, slice_get, Option, None, Some, IfSome, IsSomeAnd, ⊤}
use Rattle.desk_values.specs.declared.call.Call.{Call}
use Rattle.desk_values.specs.declared.call.Call.TheVariants.{Connect, Sql, Disconnect}
use Rattle.desk_files.specs.Hosts.{Returned, either_failed}
use Rattle.capture_recorder.specs.declared.door.Said.{Said}
use Rattle.capture_recorder.specs.declared.door.Turned.{Turned}
use Rattle.capture_recorder.specs.Doors.{IsClosing}
use Rattle.capture_recorder.specs.Agreement.{IsBorneOut}
use Rattle.capture_recorder.specs.Gathering.{kept_in}
use Rattle.capture_recorder.specs.Recording.{Recording}
use Rattle.capture_http.specs.declared.conn_end.ConnEnd.{ConnEnd}
use Rattle.capture_http.specs.Conversation.{AreOpen, IsTurn, answers, own_of, said_of}
use Rattle.http_requests.specs.Requests.{IsUnfinished}
use Rattle.capture_http.specs.Limits.{request_limit}
use Rattle.capture_http.specs.Ends.{Course, Ends, Serves, ends_of, turns_of}

-- a connection that sent these bytes, as it comes: nothing is answered, and nothing is said
abbrev pub comes : List ℕ → Ends
comes sent = ends_of (Some sent) 0 (Some []) 0 [] []

-- ---- the end of a session

abbrev pub is_disconnect : Call → Bool
is_disconnect (Connect service) = false
is_disconnect (Sql text binds) = false
is_disconnect Disconnect = true

abbrev pub disconnects : Option Said → Bool
disconnects None = false
disconnects (Some said) = is_disconnect said.call

-- the last call that was said is a disconnect
abbrev pub is_closed : List Said → Bool
is_closed said = disconnects (slice_get said (length said - 1))

-- ---- one connection

-- This connection sent these bytes, was served as this session until this end, and was given back.
pub record IsGivenBack (session : ℕ) (sent : List ℕ) (end : ConnEnd) (returned : Returned) : Type 0 where
  pub input_faults : ℕ
  pub output_faults : ℕ
  pub said : List Said
  pub turned : List Turned
  pub conversation : Serves end session (comes sent) (ends_of (Some returned.rest) input_faults (Some returned.output) output_faults said turned)
  pub failed : returned.failed ≡ either_failed input_faults output_faults

-- What is recorded of its session is what was said in it, and then at most one disconnect more, none behind another; and the recorder bears out
-- each call that was turned away.
pub record IsConnection (r : Recording) (session : ℕ) (sent : List ℕ) (end : ConnEnd) (returned : Returned) : Type 0 where
  pub served : IsGivenBack session sent end returned
  pub more : List Said
  pub closing : IsClosing more
  pub once : is_closed served.said ≡ true → more ≡ []
  pub recorded : kept_in r.calls session ≡ served.said ++ more
  pub borne_out : (n : ℕ) (entry : Turned) → slice_get served.turned n ≡ Some entry → IsBorneOut r.start.rows r.calls session entry

-- what stands of each connection, each the next session, from this one on
abbrev pub EachFrom : (ℕ → List ℕ → ConnEnd → Returned → Type 0) → ℕ → List (List ℕ) → List ConnEnd → List Returned → Type 0
EachFrom stands session [] [] [] = ⊤
EachFrom stands session (sent ∷ others) (end ∷ ends) (returned ∷ back) = stands session sent end returned × EachFrom stands (session + 1) others ends back
EachFrom stands session sent ends back = ⊥

-- ---- whole connections

-- A conversation came to its end, with these bytes left: its last request closed the connection, or was the last that is answered on one, or
-- all bytes were read and ended before a whole request.
abbrev pub CameToEnd : Course → List ℕ → Type 0
CameToEnd course left =
    (IsSomeAnd course.last (λ t. t.request.decision.closes ≡ true) × (length course.earlier + 1 < request_limit))
    ⊎ ((IsSomeAnd course.last IsTurn × (length course.earlier + 1 ≡ request_limit))
    ⊎ ((course.last ≡ None) × (length course.earlier < request_limit) × IsUnfinished course.rest × (left ≡ [])))

-- A connection is whole: of the bytes that it sent these requests were read, and then others, to the end of a conversation; it was given just their
-- answers, and just their calls are recorded of its session, with their replies, and then at most one disconnect.
pub record IsWhole (r : Recording) (session : ℕ) (sent : List ℕ) (returned : Returned) : Type 0 where
  pub course : Course
  pub more : List Said
  pub goes_on : AreOpen course.earlier
  pub is_turn : IfSome course.last IsTurn
  pub came : CameToEnd course returned.rest
  pub taken : sent ≡ own_of (turns_of course) ++ (course.rest ++ returned.rest)
  pub answered : returned.output ≡ answers session (turns_of course)
  pub closing : IsClosing more
  pub recorded : kept_in r.calls session ≡ said_of (turns_of course) ++ more
