-- Which sessions take part in a replay, and which each lane serves.
use Rattle.std.specs.Prelude.{ℕ, Bool, ◌%◌, ◌&&◌, nat_eq, nat_lt, List, length, map}
use Rattle.std.specs.List.{filter, list_any, range_with_len}
use Rattle.desk_values.specs.declared.capture.Captured.{Captured}
use Rattle.desk_values.specs.Limits.{session_limit}

-- the session has a call
abbrev pub takes_part : List Captured → ℕ → Bool
takes_part calls session = list_any (λ call. nat_eq call.session session) calls

-- those that have one, ascending
unfoldable pub sessions : List Captured → List ℕ
sessions calls = filter (takes_part calls) (range_with_len 0 session_limit)

-- ---- by lane

-- the session is one of the lane's: it has a call, and leaves the lane's number where it is divided by how many lanes there are
abbrev pub is_seated : List Captured → ℕ → ℕ → ℕ → Bool
is_seated calls lanes lane session = nat_eq (session % lanes) lane && takes_part calls session

-- the sessions of a lane, ascending
unfoldable pub lane_sessions : List Captured → ℕ → ℕ → List ℕ
lane_sessions calls lanes lane = filter (is_seated calls lanes lane) (range_with_len 0 session_limit)

-- those of each lane that has some, by the lane's number
abbrev pub seats : List Captured → ℕ → List (List ℕ)
seats calls lanes = map (lane_sessions calls lanes) (filter (λ lane. nat_lt 0 (length (lane_sessions calls lanes lane))) (range_with_len 0 lanes))
