-- Which sessions a lane serves whose others have none.
use Rattle.std.specs.Prelude.{ℕ, Bool, true, false, List, slice_index_or, slice_set}
use Rattle.std.specs.List.{filter, fold, range_with_len}
use Rattle.desk_values.specs.Limits.{session_limit}

-- with a session noted, where there is such a one
abbrev pub with_session : List Bool → ℕ → List Bool
with_session noted session = slice_set noted session true

-- with those of a lane
abbrev pub with_lane : List Bool → List ℕ → List Bool
with_lane noted lane = fold with_session noted lane

-- with those of a lane that no thread serves
abbrev pub taken_over : Bool → List Bool → List ℕ → List Bool
taken_over true noted lane = noted
taken_over false noted lane = with_lane noted lane

-- the sessions that are noted, ascending
unfoldable pub noted_sessions : List Bool → List ℕ
noted_sessions noted = filter (λ session. slice_index_or noted session false) (range_with_len 0 session_limit)
