use Rattle.std.proofs.Common.{◌≡◌, ◌++◌, ◌≤◌, ◌-◌, [], slice_index_or, false}
use Rattle.desk_values.specs.Limits.{session_limit}
use Rattle.replay_lanes.specs.Inside.Seats.{noted_sessions}
use Rattle.replay_lanes.proofs.Ranges.{passing}
use Rattle.replay_lanes.proofs.seats.home_of.Given as goal

abbrev pub invariant-loop-session : goal.invariant-loop-session
invariant-loop-session l = l.fn.empty.items ≡ [] → session_limit ≤ l.fn.empty.spare →
    (l.home.items ++ passing (λ session. slice_index_or l.noted session false) l.session session_limit ≡ noted_sessions l.noted)
    × (session_limit - l.session ≤ l.home.spare)
