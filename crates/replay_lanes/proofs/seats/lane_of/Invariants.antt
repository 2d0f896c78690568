use Rattle.std.proofs.Common.{◌≡◌, ◌++◌}
use Rattle.desk_values.specs.Limits.{session_limit}
use Rattle.replay_lanes.specs.Sessions.{is_seated, lane_sessions}
use Rattle.replay_lanes.proofs.Ranges.{passing}
use Rattle.replay_lanes.proofs.seats.lane_of.Given as goal

abbrev pub invariant-loop-session : goal.invariant-loop-session
invariant-loop-session l = l.its ++ passing (is_seated l.calls l.lanes l.lane) l.session session_limit ≡ lane_sessions l.calls l.lanes l.lane
