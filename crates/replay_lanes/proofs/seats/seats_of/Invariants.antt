use Rattle.std.proofs.Common.{◌≡◌, ◌++◌}
use Rattle.replay_lanes.specs.Sessions.{seats}
use Rattle.replay_lanes.proofs.Seated.{others}
use Rattle.replay_lanes.proofs.seats.seats_of.Given as goal

abbrev pub invariant-loop-lane : goal.invariant-loop-lane
invariant-loop-lane l = l.seats ++ others l.calls l.lanes l.lane ≡ seats l.calls l.lanes
