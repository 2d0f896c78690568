use Rattle.std.proofs.Common.{◌≡◌, take}
use Rattle.std.specs.List.{fold}
use Rattle.replay_lanes.specs.Inside.Seats.{with_session}
use Rattle.replay_lanes.proofs.seats.join.Given as goal

abbrev pub invariant-loop-session : goal.invariant-loop-session
invariant-loop-session l = l.noted ≡ fold with_session l.fn.noted (take l.session-index l.lane)
