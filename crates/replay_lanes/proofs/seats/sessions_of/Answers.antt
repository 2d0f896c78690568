use Rattle.std.specs.Prelude.{IfOk}
use Rattle.std.proofs.Common.{◌≡◌, ℕ, List, subst}
use Rattle.replay_lanes.proofs.Seated.{whole_lane}
use Rattle.replay_lanes.proofs.seats.sessions_of.Goals as goal

pub returns : goal.returns
returns c = subst (λ (all : List ℕ). IfOk c.lane_of.result (λ its. its ≡ all)) (whole_lane c.args.calls.now) c.lane_of.ensures
