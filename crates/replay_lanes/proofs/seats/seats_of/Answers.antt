use Rattle.std.proofs.Common.{◌∙◌, sym, arith, rules}
use Rattle.replay_lanes.proofs.Seated.{one_lane, no_lane}
use Rattle.replay_lanes.proofs.seats.seats_of.Goals.{then-not-is_empty+in_ok-push, else-not-is_empty}
use Rattle.replay_lanes.proofs.seats.seats_of.Goals as goal

pub loop-lane-preserved : goal.loop-lane-preserved
loop-lane-preserved c =
    let loop = c.loop-lane in
    elim c.if-not-is_empty.branch [
      | then-not-is_empty+in_ok-push w ↦ one_lane c.args.calls.now c.args.lanes loop.seats c.if-not-is_empty.seats c.in_ok-its.its loop.lane _ c.loop-lane-test.true c.in_ok-its.ensures (search (arith, rules)) (w.seats-is ∙ w.in_ok-push.ensures.ok) loop.invariant
      | else-not-is_empty w ↦ no_lane c.args.calls.now c.args.lanes loop.seats c.if-not-is_empty.seats c.in_ok-its.its loop.lane _ c.loop-lane-test.true c.in_ok-its.ensures (search (arith, rules)) w.seats-is loop.invariant
    ]
