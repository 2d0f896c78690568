use Rattle.std.proofs.Common.{◌∙◌, sym}
use Rattle.desk_values.specs.Limits.{session_limit}
use Rattle.replay_lanes.specs.Sessions.{is_seated}
use Rattle.replay_lanes.proofs.Ranges.{one_more, passed_over}
use Rattle.replay_lanes.proofs.Seated.{lane_begins}
use Rattle.replay_lanes.proofs.seats.lane_of.Goals.{then-is_seated+in_ok-push, else-is_seated}
use Rattle.replay_lanes.proofs.seats.lane_of.Goals as goal

pub loop-session-init : goal.loop-session-init
loop-session-init c = lane_begins c.args.calls.now c.args.lanes c.args.lane c.new-its.result c.new-its.ensures

pub loop-session-preserved : goal.loop-session-preserved
loop-session-preserved c =
    let test = is_seated c.args.calls.now c.args.lanes c.args.lane in
    let loop = c.loop-session in
    elim c.if-is_seated.branch [
      | then-is_seated+in_ok-push w ↦ one_more test loop.its c.if-is_seated.its loop.session session_limit _ c.loop-session-test.true (sym c.is_seated.ensures ∙ w.if-is_seated.true) (w.its-is ∙ w.in_ok-push.ensures.ok) loop.invariant
      | else-is_seated w ↦ passed_over test loop.its c.if-is_seated.its loop.session session_limit _ c.loop-session-test.true (sym c.is_seated.ensures ∙ w.if-is_seated.false) w.its-is loop.invariant
    ]
