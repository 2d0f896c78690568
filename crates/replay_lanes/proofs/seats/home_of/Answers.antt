use Rattle.std.proofs.Common.{◌∙◌, ℕ, false, sym, ap, arith, rules}
use Rattle.std.specs.Prelude.{slice_index_or}
use Rattle.desk_values.specs.Limits.{session_limit}
use Rattle.desk_values.specs.Room.{Room}
use Rattle.replay_lanes.proofs.Ranges.{one_more, passed_over}
use Rattle.replay_lanes.proofs.Seated.{home_begins, succeeds}
use Rattle.replay_lanes.proofs.seats.home_of.Goals.{then-noted-session, else-noted-session}
use Rattle.replay_lanes.proofs.seats.home_of.Goals as goal

pub loop-session-init : goal.loop-session-init
loop-session-init c = λ none room. (home_begins c.args.noted.now c.args.empty.items none, room)

pub loop-session-preserved : goal.loop-session-preserved
loop-session-preserved c = λ none room.
    let test = λ (session : ℕ). slice_index_or c.args.noted.now session false in
    let loop = c.loop-session in
    let so_far = loop.invariant none room in
    let left = so_far.1 in
    elim c.if-noted-session.branch [
      | then-noted-session w ↦
          let spare = w.push.ensures.spare in
          let same = ap (λ (r : Room ℕ). r.spare) w.home-is in
          (one_more test loop.home.items c.if-noted-session.home.items loop.session session_limit _ c.loop-session-test.true w.if-noted-session.true (ap (λ (r : Room ℕ). r.items) w.home-is ∙ succeeds w.push.result (w.push.ensures.succeeds (let below = c.loop-session-test.true in omega (arith, left, below))) w.push.ensures.ok) so_far.0, omega (arith, left, spare, same))
      | else-noted-session w ↦
          let same = ap (λ (r : Room ℕ). r.spare) w.home-is in
          (passed_over test loop.home.items c.if-noted-session.home.items loop.session session_limit _ c.loop-session-test.true w.if-noted-session.false (ap (λ (r : Room ℕ). r.items) w.home-is) so_far.0, omega (arith, left, same))
    ]
