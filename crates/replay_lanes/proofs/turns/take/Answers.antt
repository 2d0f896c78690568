use Rattle.std.proofs.Common.{◌∙◌, subst, sym}
use Rattle.std.specs.Prelude.{EachIndex, slice_index}
use Rattle.replay_job.specs.Job.{JobView}
use Rattle.replay_job.specs.Runs.{IsPick, NoneMayStart}
use Rattle.replay_lanes.proofs.Behind.{started_course}
use Rattle.replay_lanes.proofs.turns.take.Goals as goal

pub rest-requires-clause-held : goal.rest-requires-clause-held
rest-requires-clause-held g c =
    let history = g.C.Course.history c.args.desk.now in
    let lane = c.args.lane.now in
    subst (λ (job : JobView). EachIndex lane (λ i. NoneMayStart job history (slice_index lane i))) c.schedule-2.ensures.job (c.in-None.ensures history c.schedule-2.ensures.follows)

pub returns-in-Some : goal.returns-in-Some
returns-in-Some g c =
    let old = c.args.desk.now in
    let new = c.start.new.self in
    let history = g.C.Course.history old in
    let lane = c.args.lane.now in (
      sym c.schedule.ensures.stopped ∙ sym c.stopped.ensures ∙ c.if-stopped.false,
      subst (λ (job : JobView). IsPick job history lane c.in-Some.k) c.schedule-2.ensures.job (c.in-Some.ensures history c.schedule-2.ensures.follows),
      started_course (g.C.Course.job old) (g.C.Course.job new) history (g.C.Course.history new) (g.C.Course.stopped old) (g.C.Course.stopped new) c.in-Some.k c.start.result c.start.ensures.history c.start.ensures.job c.start.ensures.stopped,
    )
