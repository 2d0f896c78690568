use Rattle.std.proofs.Common.{◌⊎◌, subst}
use Rattle.replay_history.specs.History.{IsWaiting}
use Rattle.replay_job.specs.Job.{JobView}
use Rattle.replay_job.specs.Runs.{IsFirstOpen, MayStart}
use Rattle.replay_lanes.specs.Inside.Courses.{course_of}
use Rattle.replay_lanes.proofs.Behind.{answered_course, behind_more}
use Rattle.replay_lanes.proofs.finishing.finish.Goals as goal

pub loop-turn-preserved : goal.loop-turn-preserved
loop-turn-preserved g c =
    let job = g.A.Course.job in
    let history = g.A.Course.history in
    let stopped = g.A.Course.stopped in
    let old = c.args.desk.now in
    let desk = c.loop-turn.desk in
    let begun = c.begin.new.desk in
    let new = c.answer.new.self in
    let first = subst (λ (j : JobView). IsFirstOpen j (history desk) c.in-Some.k) c.schedule-in-loop-turn.ensures.job (c.in-Some.ensures.least (history desk) c.schedule-in-loop-turn.ensures.follows) in
    behind_more (course_of (job old) (history old) (stopped old)) (course_of (job desk) (history desk) (stopped desk)) c.loop-turn._turn c.loop-turn.invariant c.in-Some.k
    (course_of (job begun) (history begun) (stopped begun)) (course_of (job new) (history new) (stopped new)) c.begin.ensures.begun
    (answered_course (job begun) (job new) (history begun) (history new) (stopped begun) (stopped new) c.in-Some.k c.in_ok-answer.ensures.ok c.in_ok-answer.ensures.job c.in_ok-answer.ensures.stopped)
    first

pub begin-requires-clause-open : goal.begin-requires-clause-open
begin-requires-clause-open g c κs within =
    let history = g.A.Course.history c.loop-turn.desk in
    subst (λ (j : JobView). IsWaiting history c.in-Some.k ⊎ MayStart j history c.in-Some.k) c.schedule-in-loop-turn.ensures.job (c.in-Some.ensures.never_stuck history c.schedule-in-loop-turn.ensures.follows)
