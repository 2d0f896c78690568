use Rattle.std.proofs.Common.{◌∙◌, [], inr, length, refl, subst, sym, arith}
use Rattle.std.proofs.lemmas.List.{append-nil}
use Rattle.replay_job.specs.Job.{JobView}
use Rattle.replay_job.specs.Runs.{IsPick}
use Rattle.replay_lanes.specs.Finishing.{GoesOn, NoneIsLeft, StartsArePicks}
use Rattle.replay_lanes.specs.Inside.Courses.{course_of}
use Rattle.replay_lanes.proofs.Behind.{IsBehind, answer_more, answered_course, begun_is, behind_still, no_picks, on_and_on, picks_begun, picks_more}
use Rattle.replay_lanes.proofs.Counting.{all_ended, none_answered, one_answered}
use Rattle.replay_lanes.proofs.finishing.run_alone.Goals as goal

pub loop-turn-init : goal.loop-turn-init
loop-turn-init g c = record {
  job_is = refl;
  going = c.requires;
  goes_on = ([], sym (append-nil (g.A.Course.history c.args.desk.now)));
  picks = no_picks (g.A.Course.job c.args.desk.now) c.args.lane.now (g.A.Course.history c.args.desk.now);
  far = none_answered (length (g.A.Course.job c.args.desk.now).calls) (g.A.Course.history c.args.desk.now);
}

pub loop-turn-preserved : goal.loop-turn-preserved
loop-turn-preserved g c =
    let job = g.A.Course.job in
    let history = g.A.Course.history in
    let stopped = g.A.Course.stopped in
    let old = c.args.desk.now in
    let desk = c.loop-turn.desk in
    let begun = c.begin.new.desk in
    let new = c.answer.new.self in
    let inv = c.loop-turn.invariant in
    let first = course_of (job old) (history old) (stopped old) in
    let now = course_of (job desk) (history desk) (stopped desk) in
    let behind : IsBehind first now 0 = record { job_is = inv.job_is; going = inv.going; goes_on = inv.goes_on; front = λ j below. absurd (omega (arith, below)) } in
    let answer = answered_course (job begun) (job new) (history begun) (history new) (stopped begun) (stopped new) c.in-Some.k c.in_ok-answer.ensures.ok c.in_ok-answer.ensures.job c.in_ok-answer.ensures.stopped in
    let still = behind_still first now 0 behind c.in-Some.k
    (course_of (job begun) (history begun) (stopped begun)) (course_of (job new) (history new) (stopped new)) c.begin.ensures.begun answer in
    let pick = subst (λ (j : JobView). IsPick j (history desk) c.args.lane.now c.in-Some.k) (c.schedule.ensures.job ∙ inv.job_is) (c.in-Some.ensures (history desk) c.schedule.ensures.follows) in
    let more = answer_more now (course_of (job begun) (history begun) (stopped begun)) (course_of (job new) (history new) (stopped new)) c.in-Some.k c.begin.ensures.begun answer in
    record {
      job_is = still.job_is;
      going = still.going;
      goes_on = still.goes_on;
      picks = picks_more (job old) c.args.lane.now (history old) now (course_of (job begun) (history begun) (stopped begun)) c.in-Some.k inv.picks pick
          (course_of (job new) (history new) (stopped new)) c.begin.ensures.begun answer;
      far = one_answered (job old) (history desk) c.in-Some.k pick.0 c.loop-turn._turn inv.far (history new) more.0 more.1;
    }

pub begin-requires-clause-open : goal.begin-requires-clause-open
begin-requires-clause-open g c κs within =
    let history = g.A.Course.history c.loop-turn.desk in
    inr (subst (λ (j : JobView). IsPick j history c.args.lane.now c.in-Some.k) c.schedule.ensures.job (c.in-Some.ensures history c.schedule.ensures.follows)).0

pub returns-in_default-clause-ends : goal.returns-in_default-clause-ends
returns-in_default-clause-ends g c =
    let history = g.A.Course.history c.loop-turn.desk in
    subst (λ (j : JobView). NoneIsLeft j c.args.lane.now history) (c.schedule.ensures.job ∙ c.loop-turn.invariant.job_is) (c.in_default.ensures history c.schedule.ensures.follows)

pub returns-clause-ends : goal.returns-clause-ends
returns-clause-ends g c =
    let count = c.count_of-count.ensures in
    all_ended (g.A.Course.job c.args.desk.now) c.args.lane.now c.loop-turn._turn (g.A.Course.history c.loop-turn.desk) (omega (arith, count, c.loop-turn-test.false)) c.loop-turn.invariant.far

pub returns-in_err-answer-clause-picks : goal.returns-in_err-answer-clause-picks
returns-in_err-answer-clause-picks g c =
    let job = g.A.Course.job in
    let history = g.A.Course.history in
    let stopped = g.A.Course.stopped in
    let old = c.args.desk.now in
    let desk = c.loop-turn.desk in
    let begun = c.begin.new.desk in
    let inv = c.loop-turn.invariant in
    let pick = subst (λ (j : JobView). IsPick j (history desk) c.args.lane.now c.in-Some.k) (c.schedule.ensures.job ∙ inv.job_is) (c.in-Some.ensures (history desk) c.schedule.ensures.follows) in
    subst (StartsArePicks (job old) c.args.lane.now (history old)) (sym c.in_err-answer.ensures.err)
    (picks_begun (job old) c.args.lane.now (history old) (course_of (job desk) (history desk) (stopped desk)) (course_of (job begun) (history begun) (stopped begun)) c.in-Some.k inv.picks pick c.begin.ensures.begun)

pub returns-in_err-answer-clause-goes_on : goal.returns-in_err-answer-clause-goes_on
returns-in_err-answer-clause-goes_on g c =
    let job = g.A.Course.job in
    let history = g.A.Course.history in
    let stopped = g.A.Course.stopped in
    let old = c.args.desk.now in
    let desk = c.loop-turn.desk in
    let begun = c.begin.new.desk in
    let start = begun_is (course_of (job desk) (history desk) (stopped desk)) c.in-Some.k (course_of (job begun) (history begun) (stopped begun)) c.begin.ensures.begun in
    subst (GoesOn (history old)) (sym c.in_err-answer.ensures.err) (on_and_on (history old) (history desk) (history begun) c.loop-turn.invariant.goes_on start.2)
