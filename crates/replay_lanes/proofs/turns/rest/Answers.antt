use Rattle.std.proofs.Common.{◌≡◌, inr, refl, subst, sym, true}
use Rattle.std.specs.Prelude.{EachIndex, slice_index}
use Rattle.replay_job.specs.Job.{JobView}
use Rattle.replay_job.specs.Runs.{IsSessionDone}
use Rattle.replay_lanes.proofs.turns.rest.Goals as goal

pub returns-then-done : goal.returns-then-done
returns-then-done g c =
    let history = g.C.Course.history c.args.desk.now in
    let lane = c.args.lane.now in
    let tells = c.done.ensures history c.schedule.ensures.follows in
    (inr (subst (λ (job : JobView). EachIndex lane (λ i. IsSessionDone job history (slice_index lane i))) c.schedule.ensures.job (tells.0 c.if-done.true)), refl)

pub returns-else-done : goal.returns-else-done
returns-else-done g c =
    let history = g.C.Course.history c.args.desk.now in
    let lane = c.args.lane.now in
    let tells = c.done.ensures history c.schedule.ensures.follows in (
      c.requires.going,
      c.requires.held,
      λ done. absurd (
          let so : c.done.result ≡ true = tells.1 (subst (λ (job : JobView). EachIndex lane (λ i. IsSessionDone job history (slice_index lane i))) (sym c.schedule.ensures.job) done) in
          let not_so = c.if-done.false in
          cc),
      refl,
    )
