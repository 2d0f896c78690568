use Rattle.std.proofs.Common.{◌∙◌, get_or, ap}
use Rattle.std.specs.Prelude.{if◌then◌else◌}
use Rattle.replay_history.specs.Gap.{pause_of}
use Rattle.replay_clock.specs.declared.gap.Gap.{Gap}
use Rattle.replay_job.specs.Job.{seen}
use Rattle.law_histories.proofs.Items.{item_there}
use Rattle.replay_schedule.proofs.Schedules.{gap_at, gap_small, no_gap}
use Rattle.replay_schedule.proofs.schedule.Schedule.pause_before.Goals as goal

pub pause-requires-clause-micros : goal.pause-requires-clause-micros
pause-requires-clause-micros c =
    let a = c.self.inside in
    let call = item_there a.job.calls.items c.args.k (rw (← c.self.view_is) at c.requires.stamp) in
    gap_small (seen a.job) c.args.k call.0 (get_or c.as_slice.result.now c.args.k no_gap) (rw (← c.self.view_is) at c.requires.replayable) call.1 (gap_at a.job.calls.items c.self.invariant c.as_slice.ensures c.args.k call.0 call.1)

pub returns : goal.returns
returns c =
    let job = c.self.inside.job in
    let micros = (get_or c.as_slice.result.now c.args.k no_gap).micros in
    rw (← c.self.view_is) (λ call at.
    c.pause.ensures
    ∙ ap (pause_of micros) c.percentage.ensures
    ∙ ap (λ (gap : Gap). pause_of gap.micros (if gap.first then job.connect else job.think)) (gap_at job.calls.items c.self.invariant c.as_slice.ensures c.args.k call at))
