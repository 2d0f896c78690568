use Rattle.std.proofs.Common.{◌<◌, ◌^◌, ◌∷◌, [], inl, ap, length, length-append, refl, arith}
use Rattle.desk_values.specs.declared.capture.Event.TheVariants.{Start}
use Rattle.desk_schema.proofs.Distinct.{all-push}
use Rattle.replay_job.specs.Events.{IsEvent}
use Rattle.replay_job.specs.Runs.{Executes, first_stage}
use Rattle.law_histories.proofs.Truth.{truthful_start}
use Rattle.replay_schedule.proofs.Gates.Gates.{start_waits}
use Rattle.replay_core.specs.View.{stage_of}
use Rattle.replay_core.proofs.Desks.{open_call}
use Rattle.replay_core.proofs.desk.Desk.start.Goals as goal

pub start-pause-requires : goal.start-pause-requires
start-pause-requires c = (c.self.inside.history.items, c.self.invariant.follows, rw (← c.self.view_is) at c.requires.ready)

pub unwrap-requires : goal.unwrap-requires
unwrap-requires c = c.push.ensures.succeeds (open_call c.self.inside c.self.invariant c.args.k (inl (rw (← c.self.view_is) at c.requires.ready))).0

pub invariant_of-self : goal.invariant_of-self
invariant_of-self c =
    let a = c.self.inside in
    let is = c.self.invariant in
    let pause = c.start-pause.result in
    let fits : pause < 2 ^ 64 = search in
    let grown = rw c.unwrap.ensures at c.push.ensures.ok in
    let longer = length-append a.history.items (Start c.args.k pause ∷ []) in
    let may = rw (← c.self.view_is) at c.requires.ready in
    record {
      target = rw c.start-pause.ensures.job is.target;
      truthful = rw (grown, c.start-pause.ensures.job) (truthful_start (Executes a.schedule.job) (first_stage a.schedule.job) (stage_of a) a.history.items c.args.k pause is.truthful);
      texts = rw grown (all-push IsEvent a.history.items (Start c.args.k pause) is.texts (c.ranges.k.fits, fits));
      own = rw c.start-pause.ensures.job is.own;
      follows = rw grown (c.start-pause.ensures.follows a.history.items is.follows may);
      room = rw c.start-pause.ensures.job (omega (arith, c.push.ensures.spare, is.room, ap length grown, longer));
      steps = omega (arith, is.steps, ap length grown, longer);
    }

pub returns-clause-appended : goal.returns-clause-appended
returns-clause-appended c = let grown = rw c.unwrap.ensures at c.push.ensures.ok in rw (← c.self.view_is, grown, c.start-pause.ensures.job, c.start-pause.ensures.stopped) refl

pub returns-clause-pause : goal.returns-clause-pause
returns-clause-pause c = rw (← c.self.view_is) c.start-pause.ensures.pause

pub returns-clause-waiting : goal.returns-clause-waiting
returns-clause-waiting c =
    let grown = rw c.unwrap.ensures at c.push.ensures.ok in
    rw grown (start_waits c.self.invariant.follows c.args.k c.start-pause.result (rw (← c.self.view_is) at c.requires.ready))
