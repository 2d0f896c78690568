use Rattle.std.proofs.Common.{◌∙◌, ◌∷◌, [], List, inr, ap, subst, sym, length, length-append, arith}
use Rattle.std.proofs.lemmas.Result.{err_from_is_err_and}
use Rattle.desk_values.specs.declared.capture.Captured.{Captured}
use Rattle.desk_values.specs.declared.capture.Event.{Event}
use Rattle.desk_values.specs.declared.capture.Event.TheVariants.{Answer}
use Rattle.desk_schema.proofs.Distinct.{all-push}
use Rattle.replay_job.specs.Events.{IsEvent}
use Rattle.replay_job.specs.Job.{JobView}
use Rattle.replay_job.specs.Runs.{Executes, Stage, first_stage}
use Rattle.law_histories.proofs.Truth.{truthful_answer}
use Rattle.replay_core.specs.Desk.{DeskView, IsAnswer}
use Rattle.replay_core.specs.Inside.{MayExecute}
use Rattle.replay_core.specs.View.{stage_of, view_of}
use Rattle.replay_core.proofs.Desks.{may_execute, open_call}
use Rattle.replay_core.proofs.desk.Desk.answer.Goals as goal

pub executed-requires-clause-call : goal.executed-requires-clause-call
executed-requires-clause-call c =
    subst (λ (job : JobView). (call : Captured) × MayExecute job (stage_of c.self.inside) c.args.k call) (sym c.job.ensures) (may_execute c.self.inside c.self.invariant c.args.k (rw (← c.self.view_is) at c.requires))

pub executed-requires-clause-steps : goal.executed-requires-clause-steps
executed-requires-clause-steps c = (open_call c.self.inside c.self.invariant c.args.k (inr (rw (← c.self.view_is) at c.requires))).1

pub invariant_of-self : goal.invariant_of-self
invariant_of-self c =
    let is = c.self.invariant in
    let failed = c.in_err-reply.ensures in
    record { target = is.target; truthful = rw (failed.engine, failed.map) is.truthful; texts = is.texts; own = c.executed.ensures.own ∙ is.own; follows = is.follows; room = is.room; steps = rw failed.engine is.steps }

pub returns-in_err-reply-clause-ok : goal.returns-in_err-reply-clause-ok
returns-in_err-reply-clause-ok c = let p = err_from_is_err_and c.from_residual.result c.from_residual.ensures.1 in rw p.1 tt

pub returns-in_err-reply-clause-err : goal.returns-in_err-reply-clause-err
returns-in_err-reply-clause-err c =
    let p = err_from_is_err_and c.from_residual.result c.from_residual.ensures.1 in
    rw (p.1, c.in_err-reply.ensures.engine, c.in_err-reply.ensures.map) c.self.view_is

pub answer-requires : goal.answer-requires
answer-requires c = (c.self.inside.history.items, c.self.invariant.follows, rw (← c.self.view_is) at c.requires)

pub unwrap-requires : goal.unwrap-requires
unwrap-requires c = c.push.ensures.succeeds (open_call c.self.inside c.self.invariant c.args.k (inr (rw (← c.self.view_is) at c.requires))).0

pub invariant_of-self-2 : goal.invariant_of-self-2
invariant_of-self-2 c =
    let a = c.self.inside in
    let is = c.self.invariant in
    let reply = c.in_ok-reply.reply in
    let new : Stage = record { state = c.executed.new.engine.state; pairs = c.executed.new.map.pairs } in
    let grown = rw c.unwrap.ensures at c.push.ensures.ok in
    let longer = length-append a.history.items (Answer c.args.k reply ∷ []) in
    let waits = rw (← c.self.view_is) at c.requires in
    let done = subst (λ (job : JobView). Executes job (stage_of a) c.args.k reply new) c.job.ensures c.in_ok-reply.ensures.ok in
    record {
      target = rw c.answer.ensures.job is.target;
      truthful = rw (grown, c.answer.ensures.job) (truthful_answer (Executes a.schedule.job) (first_stage a.schedule.job) (stage_of a) new a.history.items c.args.k reply is.truthful done);
      texts = rw grown (all-push IsEvent a.history.items (Answer c.args.k reply) is.texts (c.ranges.k.fits, c.in_ok-reply.ensures.good));
      own = rw c.answer.ensures.job (c.executed.ensures.own ∙ is.own);
      follows = rw grown (c.answer.ensures.follows a.history.items is.follows waits reply);
      room = rw c.answer.ensures.job (omega (arith, c.push.ensures.spare, is.room, ap length grown, longer));
      steps = omega (arith, is.steps, c.in_ok-reply.ensures.steps, ap length grown, longer);
    }

pub returns-clause-ok : goal.returns-clause-ok
returns-clause-ok c =
    let new : Stage = record { state = c.executed.new.engine.state; pairs = c.executed.new.map.pairs } in
    let grown = rw c.unwrap.ensures at c.push.ensures.ok in
    rw (c.answer.ensures.job, c.answer.ensures.stopped) (subst (λ (desk : DeskView). IsAnswer desk c.args.k (record (view_of c.self.inside) { history = c.push.new.self.items; stage = new })) c.self.view_is
    (c.in_ok-reply.reply, subst (λ (job : JobView). Executes job (stage_of c.self.inside) c.args.k c.in_ok-reply.reply new) c.job.ensures c.in_ok-reply.ensures.ok, ap (λ (events : List Event). record (view_of c.self.inside) { history = events; stage = new }) grown))
