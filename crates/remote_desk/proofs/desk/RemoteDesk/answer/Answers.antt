use Rattle.std.proofs.Common.{◌≡◌, ◌<◌, ◌∙◌, inr, ap, length, refl, arith}
use Rattle.std.proofs.lemmas.Result.{err_from_is_err_and}
use Rattle.replay_job.specs.Job.{JobView}
use Rattle.replay_schedule.proofs.Gates.Gates.{open_room}
use Rattle.remote_desk.specs.History.{plain}
use Rattle.remote_desk.proofs.Desks.{answer_kept, learnt_at, open_call}
use Rattle.remote_desk.proofs.Histories.{waits_where_sent}
use Rattle.remote_desk.proofs.desk.RemoteDesk.answer.Goals as goal

pub bounds-as_slice-k : goal.bounds-as_slice-k
bounds-as_slice-k c =
    let a = c.self.inside in
    let may = rw (← c.self.view_is) at c.requires.sent in
    let waits = waits_where_sent a.schedule.job a.events.items c.args.k c.self.invariant.remote may.0 may.1 in
    let room = open_room c.self.invariant.follows c.args.k (inr waits) in
    omega (arith, room.0, ap (λ (job : JobView). length job.calls) c.job.ensures, ap length c.as_slice.ensures)

pub invariant_of-self : goal.invariant_of-self
invariant_of-self c =
    let is = c.self.invariant in
    record { follows = is.follows; remote = is.remote; pairs = c.in_err-learn_fresh.ensures.err ∙ is.pairs; own = c.learn_fresh.ensures.own ∙ is.own; texts = is.texts; order = is.order; places = is.places; sent_len = is.sent_len; sent = is.sent; count = is.count; room = is.room }

pub returns-in_err-learn_fresh-clause-ok : goal.returns-in_err-learn_fresh-clause-ok
returns-in_err-learn_fresh-clause-ok c = let p = err_from_is_err_and c.from_residual-in_err-learn_fresh.result c.from_residual-in_err-learn_fresh.ensures.1 in rw p.1 tt

pub returns-in_err-learn_fresh-clause-err : goal.returns-in_err-learn_fresh-clause-err
returns-in_err-learn_fresh-clause-err c =
    let p = err_from_is_err_and c.from_residual-in_err-learn_fresh.result c.from_residual-in_err-learn_fresh.ensures.1 in
    rw (p.1, c.in_err-learn_fresh.ensures.err) c.self.view_is

pub answer-requires : goal.answer-requires
answer-requires c =
    let may = rw (← c.self.view_is) at c.requires.sent in
    (plain c.self.inside.events.items, c.self.invariant.follows, waits_where_sent c.self.inside.schedule.job c.self.inside.events.items c.args.k c.self.invariant.remote may.0 may.1)

pub unwrap-requires : goal.unwrap-requires
unwrap-requires c =
    let may = rw (← c.self.view_is) at c.requires.sent in
    c.push.ensures.succeeds (open_call c.self.inside c.self.invariant c.args.k (inr (waits_where_sent c.self.inside.schedule.job c.self.inside.events.items c.args.k c.self.invariant.remote may.0 may.1))).1

pub invariant_of-self-2 : goal.invariant_of-self-2
invariant_of-self-2 c =
    let a = c.self.inside in
    let is = c.self.invariant in
    let reply = c.args.reply.now in
    let may = rw (← c.self.view_is) at c.requires.sent in
    let waits = waits_where_sent a.schedule.job a.events.items c.args.k is.remote may.0 may.1 in
    let room = open_room is.follows c.args.k (inr waits) in
    let items = c.as_slice.ensures ∙ ap (λ (job : JobView). job.calls) c.job.ensures in
    let known = learnt_at a.schedule.job c.args.k c.as_slice.result.now c.index-as_slice-k.result a.map.pairs reply room.0 items c.index-as_slice-k.is in
    let what : c.in_ok-kept.kept ≡ reply = c.in_ok-kept.ensures in
    answer_kept a _ c.args.k reply is may c.ranges.k.fits c.requires.good (record {
      job = c.answer.ensures.job;
      follows = c.answer.ensures.follows (plain a.events.items) is.follows waits reply;
      pairs = c.in_ok-learn_fresh.ensures.ok ∙ known.1;
      own = c.learn_fresh.ensures.own;
      sent = refl;
      events = rw (c.unwrap.ensures, what) at c.push.ensures.ok;
      spare = c.push.ensures.spare;
    })

pub returns-clause-ok : goal.returns-clause-ok
returns-clause-ok c =
    let a = c.self.inside in
    let is = c.self.invariant in
    let reply = c.args.reply.now in
    let may = rw (← c.self.view_is) at c.requires.sent in
    let waits = waits_where_sent a.schedule.job a.events.items c.args.k is.remote may.0 may.1 in
    let room = open_room is.follows c.args.k (inr waits) in
    let items = c.as_slice.ensures ∙ ap (λ (job : JobView). job.calls) c.job.ensures in
    let known = learnt_at a.schedule.job c.args.k c.as_slice.result.now c.index-as_slice-k.result a.map.pairs reply room.0 items c.index-as_slice-k.is in
    let what : c.in_ok-kept.kept ≡ reply = c.in_ok-kept.ensures in
    let grown = rw (c.unwrap.ensures, what) at c.push.ensures.ok in
    rw (← c.self.view_is, grown, c.answer.ensures.job, c.answer.ensures.stopped, c.in_ok-learn_fresh.ensures.ok) (c.index-as_slice-k.result, known.0, refl)
