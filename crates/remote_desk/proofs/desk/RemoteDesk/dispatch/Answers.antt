use Rattle.std.proofs.Common.{◌≡◌, ◌∙◌, List, ◌∷◌, [], inr, true, ap, length, length-append, refl, subst, sym, append-nil, arith}
use Rattle.std.proofs.lemmas.List.{length-set}
use Rattle.remap_ids.specs.Sent.{HasLowIds}
use Rattle.replay_history.specs.Gap.{IsCallAt}
use Rattle.replay_job.specs.Job.{JobView}
use Rattle.replay_schedule.proofs.Gates.Gates.{size_more}
use Rattle.replay_schedule.proofs.Ids.{has_low_ids}
use Rattle.remote_desk.specs.declared.event.RemoteEvent.{RemoteEvent}
use Rattle.remote_desk.specs.declared.event.RemoteEvent.TheVariants.{Sent}
use Rattle.remote_desk.specs.History.{plain}
use Rattle.remote_desk.specs.Said.{AreAlike}
use Rattle.remote_desk.proofs.Alike.{behind_alike}
use Rattle.remote_desk.proofs.Desks.{open_call, sent_by}
use Rattle.remote_desk.proofs.Flags.{flag_set, unflagged}
use Rattle.remote_desk.proofs.Histories.{pairs_more, plain_more, sent_grows}
use Rattle.remote_desk.proofs.Order.{order_more, places_more}
use Rattle.remote_desk.proofs.desk.RemoteDesk.dispatch.Goals as goal

pub sent_call-requires : goal.sent_call-requires
sent_call-requires c =
    let is = c.self.invariant in
    let may = rw (← c.self.view_is) at c.requires in
    let begun = may.0.0 in
    let call = is.follows.legal.start_is_call begun.0 c.args.k begun.1 begun.2 in
    let calls = ap (λ (job : JobView). job.calls) c.job.ensures in
    (call.0, subst (λ l. IsCallAt l c.args.k call.0) (sym calls) call.1, has_low_ids c.self.inside.schedule.job is.follows.replayable c.args.k call.0 call.1)

pub index_mut-requires : goal.index_mut-requires
index_mut-requires c = let within = (open_call c.self.inside c.self.invariant c.args.k (inr (rw (← c.self.view_is) at c.requires).0)).0 in omega (arith, within)

pub unwrap-requires : goal.unwrap-requires
unwrap-requires c = c.push.ensures.succeeds (open_call c.self.inside c.self.invariant c.args.k (inr (rw (← c.self.view_is) at c.requires).0)).1

pub invariant_of-self : goal.invariant_of-self
invariant_of-self c =
    let a = c.self.inside in
    let is = c.self.invariant in
    let call = c.in_ok-call.call in
    let kept = c.in_ok-kept.kept in
    let what : kept ≡ call = c.in_ok-kept.ensures in
    let e = Sent c.args.k call in
    let may = rw (← c.self.view_is) at c.requires in
    let job = c.self.inside.schedule.job in
    let by = sent_by _ job.calls _ job.remap c.self.inside.map.pairs c.args.k c.in_ok-call.call (ap (λ (j : JobView). j.calls) c.job.ensures) (ap (λ (j : JobView). j.remap) c.job.ensures) c.in_ok-call.ensures in
    let grown = rw (c.unwrap.ensures, what) at c.push.ensures.ok in
    let same = plain_more a.events.items e ∙ append-nil (plain a.events.items) in
    let within = (open_call a is c.args.k (inr may.0)).0 in
    let unset = unflagged a.sent.items a.events.items c.args.k is.sent may.1 in
    let more = size_more a.sent.items c.args.k within unset in
    let longer = length-append a.events.items (e ∷ []) in
    let alike = subst AreAlike (sym is.pairs) (behind_alike a.schedule.job a.events.items) in
    record {
      follows = rw (grown, same) is.follows;
      remote = rw grown (sent_grows a.schedule.job a.events.items c.args.k call is.remote may.0.0 may.1 (rw is.pairs at by));
      pairs = rw grown (is.pairs ∙ sym (pairs_more a.schedule.job a.events.items e));
      own = is.own;
      texts = rw (grown, same) is.texts;
      order = rw grown (order_more a.schedule.job a.events.items is.follows.replayable is.remote is.places c.args.k by.0 by.1 may.1 may.0.0 call a.map.pairs alike by.2 is.order);
      places = rw grown (places_more a.schedule.job a.events.items is.follows.replayable is.remote is.places c.args.k by.0 by.1 may.1 may.0.0 call);
      sent_len = length-set a.sent.items c.args.k true ∙ is.sent_len;
      sent = rw grown (flag_set a.sent.items a.events.items c.args.k call within is.sent);
      count = (let plainer = ap (λ (l : List RemoteEvent). length (plain l)) grown ∙ ap length same in omega (arith, ap length grown, longer, is.count, more, plainer));
      room = omega (arith, c.push.ensures.spare, is.room, ap length grown, longer);
    }

pub returns-clause-ok : goal.returns-clause-ok
returns-clause-ok c =
    let what = c.in_ok-kept.ensures in
    let grown = rw (c.unwrap.ensures, what) at c.push.ensures.ok in
    let job = c.self.inside.schedule.job in
    let by = sent_by _ job.calls _ job.remap c.self.inside.map.pairs c.args.k c.in_ok-call.call (ap (λ (j : JobView). j.calls) c.job.ensures) (ap (λ (j : JobView). j.remap) c.job.ensures) c.in_ok-call.ensures in
    rw (← c.self.view_is, grown) (by.0, by.1, by.2, refl)
