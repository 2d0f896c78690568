use Rattle.std.proofs.Common.{◌≡◌, ◌<◌, ◌^◌, ◌∙◌, List, ◌∷◌, [], inl, ap, length, length-append, refl, sym, arith}
use Rattle.desk_values.specs.declared.capture.Event.TheVariants as event
use Rattle.desk_schema.proofs.Distinct.{all-push}
use Rattle.replay_job.specs.Events.{IsEvent}
use Rattle.replay_schedule.proofs.Gates.Gates.{start_waits}
use Rattle.remote_desk.specs.declared.event.RemoteEvent.{RemoteEvent}
use Rattle.remote_desk.specs.declared.event.RemoteEvent.TheVariants.{Start}
use Rattle.remote_desk.specs.History.{plain}
use Rattle.remote_desk.proofs.Desks.{open_call}
use Rattle.remote_desk.proofs.Flags.{flag_kept}
use Rattle.remote_desk.proofs.Histories.{pairs_more, plain_more, start_grows}
use Rattle.remote_desk.proofs.Order.{order_kept, places_kept}
use Rattle.remote_desk.proofs.desk.RemoteDesk.start.Goals as goal

pub start-pause-requires : goal.start-pause-requires
start-pause-requires c = (plain c.self.inside.events.items, c.self.invariant.follows, rw (← c.self.view_is) at c.requires.ready)

pub unwrap-requires : goal.unwrap-requires
unwrap-requires c = c.push.ensures.succeeds (open_call c.self.inside c.self.invariant c.args.k (inl (rw (← c.self.view_is) at c.requires.ready))).1

pub invariant_of-self : goal.invariant_of-self
invariant_of-self c =
    let a = c.self.inside in
    let is = c.self.invariant in
    let pause = c.start-pause.result in
    let fits : pause < 2 ^ 64 = search in
    let e = Start c.args.k pause in
    let grown = rw c.unwrap.ensures at c.push.ensures.ok in
    let may = rw (← c.self.view_is) at c.requires.ready in
    let more = plain_more a.events.items e in
    let follows = c.start-pause.ensures.follows (plain a.events.items) is.follows may in
    let job = c.start-pause.ensures.job in
    let longer = length-append a.events.items (e ∷ []) in
    let plainer = ap (λ (l : List RemoteEvent). length (plain l)) grown ∙ ap length more ∙ length-append (plain a.events.items) (event.Start c.args.k pause ∷ []) in
    record {
      follows = rw (grown, more) follows;
      remote = rw (grown, job) (start_grows a.schedule.job a.events.items c.args.k pause is.remote (rw job at follows.legal));
      pairs = rw (grown, job) (is.pairs ∙ sym (pairs_more a.schedule.job a.events.items e));
      own = rw job is.own;
      texts = rw (grown, more) (all-push IsEvent (plain a.events.items) (event.Start c.args.k pause) is.texts (c.ranges.k.fits, fits));
      order = rw (grown, job) (order_kept a.schedule.job a.events.items e (λ session. refl) (λ k call same. absurd cc) is.order);
      places = rw (grown, job) (places_kept a.schedule.job a.events.items e (λ session. refl) (λ k call same. absurd cc) is.places);
      sent_len = rw job is.sent_len;
      sent = rw grown (flag_kept a.sent.items a.events.items e (λ k call same. absurd cc) is.sent);
      count = omega (arith, ap length grown, longer, is.count, plainer);
      room = rw job (omega (arith, c.push.ensures.spare, is.room, ap length grown, longer));
    }

pub returns-clause-appended : goal.returns-clause-appended
returns-clause-appended c = let grown = rw c.unwrap.ensures at c.push.ensures.ok in rw (← c.self.view_is, grown, c.start-pause.ensures.job, c.start-pause.ensures.stopped) refl

pub returns-clause-pause : goal.returns-clause-pause
returns-clause-pause c = rw (← c.self.view_is) c.start-pause.ensures.pause

pub returns-clause-waiting : goal.returns-clause-waiting
returns-clause-waiting c =
    let grown = rw c.unwrap.ensures at c.push.ensures.ok in
    let more = plain_more c.self.inside.events.items (Start c.args.k c.start-pause.result) in
    rw (grown, more) (start_waits c.self.invariant.follows c.args.k c.start-pause.result (rw (← c.self.view_is) at c.requires.ready))
