-- What the fields of a remote desk tell.
use Rattle.std.proofs.Common.{◌≡◌, ℕ, ◌+◌, ◌<◌, ◌≤◌, ◌⊎◌, ◌^◌, ◌∙◌, ◌++◌, ◌∷◌, [], List, Bool, Some, ap, get_or, length, length-append, refl, sym, subst, arith}
use Rattle.std.specs.Prelude.{slice_get}
use Rattle.std.proofs.lemmas.List.Sums.{count_by-le-length}
use Rattle.desk_schema.proofs.Distinct.{all-push}
use Rattle.desk_values.specs.Good.{IsGoodReply}
use Rattle.desk_values.specs.declared.call.Reply.{Reply}
use Rattle.desk_values.specs.declared.capture.Captured.{Captured}
use Rattle.desk_values.specs.declared.capture.Event.TheVariants as event
use Rattle.desk_values.specs.declared.call.Call.{Call}
use Rattle.id_pairs.specs.Pairs.{IdPair, all_new, learnt}
use Rattle.remap_ids.specs.Sent.{sent}
use Rattle.remap_ids.specs.Services.{ServicePair}
use Rattle.replay_history.specs.Gap.{IsCallAt}
use Rattle.replay_history.specs.History.{IsWaiting}
use Rattle.replay_job.specs.Job.{JobView}
use Rattle.replay_job.specs.Events.{IsEvent}
use Rattle.replay_job.specs.Runs.{MayStart, learnt_from}
use Rattle.law_histories.proofs.Items.{item_at}
use Rattle.replay_schedule.specs.Gates.Following.{size}
use Rattle.replay_schedule.specs.Schedule.{Follows}
use Rattle.replay_schedule.proofs.Gates.Gates.{open_room}
use Rattle.remote_desk.specs.declared.desk.RemoteDesk.TheInside.{Inside}
use Rattle.remote_desk.specs.declared.event.RemoteEvent.{RemoteEvent}
use Rattle.remote_desk.specs.declared.event.RemoteEvent.TheVariants.{Answer}
use Rattle.remote_desk.specs.Desk.{MayAnswer}
use Rattle.remote_desk.specs.History.{plain}
use Rattle.remote_desk.specs.Inside.{IsDesk}
use Rattle.remote_desk.proofs.Flags.{flag_kept}
use Rattle.remote_desk.proofs.Histories.{answer_grows, pairs_more, plain_more}
use Rattle.remote_desk.proofs.Order.{order_kept, places_kept}

module _ (a : Inside) (is : IsDesk a) (k : ℕ) where
  -- there is room for an open call
  pub open_call : MayStart a.schedule.job (plain a.events.items) k ⊎ IsWaiting (plain a.events.items) k → (k < length a.sent.items) × (0 < a.events.spare)
  open_call free =
      let room = open_room is.follows k free in
      let most = count_by-le-length (λ (there : Bool). there) a.sent.items in
      (omega (arith, room.0, is.sent_len), omega (arith, room.2, most, is.sent_len, is.count, is.room))

-- what a reply gives beside that to the call which an index has
pub learnt_at : (job : JobView) (k : ℕ) (items : List Captured) (call : Captured) (pairs : List IdPair) (reply : Reply) → k < length job.calls → items ≡ job.calls → call ≡ get_or items k call
    → (slice_get job.calls k ≡ Some call) × (all_new pairs (learnt call.reply reply) ≡ all_new pairs (learnt_from (slice_get job.calls k) reply))
learnt_at job k items call pairs reply within e is =
    let there : slice_get job.calls k ≡ Some call = item_at items job.calls k call e (omega (arith, within, ap length e)) is in
    (there, rw there refl)

-- the fields of a desk with one answer more
pub record IsAnswered (a b : Inside) (k : ℕ) (reply : Reply) : Type 0 where
  pub job : b.schedule.job ≡ a.schedule.job
  pub follows : Follows b.schedule (plain a.events.items ++ event.Answer k reply ∷ [])
  pub pairs : b.map.pairs ≡ all_new a.map.pairs (learnt_from (slice_get a.schedule.job.calls k) reply)
  pub own : b.map.own ≡ a.map.own
  pub sent : b.sent.items ≡ a.sent.items
  pub events : b.events.items ≡ a.events.items ++ Answer k reply ∷ []
  pub spare : a.events.spare ≤ b.events.spare + 1

pub answer_kept : (a b : Inside) (k : ℕ) (reply : Reply) → IsDesk a → MayAnswer a.events.items k → k < 2 ^ 32 → IsGoodReply reply → IsAnswered a b k reply → IsDesk b
answer_kept a b k reply is may fits good by =
    let e = Answer k reply in
    let more = plain_more a.events.items e in
    let longer = length-append a.events.items (e ∷ []) in
    let plainer = ap (λ (l : List RemoteEvent). length (plain l)) by.events ∙ ap length more ∙ length-append (plain a.events.items) (event.Answer k reply ∷ []) in
    record {
      follows = rw (by.events, more) by.follows;
      remote = rw (by.events, by.job) (answer_grows a.schedule.job a.events.items k reply is.remote (rw by.job at by.follows.legal) may.0 good);
      pairs = rw (by.events, by.job) (by.pairs ∙ ap (λ (ps : List IdPair). all_new ps (learnt_from (slice_get a.schedule.job.calls k) reply)) is.pairs ∙ sym (pairs_more a.schedule.job a.events.items e));
      own = rw by.job (by.own ∙ is.own);
      texts = rw (by.events, more) (all-push IsEvent (plain a.events.items) (event.Answer k reply) is.texts (fits, good));
      order = rw (by.events, by.job) (order_kept a.schedule.job a.events.items e (λ session. refl) (λ j call same. absurd cc) is.order);
      places = rw (by.events, by.job) (places_kept a.schedule.job a.events.items e (λ session. refl) (λ j call same. absurd cc) is.places);
      sent_len = rw (by.sent, by.job) is.sent_len;
      sent = rw (by.events, by.sent) (flag_kept a.sent.items a.events.items e (λ j call same. absurd cc) is.sent);
      count = omega (arith, ap length by.events, longer, is.count, plainer, ap size by.sent);
      room = rw by.job (omega (arith, by.spare, is.room, ap length by.events, longer));
    }

-- what is sent by one job is sent by an equal one
pub sent_by : (calls own : List Captured) (remap other : List ServicePair) (pairs : List IdPair) (k : ℕ) (call : Call) → calls ≡ own → remap ≡ other
    → (captured : Captured) × IsCallAt calls k captured × (call ≡ sent pairs remap captured.call) → (captured : Captured) × IsCallAt own k captured × (call ≡ sent pairs other captured.call)
sent_by calls own remap other pairs k call same alike by = (by.0, subst (λ (l : List Captured). IsCallAt l k by.0) same by.1, by.2 ∙ ap (λ (r : List ServicePair). sent pairs r by.0.call) alike)
