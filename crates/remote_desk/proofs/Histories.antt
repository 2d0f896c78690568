-- A remote history with one event more: where its events stand, and when it is legal.
use Rattle.std.proofs.Common.{◌≡◌, ℕ, zero, suc, ◌+◌, ◌<◌, ◌⊎◌, inl, inr, List, [], ◌∷◌, ◌++◌, length, take, sym, ap, subst, ◌∙◌, append-nil, arith}
use Rattle.std.specs.Prelude.{slice_get, Some}
use Rattle.std.proofs.lemmas.List.{take-append-le, take_at}
use Rattle.std.proofs.lemmas.List.Concat.{flat_map-append}
use Rattle.std.proofs.lemmas.List.Sums.{fold-append}
use Rattle.std.proofs.lemmas.Option.{slice_get_within}
use Rattle.desk_values.specs.declared.call.Call.{Call}
use Rattle.desk_values.specs.declared.call.Reply.{Reply}
use Rattle.desk_values.specs.declared.capture.Captured.{Captured}
use Rattle.desk_values.specs.declared.capture.Event.{Event}
use Rattle.desk_values.specs.declared.capture.Event.TheVariants as event
use Rattle.desk_values.specs.Good.{IsGoodReply}
use Rattle.replay_history.specs.Gap.{IsCallAt}
use Rattle.replay_history.specs.History.{IsAnswered, IsStarted, IsWaiting}
use Rattle.remap_ids.specs.IdMap.{start_pairs}
use Rattle.remap_ids.specs.Sent.{sent}
use Rattle.replay_job.specs.Job.{JobView}
use Rattle.replay_job.specs.Runs.{IsLegalFor}
use Rattle.law_histories.proofs.Items.{at_push, kept_at, last_at}
use Rattle.remote_desk.specs.declared.event.RemoteEvent.{RemoteEvent}
use Rattle.remote_desk.specs.declared.event.RemoteEvent.TheVariants.{Start, Sent, Answer}
use Rattle.remote_desk.specs.History.{IsRemoteHistory, IsSent, StartsAt, pairs_behind, plain, plain_of, with_pairs}

pub plain_more : (events : List RemoteEvent) (e : RemoteEvent) → plain (events ++ e ∷ []) ≡ plain events ++ plain_of e
plain_more events e = flat_map-append plain_of events (e ∷ []) ∙ ap (λ (l : List Event). plain events ++ l) (append-nil (plain_of e))

pub pairs_more : (job : JobView) (events : List RemoteEvent) (e : RemoteEvent) → pairs_behind job (events ++ e ∷ []) ≡ with_pairs job.calls (pairs_behind job events) e
pairs_more job events e = fold-append (with_pairs job.calls) (start_pairs job.start) events (e ∷ [])

-- a started call of the plain history starts here
pub begun_in : (events : List RemoteEvent) (k : ℕ) → IsStarted (plain events) k → (i : ℕ) × (pause : ℕ) × StartsAt events i k pause
begun_in events k started = go events started.0 started.2
  where
    shift : (first : RemoteEvent) (others : List RemoteEvent) → (i : ℕ) × (pause : ℕ) × StartsAt others i k pause → (i : ℕ) × (pause : ℕ) × StartsAt (first ∷ others) i k pause
    shift first others found = (suc found.0, found.1, found.2)

    go : (list : List RemoteEvent) (i : ℕ) → slice_get (plain list) i ≡ Some (event.Start k started.1) → (i : ℕ) × (pause : ℕ) × StartsAt list i k pause
    go [] i at = absurd cc
    go (Start j pause ∷ others) zero at = (zero, pause, cc)
    go (Start j pause ∷ others) (suc i) at = shift (Start j pause) others (go others i at)
    go (Sent j call ∷ others) i at = shift (Sent j call) others (go others i at)
    go (Answer j reply ∷ others) zero at = absurd cc
    go (Answer j reply ∷ others) (suc i) at = shift (Answer j reply) others (go others i at)

pub none_sent : (k : ℕ) → IsSent [] k → ⊥
none_sent k at = let within = slice_get_within [] at.0 (Sent k at.1) at.2 in omega (arith, within)

module _ (events : List RemoteEvent) (e : RemoteEvent) where
  pub sent_kept : (k : ℕ) → IsSent events k → IsSent (events ++ e ∷ []) k
  sent_kept k at = (at.0, at.1, kept_at events (e ∷ []) at.0 (Sent k at.1) at.2)

  pub sent_in : (k : ℕ) → IsSent (events ++ e ∷ []) k → IsSent events k ⊎ ((call : Call) × (e ≡ Sent k call))
  sent_in k at = elim (at_push events e at.0 (Sent k at.1) at.2) [
    | inl before ↦ inl (at.0, at.1, before)
    | inr last ↦ inr (at.1, last.1)
  ]

  -- the events before a place of the history are the same
  front_kept : (i : ℕ) → i < length events → take i (events ++ e ∷ []) ≡ take i events
  front_kept i lt = take-append-le i events (e ∷ []) (omega (arith, lt))

  front_last : (i : ℕ) → i ≡ length events → take i (events ++ e ∷ []) ≡ events
  front_last i last = take_at events (e ∷ []) i (sym last)

-- the event may come behind these
pub record MayCome (job : JobView) (events : List RemoteEvent) (e : RemoteEvent) : Type 0 where
  pub legal : IsLegalFor job (plain (events ++ e ∷ []))
  -- what is sent is sent for a call that is started, and for which nothing was sent
  pub fresh : (k : ℕ) (call : Call) → e ≡ Sent k call → IsSent events k → ⊥
  pub begun : (k : ℕ) (call : Call) → e ≡ Sent k call → (i : ℕ) × (pause : ℕ) × StartsAt events i k pause
  pub by_pairs : (k : ℕ) (call : Call) → e ≡ Sent k call → (captured : Captured) × IsCallAt job.calls k captured × (call ≡ sent (pairs_behind job events) job.remap captured.call)
  -- an answer comes to what was sent
  pub asked : (k : ℕ) (reply : Reply) → e ≡ Answer k reply → IsSent events k
  pub good : (k : ℕ) (reply : Reply) → e ≡ Answer k reply → IsGoodReply reply

module _ (job : JobView) (events : List RemoteEvent) (e : RemoteEvent) (is : IsRemoteHistory job events) (may : MayCome job events e) where
  abbrev IsBy : ℕ → Call → List RemoteEvent → Type 0
  IsBy k call front = (captured : Captured) × IsCallAt job.calls k captured × (call ≡ sent (pairs_behind job front) job.remap captured.call)

  pub grown : IsRemoteHistory job (events ++ e ∷ [])
  grown = record {
    legal = may.legal;
    sent_once = λ i j k call other a b. elim (at_push events e i (Sent k call) a) [
      | inl x ↦ elim (at_push events e j (Sent k other) b) [
        | inl y ↦ is.sent_once i j k call other x y
        | inr y ↦ absurd (may.fresh k other y.1 (i, call, x))
      ]
      | inr x ↦ elim (at_push events e j (Sent k other) b) [
        | inl y ↦ absurd (may.fresh k call x.1 (j, other, y))
        | inr y ↦ x.0 ∙ sym y.0
      ]
    ];
    sent_started = λ i k call a. elim (at_push events e i (Sent k call) a) [
      | inl x ↦ let s = is.sent_started i k call x in (s.0, s.1, s.2, kept_at events (e ∷ []) s.0 (Start k s.1) s.3)
      | inr x ↦ let s = may.begun k call x.1 in let within = slice_get_within events s.0 (Start k s.1) s.2 in (s.0, s.1, omega (arith, within, x.0), kept_at events (e ∷ []) s.0 (Start k s.1) s.2)
    ];
    sent_is = λ i k call a. elim (at_push events e i (Sent k call) a) [
      | inl x ↦ subst (IsBy k call) (sym (front_kept events e i (slice_get_within events i (Sent k call) x))) (is.sent_is i k call x)
      | inr x ↦ subst (IsBy k call) (sym (front_last events e i x.0)) (may.by_pairs k call x.1)
    ];
    answer_sent = λ i k reply a. elim (at_push events e i (Answer k reply) a) [
      | inl x ↦ let s = is.answer_sent i k reply x in (s.0, s.1, s.2, kept_at events (e ∷ []) s.0 (Sent k s.1) s.3)
      | inr x ↦ let s = may.asked k reply x.1 in let within = slice_get_within events s.0 (Sent k s.1) s.2 in (s.0, s.1, omega (arith, within, x.0), kept_at events (e ∷ []) s.0 (Sent k s.1) s.2)
    ];
    good = λ i k reply a. elim (at_push events e i (Answer k reply) a) [
      | inl x ↦ is.good i k reply x
      | inr x ↦ may.good k reply x.1
    ];
  }

-- ---- the three events

pub start_grows : (job : JobView) (events : List RemoteEvent) (k pause : ℕ) → IsRemoteHistory job events → IsLegalFor job (plain events ++ event.Start k pause ∷ []) → IsRemoteHistory job (events ++ Start k pause ∷ [])
start_grows job events k pause is legal = grown job events (Start k pause) is (record {
  legal = rw (plain_more events (Start k pause)) legal;
  fresh = λ j call same. absurd cc;
  begun = λ j call same. absurd cc;
  by_pairs = λ j call same. absurd cc;
  asked = λ j reply same. absurd cc;
  good = λ j reply same. absurd cc;
})

pub sent_grows : (job : JobView) (events : List RemoteEvent) (k : ℕ) (call : Call) → IsRemoteHistory job events → IsStarted (plain events) k → (IsSent events k → ⊥) → (captured : Captured) × IsCallAt job.calls k captured × (call ≡ sent (pairs_behind job events) job.remap captured.call) → IsRemoteHistory job (events ++ Sent k call ∷ [])
sent_grows job events k call is started fresh by = grown job events (Sent k call) is (record {
  legal = rw (plain_more events (Sent k call) ∙ append-nil (plain events)) is.legal;
  fresh = λ j other same there. (let one : k ≡ j = cc in fresh (subst (IsSent events) (sym one) there));
  begun = λ j other same. (let one : k ≡ j = cc in subst (λ (n : ℕ). (i : ℕ) × (pause : ℕ) × StartsAt events i n pause) one (begun_in events k started));
  by_pairs = λ j other same. (let one : k ≡ j = cc in let what : call ≡ other = cc in rw (sym one, sym what) by);
  asked = λ j reply same. absurd cc;
  good = λ j reply same. absurd cc;
})

pub answer_grows : (job : JobView) (events : List RemoteEvent) (k : ℕ) (reply : Reply) → IsRemoteHistory job events → IsLegalFor job (plain events ++ event.Answer k reply ∷ []) → IsSent events k → IsGoodReply reply → IsRemoteHistory job (events ++ Answer k reply ∷ [])
answer_grows job events k reply is legal there good = grown job events (Answer k reply) is (record {
  legal = rw (plain_more events (Answer k reply)) legal;
  fresh = λ j call same. absurd cc;
  begun = λ j call same. absurd cc;
  by_pairs = λ j call same. absurd cc;
  asked = λ j other same. (let one : k ≡ j = cc in subst (IsSent events) one there);
  good = λ j other same. (let what : reply ≡ other = cc in subst IsGoodReply what good);
})

-- nothing came yet
pub none_legal : (job : JobView) → IsLegalFor job [] → IsRemoteHistory job []
none_legal job legal = record {
  legal = legal;
  sent_once = λ i j k call other a b. absurd (none_sent k (i, call, a));
  sent_started = λ i k call a. absurd (none_sent k (i, call, a));
  sent_is = λ i k call a. absurd (none_sent k (i, call, a));
  answer_sent = λ i k reply a. (let within = slice_get_within [] i (Answer k reply) a in absurd (omega (arith, within)));
  good = λ i k reply a. (let within = slice_get_within [] i (Answer k reply) a in absurd (omega (arith, within)));
}

-- a call for which something was sent is started
pub begun_where_sent : (job : JobView) (events : List RemoteEvent) (k : ℕ) → IsRemoteHistory job events → IsSent events k → IsStarted (plain events) k
begun_where_sent job events k is there =
    let begun = is.sent_started there.0 k there.1 there.2 in
    starts_plain events begun.0 begun.1 begun.3
  where
    next : (first : RemoteEvent) (others : List RemoteEvent) → IsStarted (plain others) k → IsStarted (plain (first ∷ others)) k
    next (Start j pause) others found = (suc found.0, found.1, found.2)
    next (Sent j call) others found = found
    next (Answer j reply) others found = (suc found.0, found.1, found.2)

    starts_plain : (list : List RemoteEvent) (i pause : ℕ) → StartsAt list i k pause → IsStarted (plain list) k
    starts_plain [] i pause at = absurd cc
    starts_plain (Start j p ∷ others) zero pause at = (zero, pause, cc)
    starts_plain (Sent j call ∷ others) zero pause at = absurd cc
    starts_plain (Answer j reply ∷ others) zero pause at = absurd cc
    starts_plain (first ∷ others) (suc i) pause at = next first others (starts_plain others i pause at)

-- and waits where it is not answered
pub waits_where_sent : (job : JobView) (events : List RemoteEvent) (k : ℕ) → IsRemoteHistory job events → IsSent events k → (IsAnswered (plain events) k → ⊥) → IsWaiting (plain events) k
waits_where_sent job events k is there unanswered = (begun_where_sent job events k is there, unanswered)

-- a call that waited may be answered once it is sent
pub sent_open : (events : List RemoteEvent) (k : ℕ) (call : Call) → IsWaiting (plain events) k → IsSent (events ++ Sent k call ∷ []) k × (IsAnswered (plain (events ++ Sent k call ∷ [])) k → ⊥)
sent_open events k call waits =
    let same = plain_more events (Sent k call) ∙ append-nil (plain events) in
    ((length events, call, last_at events (Sent k call)), subst (λ (l : List Event). IsAnswered l k → ⊥) (sym same) waits.1)
