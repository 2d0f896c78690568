-- What is said of a session behind which a call may be sent: each call before it is answered.
use Rattle.std.proofs.Common.{◌≡◌, ◌∙◌, ℕ, zero, suc, ◌<◌, inl, inr, List, [], ◌∷◌, Some, refl, sym, subst, arith}
use Rattle.std.specs.Prelude.{slice_get}
use Rattle.std.specs.List.{AllByRecursion, flat_map}
use Rattle.std.proofs.lemmas.Bool.{cases_Bool, cases_eq, cases_lt, eqb-true}
use Rattle.desk_values.specs.declared.call.Reply.{Reply}
use Rattle.desk_values.specs.declared.capture.Captured.{Captured}
use Rattle.desk_values.specs.declared.capture.Event.TheVariants as event
use Rattle.replay_history.specs.Gap.{IsCallAt, IsJustBefore}
use Rattle.replay_history.specs.History.{IsAnswered, IsStarted, IsWaiting}
use Rattle.replay_job.specs.Job.{IsReplayable, JobView}
use Rattle.replay_job.specs.Runs.{IsLegalFor}
use Rattle.law_histories.proofs.Places.{one_before, places_rise}
use Rattle.replay_schedule.proofs.Gates.Gates.{in_place}
use Rattle.remote_link.specs.declared.heard.Heard.{Heard}
use Rattle.remote_desk.specs.declared.event.RemoteEvent.{RemoteEvent}
use Rattle.remote_desk.specs.declared.event.RemoteEvent.TheVariants.{Start, Sent, Answer}
use Rattle.remote_desk.specs.History.{IsRemoteHistory, IsSent, plain}
use Rattle.remote_desk.specs.Said.{is_of, said_at, said_in}
use Rattle.remote_desk.proofs.Histories.{begun_where_sent}
use Rattle.remote_desk.proofs.Replies.{reply_found, there_is}

-- ---- the calls before a started one

module _ (job : JobView) (events : List RemoteEvent) (replayable : IsReplayable job) (legal : IsLegalFor job (plain events)) where
  -- a session has one call at a place
  only : (a b : ℕ) (x y : Captured) → IsCallAt job.calls a x → IsCallAt job.calls b y → x.session ≡ y.session → x.place ≡ y.place → a ≡ b
  only a b x y ax by same_session same_place = elim (cases_lt a b) [
    | inl less ↦ let rise = places_rise job.calls (in_place job replayable) a b x y ax by same_session less in absurd (omega (arith, rise, same_place))
    | inr over ↦ elim (cases_eq a b) [
      | inl here ↦ here
      | inr apart ↦ let rise = places_rise job.calls (in_place job replayable) b a y x by ax (sym same_session) (omega (arith, over, apart)) in absurd (omega (arith, rise, same_place))
    ]
  ]

  -- each call of its session before a started one is answered
  pub before_answered : (p k : ℕ) (captured : Captured) → IsCallAt job.calls k captured → captured.place ≡ p → IsStarted (plain events) k
      → (j : ℕ) (one : Captured) → IsCallAt job.calls j one → one.session ≡ captured.session → one.place < p → IsAnswered (plain events) j
  before_answered zero k captured at place started j one jt same less = absurd (omega (arith, less))
  before_answered (suc p) k captured at place started j one jt same less =
      let found = one_before job.calls (in_place job replayable) k captured at (omega (arith, place)) in
      let i = found.0 in
      let before = found.1 in
      let it = found.2.1 in
      let just : IsJustBefore before captured = found.2.2 in
      let waited = legal.session_waits started.0 k started.1 started.2 captured before i at it just in
      let begun = legal.answer_started waited.0 i waited.1 waited.3 in
      elim (cases_lt one.place before.place) [
        | inl less_still ↦ before_answered p i before it (let by = just.place in omega (arith, by, place)) (begun.0, begun.1, begun.3) j one jt (same ∙ sym just.session) (let by = just.place in omega (arith, by, place, less_still))
        | inr over ↦
            let even : one.place ≡ before.place = (let by = just.place in omega (arith, by, place, less, over)) in
            let here : j ≡ i = only j i one before jt it (same ∙ sym just.session) even in
            (waited.0, waited.1, subst (λ (n : ℕ). slice_get (plain events) waited.0 ≡ Some (event.Answer n waited.1)) (sym here) waited.3)
      ]

-- ---- the calls of an open call's session

-- where a call waits and nothing was sent for it, each call of its session for which something was sent is answered
pub sent_answered : (job : JobView) (events : List RemoteEvent) → IsReplayable job → IsRemoteHistory job events → (k : ℕ) (captured : Captured) → IsCallAt job.calls k captured → IsWaiting (plain events) k → (IsSent events k → ⊥)
    → (j : ℕ) (one : Captured) → IsSent events j → IsCallAt job.calls j one → one.session ≡ captured.session → IsAnswered (plain events) j
sent_answered job events replayable is k captured at waits fresh j one there jt same = elim (cases_lt one.place captured.place) [
  | inl less ↦ before_answered job events replayable is.legal captured.place k captured at refl waits.0 j one jt same less
  | inr over ↦ elim (cases_lt captured.place one.place) [
    | inl later ↦ absurd (waits.1 (before_answered job events replayable is.legal one.place j one jt refl (begun_where_sent job events j is there) k captured at (sym same) later))
    | inr under ↦
        let here : j ≡ k = only job events replayable is.legal j k one captured jt at same (omega (arith, over, under)) in
        absurd (fresh (subst (IsSent events) here there))
  ]
]

-- ---- what is said, where what was sent is answered

module _ (calls : List Captured) (events : List RemoteEvent) (session : ℕ) (each : (k : ℕ) (captured : Captured) → IsSent events k → slice_get calls k ≡ Some captured → captured.session ≡ session → IsAnswered (plain events) k) where
  pub said_answered : AllByRecursion (λ (one : Heard). (reply : Reply) × (one.reply ≡ Some reply)) (said_in calls events session)
  said_answered = go events (λ k there. there)
    where
      go : (list : List RemoteEvent) → ((k : ℕ) → IsSent list k → IsSent events k) → AllByRecursion (λ (one : Heard). (reply : Reply) × (one.reply ≡ Some reply)) (flat_map (said_at calls events session) list)
      go [] all = tt
      go (Start k pause ∷ others) all = go others (λ j there. all j (suc there.0, there.1, there.2))
      go (Sent k call ∷ others) all = elim (cases_Bool (is_of session (slice_get calls k))) [
        | inl is_so ↦
            let one = there_is session (slice_get calls k) is_so in
            let own : one.0.session ≡ session = eqb-true one.0.session session (rw one.1 at is_so) in
            let found = reply_found events k (each k one.0 (all k (zero, call, refl)) one.1 own) in
            rw is_so ((found.0, found.1), go others (λ j there. all j (suc there.0, there.1, there.2)))
        | inr is_not ↦ rw is_not (go others (λ j there. all j (suc there.0, there.1, there.2)))
      ]
      go (Answer k reply ∷ others) all = go others (λ j there. all j (suc there.0, there.1, there.2))
