-- In each session its first calls are sent, in order.
use Rattle.std.proofs.Common.{◌≡◌, ℕ, zero, suc, ◌+◌, ◌≤◌, inl, inr, Bool, true, false, List, [], ◌∷◌, ◌++◌, length, take, Some, refl, sym, ap, subst, ◌∙◌, append-nil, arith}
use Rattle.std.specs.Prelude.{slice_get, count_by}
use Rattle.std.specs.List.{filter}
use Rattle.std.proofs.lemmas.Bool.{cases_Bool, cases_eq, cases_lt, eq-eqb, ne_eqb}
use Rattle.std.proofs.lemmas.List.{length-append}
use Rattle.std.proofs.lemmas.List.Concat.{flat_map-append}
use Rattle.std.proofs.lemmas.Option.{same_Some}
use Rattle.desk_values.specs.declared.call.Call.{Call}
use Rattle.desk_values.specs.declared.capture.Captured.{Captured}
use Rattle.desk_values.specs.declared.capture.Event.TheVariants as event
use Rattle.captured_calls.proofs.Counts.{count_no, count_yes}
use Rattle.captured_calls.specs.Sessions.{calls_of, is_of as is_captured_of}
use Rattle.id_pairs.specs.Pairs.{IdPair}
use Rattle.remap_ids.specs.Sent.{sent}
use Rattle.replay_history.specs.Gap.{IsCallAt, IsJustBefore}
use Rattle.replay_history.specs.History.{IsAnswered, IsStarted}
use Rattle.replay_job.specs.Job.{IsReplayable, JobView}
use Rattle.law_histories.proofs.Items.{at_push, last_at}
use Rattle.law_histories.proofs.Places.{one_before, places_rise, same_call}
use Rattle.replay_schedule.proofs.Gates.Gates.{in_place}
use Rattle.remote_desk.specs.declared.event.RemoteEvent.{RemoteEvent}
use Rattle.remote_desk.specs.declared.event.RemoteEvent.TheVariants.{Start, Sent, Answer}
use Rattle.remote_desk.specs.History.{AnswersAt, IsRemoteHistory, IsSent, plain}
use Rattle.remote_desk.specs.Inside.{ByPlace}
use Rattle.remote_desk.specs.Said.{AreAlike, AreInOrder, is_of, sent_at, sent_in}
use Rattle.remote_desk.proofs.Histories.{none_sent, sent_in as sent_here, sent_kept}

-- ---- lists

-- an item that passes stands among those that pass behind as many as pass before it
filter_at : {X : Type 0} (f : X → Bool) (xs : List X) (k : ℕ) (x : X) → slice_get xs k ≡ Some x → f x ≡ true → slice_get (filter f xs) (count_by f (take k xs)) ≡ Some x
filter_at f [] k x at passes = absurd cc
filter_at f (y ∷ xs) zero x at passes = let same : y ≡ x = same_Some y x at in rw (same, passes) refl
filter_at {X = X} f (y ∷ xs) (suc k) x at passes = elim (cases_Bool (f y)) [
  | inl is_so ↦
      let more : count_by f (take (suc k) (y ∷ xs)) ≡ suc (count_by f (take k xs)) = count_yes f y (take k xs) is_so ∙ omega arith in
      let front : filter f (y ∷ xs) ≡ y ∷ filter f xs = rw is_so refl in
      ap (λ (l : List X). slice_get l (count_by f (take (suc k) (y ∷ xs)))) front ∙ ap (slice_get (y ∷ filter f xs)) more ∙ filter_at f xs k x at passes
  | inr is_not ↦
      let same : count_by f (take (suc k) (y ∷ xs)) ≡ count_by f (take k xs) = count_no f y (take k xs) is_not in
      let front : filter f (y ∷ xs) ≡ filter f xs = rw is_not refl in
      ap (λ (l : List X). slice_get l (count_by f (take (suc k) (y ∷ xs)))) front ∙ ap (slice_get (filter f xs)) same ∙ filter_at f xs k x at passes
]

-- ---- the calls of one event more

sent_more : (calls : List Captured) (events : List RemoteEvent) (e : RemoteEvent) (session : ℕ) → sent_in calls (events ++ e ∷ []) session ≡ sent_in calls events session ++ sent_at calls session e
sent_more calls events e session = flat_map-append (sent_at calls session) events (e ∷ []) ∙ ap (λ (l : List Call). sent_in calls events session ++ l) (append-nil (sent_at calls session e))

pub none_by_place : (calls : List Captured) → ByPlace calls []
none_by_place calls k call at = (λ there. absurd (none_sent k there), λ less. absurd (omega (arith, less)))

pub none_in_order : (job : JobView) → AreInOrder job []
none_in_order job session i one at = absurd cc

-- an event that sends nothing
module _ (job : JobView) (events : List RemoteEvent) (e : RemoteEvent) (silent : (session : ℕ) → sent_at job.calls session e ≡ []) (never : (k : ℕ) (call : Call) → e ≡ Sent k call → ⊥) where
  same_sent : (session : ℕ) → sent_in job.calls (events ++ e ∷ []) session ≡ sent_in job.calls events session
  same_sent session = sent_more job.calls events e session ∙ ap (λ (l : List Call). sent_in job.calls events session ++ l) (silent session) ∙ append-nil (sent_in job.calls events session)

  pub places_kept : ByPlace job.calls events → ByPlace job.calls (events ++ e ∷ [])
  places_kept by k call at = (
    λ there. rw (same_sent call.session) (elim (sent_here events e k there) [ inl before ↦ (by k call at).0 before | inr new ↦ absurd (never k new.0 new.1) ]),
    λ less. sent_kept events e k ((by k call at).1 (rw (same_sent call.session) at less)),
  )

  pub order_kept : AreInOrder job events → AreInOrder job (events ++ e ∷ [])
  order_kept order session i one at = order session i one (rw (same_sent session) at at)

-- ---- the next call of a session

-- an answered call was sent
answered_sent : (job : JobView) (events : List RemoteEvent) (k : ℕ) → IsRemoteHistory job events → IsAnswered (plain events) k → IsSent events k
answered_sent job events k is answered =
    let there = back events answered.0 answered.2 in
    let sent = is.answer_sent there.0 k answered.1 there.1 in
    (sent.0, sent.1, sent.3)
  where
    shift : (first : RemoteEvent) (others : List RemoteEvent) → (i : ℕ) × AnswersAt others i k answered.1 → (i : ℕ) × AnswersAt (first ∷ others) i k answered.1
    shift first others found = (suc found.0, found.1)

    back : (list : List RemoteEvent) (i : ℕ) → slice_get (plain list) i ≡ Some (event.Answer k answered.1) → (i : ℕ) × AnswersAt list i k answered.1
    back [] i at = absurd cc
    back (Start j pause ∷ others) zero at = absurd cc
    back (Start j pause ∷ others) (suc i) at = shift (Start j pause) others (back others i at)
    back (Sent j call ∷ others) i at = shift (Sent j call) others (back others i at)
    back (Answer j reply ∷ others) zero at = (zero, cc)
    back (Answer j reply ∷ others) (suc i) at = shift (Answer j reply) others (back others i at)

module _ (job : JobView) (events : List RemoteEvent) (replayable : IsReplayable job) (is : IsRemoteHistory job events) (by : ByPlace job.calls events) (k : ℕ) (captured : Captured) (at : IsCallAt job.calls k captured) (fresh : IsSent events k → ⊥) (started : IsStarted (plain events) k) where
  abbrev calls : List Captured
  calls = job.calls

  abbrev own : ℕ
  own = captured.session

  low : length (sent_in calls events own) ≤ captured.place
  low = elim (cases_lt captured.place (length (sent_in calls events own))) [ inl less ↦ absurd (fresh ((by k captured at).1 less)) | inr more ↦ more ]

  high : captured.place ≤ length (sent_in calls events own)
  high = elim (cases_eq captured.place 0) [
    | inl first ↦ omega (arith, first)
    | inr later ↦
        let one = one_before calls (in_place job replayable) k captured at (omega (arith, later)) in
        let before = one.1 in
        let just : IsJustBefore before captured = one.2.2 in
        let waited = is.legal.session_waits started.0 k started.1 started.2 captured before one.0 at one.2.1 just in
        let there = answered_sent job events one.0 is (waited.0, waited.1, waited.3) in
        let less = (by one.0 before one.2.1).0 there in
        let same = ap (λ (s : ℕ). length (sent_in calls events s)) just.session in
        omega (arith, less, same, just.place)
  ]

  -- as many calls of its session were sent as stand before it
  pub place_is : captured.place ≡ length (sent_in calls events own)
  place_is = omega (arith, low, high)

  of_own : (session : ℕ) → session ≡ own → is_of session (slice_get calls k) ≡ true
  of_own session same = rw at (eq-eqb captured.session session (sym same))

  of_other : (session : ℕ) → (session ≡ own → ⊥) → is_of session (slice_get calls k) ≡ false
  of_other session other = rw at (ne_eqb captured.session session (λ same. other (sym same)))

  module _ (call : Call) where
    own_more : (session : ℕ) → session ≡ own → sent_in calls (events ++ Sent k call ∷ []) session ≡ sent_in calls events session ++ call ∷ []
    own_more session same = sent_more calls events (Sent k call) session ∙ rw (of_own session same) refl

    other_same : (session : ℕ) → (session ≡ own → ⊥) → sent_in calls (events ++ Sent k call ∷ []) session ≡ sent_in calls events session
    other_same session other = sent_more calls events (Sent k call) session ∙ rw (of_other session other) (append-nil (sent_in calls events session))

    -- the only call of the session at its place
    only : (j : ℕ) (one : Captured) → IsCallAt calls j one → one.session ≡ own → one.place ≡ captured.place → j ≡ k
    only j one jt same place = elim (cases_lt j k) [
      | inl less ↦ let rise = places_rise calls (in_place job replayable) j k one captured jt at same less in absurd (omega (arith, rise, place))
      | inr over ↦ elim (cases_eq j k) [
        | inl here ↦ here
        | inr other ↦ let rise = places_rise calls (in_place job replayable) k j captured one at jt (sym same) (omega (arith, over, other)) in absurd (omega (arith, rise, place))
      ]
    ]

    pub places_more : ByPlace calls (events ++ Sent k call ∷ [])
    places_more j one jt = elim (cases_eq one.session own) [
      | inl same ↦
          let more : length (sent_in calls (events ++ Sent k call ∷ []) one.session) ≡ length (sent_in calls events one.session) + 1 =
          ap length (own_more one.session same) ∙ length-append (sent_in calls events one.session) (call ∷ []) in
          let many = ap (λ (s : ℕ). length (sent_in calls events s)) same in (
            λ there. elim (sent_here events (Sent k call) j there) [
              | inl before ↦ let less = (by j one jt).0 before in omega (arith, less, more)
              | inr new ↦ (let here : k ≡ j = cc in let it : one ≡ captured = same_call calls j one captured jt (subst (λ (n : ℕ). IsCallAt calls n captured) here at) in
                  omega (arith, place_is, ap (λ (c : Captured). c.place) it, more, many))
            ],
            λ less. elim (cases_lt one.place (length (sent_in calls events one.session))) [
              | inl before ↦ sent_kept events (Sent k call) j ((by j one jt).1 before)
              | inr last ↦
                  let here = only j one jt same (omega (arith, less, more, last, many, place_is)) in
                  (length events, call, subst (λ (n : ℕ). slice_get (events ++ Sent k call ∷ []) (length events) ≡ Some (Sent n call)) (sym here) (last_at events (Sent k call)))
            ],
          )
      | inr other ↦
          let same = ap length (other_same one.session other) in (
            λ there. elim (sent_here events (Sent k call) j there) [
              | inl before ↦ let less = (by j one jt).0 before in omega (arith, less, same)
              | inr new ↦ (let here : k ≡ j = cc in absurd (other (ap (λ (c : Captured). c.session) (same_call calls j one captured jt (subst (λ (n : ℕ). IsCallAt calls n captured) here at)))))
            ],
            λ less. sent_kept events (Sent k call) j ((by j one jt).1 (omega (arith, less, same))),
          )
    ]

    -- where it is sent by some pairs of like ids
    pub order_more : (pairs : List IdPair) → AreAlike pairs → call ≡ sent pairs job.remap captured.call → AreInOrder job events → AreInOrder job (events ++ Sent k call ∷ [])
    order_more pairs alike is_by order session i one there = elim (cases_eq session own) [
      | inl same ↦ elim (at_push (sent_in calls events session) call i one (rw (own_more session same) at there)) [
        | inl before ↦ order session i one before
        | inr last ↦
            let place : i ≡ count_by (is_captured_of session) (take k calls) =
            last.0 ∙ ap (λ (s : ℕ). length (sent_in calls events s)) same ∙ sym place_is ∙ (in_place job replayable k captured at).place ∙ ap (λ (s : ℕ). count_by (is_captured_of s) (take k calls)) (sym same) in
            (captured, ap (slice_get (calls_of session calls)) place ∙ filter_at (is_captured_of session) calls k captured at (eq-eqb captured.session session (sym same)), (pairs, alike, sym last.1 ∙ is_by))
      ]
      | inr other ↦ order session i one (rw (other_same session other) at there)
    ]
