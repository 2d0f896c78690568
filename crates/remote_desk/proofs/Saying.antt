-- What is said of each session with one sent call more, and with its reply.
use Rattle.std.proofs.Common.{◌≡◌, ◌∙◌, ℕ, zero, suc, inl, inr, true, false, List, [], ◌∷◌, ◌++◌, Option, None, Some, refl, sym, ap, subst, append-nil, if◌then◌else◌}
use Rattle.std.specs.Prelude.{slice_get}
use Rattle.std.specs.List.{flat_map}
use Rattle.std.specs.Option.{option_or}
use Rattle.std.proofs.lemmas.Bool.{cases_Bool, cases_eq, eq-eqb, ne_eqb}
use Rattle.std.proofs.lemmas.List.Concat.{flat_map-append}
use Rattle.desk_values.specs.declared.call.Call.{Call}
use Rattle.desk_values.specs.declared.call.Reply.{Reply}
use Rattle.desk_values.specs.declared.capture.Captured.{Captured}
use Rattle.replay_job.specs.Job.{JobView}
use Rattle.remote_link.specs.declared.heard.Heard.{Heard}
use Rattle.remote_link.specs.Heard.{heard}
use Rattle.remote_desk.specs.declared.event.RemoteEvent.{RemoteEvent}
use Rattle.remote_desk.specs.declared.event.RemoteEvent.TheVariants.{Start, Sent, Answer}
use Rattle.remote_desk.specs.History.{IsRemoteHistory, IsSent}
use Rattle.remote_desk.specs.Said.{is_of, reply_by, reply_to, said_at, said_in}
use Rattle.remote_desk.proofs.Replies.{reply_at, reply_more}

-- where the replies are the same, so is what is said
same_said : (calls : List Captured) (events others : List RemoteEvent) (session : ℕ) (list : List RemoteEvent) → ((k : ℕ) → IsSent list k → reply_to k others ≡ reply_to k events)
    → flat_map (said_at calls others session) list ≡ flat_map (said_at calls events session) list
same_said calls events others session [] same = refl
same_said calls events others session (Start k pause ∷ list) same = same_said calls events others session list (λ j there. same j (suc there.0, there.1, there.2))
same_said calls events others session (Sent k call ∷ list) same = elim (cases_Bool (is_of session (slice_get calls k))) [
  | inl is_so ↦
      let rest = same_said calls events others session list (λ j there. same j (suc there.0, there.1, there.2)) in
      rw is_so (ap (λ (r : Option Reply). heard call r ∷ flat_map (said_at calls others session) list) (same k (zero, call, refl)) ∙ ap (λ (l : List Heard). heard call (reply_to k events) ∷ l) rest)
  | inr is_not ↦ rw is_not (same_said calls events others session list (λ j there. same j (suc there.0, there.1, there.2)))
]
same_said calls events others session (Answer k reply ∷ list) same = same_said calls events others session list (λ j there. same j (suc there.0, there.1, there.2))

none_more : (x : Option Reply) → option_or x None ≡ x
none_more None = refl
none_more (Some reply) = refl

-- a start says nothing
pub start_silent : (calls : List Captured) (events : List RemoteEvent) (k pause session : ℕ) → said_in calls (events ++ Start k pause ∷ []) session ≡ said_in calls events session
start_silent calls events k pause session =
    let more = events ++ Start k pause ∷ [] in
    let by = said_at calls more session in
    flat_map-append by events (Start k pause ∷ []) ∙ append-nil (flat_map by events) ∙ same_said calls events more session events (λ j there. reply_more j events (Start k pause) ∙ none_more (reply_to j events))

module _ (job : JobView) (events : List RemoteEvent) (is : IsRemoteHistory job events) (k : ℕ) (call : Call) (fresh : IsSent events k → ⊥) (session : ℕ) where
  abbrev calls : List Captured
  calls = job.calls

  abbrev sent_on : List RemoteEvent
  sent_on = events ++ Sent k call ∷ []

  abbrev answered_on : Reply → List RemoteEvent
  answered_on reply = sent_on ++ Answer k reply ∷ []

  -- no reply came to it
  no_reply : reply_to k events ≡ None
  no_reply = go (reply_to k events) refl
    where
      go : (found : Option Reply) → reply_to k events ≡ found → reply_to k events ≡ None
      go None same = same
      go (Some reply) same = let at = reply_at events k reply same in let asked = is.answer_sent at.0 k reply at.1 in absurd (fresh (asked.0, asked.1, asked.3))

  or_none : (x : Option Reply) → option_or x None ≡ x
  or_none None = refl
  or_none (Some x) = refl

  same_sent : (j : ℕ) → reply_to j sent_on ≡ reply_to j events
  same_sent j = reply_more j events (Sent k call) ∙ or_none (reply_to j events)

  same_answered : (reply : Reply) (j : ℕ) → IsSent events j → reply_to j (answered_on reply) ≡ reply_to j events
  same_answered reply j there = elim (cases_eq k j) [
    | inl here ↦ absurd (fresh (subst (IsSent events) (sym here) there))
    | inr apart ↦
        let none : reply_by j (Answer k reply) ≡ None = rw (ne_eqb k j apart) refl in
        reply_more j sent_on (Answer k reply) ∙ ap (λ (r : Option Reply). option_or (reply_to j sent_on) r) none ∙ or_none (reply_to j sent_on) ∙ same_sent j
  ]

  -- the reply is its own
  own_reply : (reply : Reply) → reply_to k (answered_on reply) ≡ Some reply
  own_reply reply =
      let here : reply_by k (Answer k reply) ≡ Some reply = rw (eq-eqb k k refl) refl in
      reply_more k sent_on (Answer k reply) ∙ ap (λ (r : Option Reply). option_or r (reply_by k (Answer k reply))) (same_sent k ∙ no_reply) ∙ here

  -- what the sent call itself adds
  adds : List RemoteEvent → List Heard
  adds whole = if is_of session (slice_get calls k) then heard call (reply_to k whole) ∷ [] else []

  said_sent : said_in calls sent_on session ≡ said_in calls events session ++ adds sent_on
  unfolding adds
  said_sent =
      flat_map-append (said_at calls sent_on session) events (Sent k call ∷ [])
      ∙ ap (λ (l : List Heard). l ++ flat_map (said_at calls sent_on session) (Sent k call ∷ [])) (same_said calls events sent_on session events (λ j there. same_sent j))
      ∙ ap (λ (l : List Heard). said_in calls events session ++ l) (append-nil (said_at calls sent_on session (Sent k call)))

  said_answered_on : (reply : Reply) → said_in calls (answered_on reply) session ≡ said_in calls events session ++ adds (answered_on reply)
  unfolding adds
  said_answered_on reply =
      let by = said_at calls (answered_on reply) session in
      flat_map-append by sent_on (Answer k reply ∷ []) ∙ append-nil (flat_map by sent_on) ∙ flat_map-append by events (Sent k call ∷ [])
      ∙ ap (λ (l : List Heard). l ++ flat_map by (Sent k call ∷ [])) (same_said calls events (answered_on reply) session events (same_answered reply))
      ∙ ap (λ (l : List Heard). said_in calls events session ++ l) (append-nil (by (Sent k call)))

  -- in another session nothing
  pub sent_elsewhere : is_of session (slice_get calls k) ≡ false → said_in calls sent_on session ≡ said_in calls events session
  unfolding adds
  sent_elsewhere is_not = said_sent ∙ rw is_not (append-nil (said_in calls events session))

  pub answered_elsewhere : (reply : Reply) → is_of session (slice_get calls k) ≡ false → said_in calls (answered_on reply) session ≡ said_in calls events session
  unfolding adds
  answered_elsewhere reply is_not = said_answered_on reply ∙ rw is_not (append-nil (said_in calls events session))

  -- in its own the call, and then its reply
  pub sent_here : is_of session (slice_get calls k) ≡ true → said_in calls sent_on session ≡ said_in calls events session ++ heard call None ∷ []
  unfolding adds
  sent_here is_so = said_sent ∙ rw (is_so, same_sent k, no_reply) refl

  pub answered_here : (reply : Reply) → is_of session (slice_get calls k) ≡ true → said_in calls (answered_on reply) session ≡ said_in calls events session ++ heard call (Some reply) ∷ []
  unfolding adds
  answered_here reply is_so = said_answered_on reply ∙ rw (is_so, own_reply reply) refl
