-- What is said of a session, where its calls are answered.
use Rattle.std.proofs.Common.{◌≡◌, ℕ, zero, suc, ◌==◌, inl, inr, true, List, [], ◌∷◌, ◌++◌, map, Option, None, Some, refl, ap}
use Rattle.std.specs.Prelude.{IfSome, slice_get}
use Rattle.std.specs.List.{AllByRecursion, flat_map}
use Rattle.std.specs.Option.{option_or}
use Rattle.std.proofs.lemmas.Bool.{cases_Bool, eq-eqb, eqb-true}
use Rattle.std.proofs.lemmas.Option.{same_Some, slice_get_within}
use Rattle.desk_values.specs.declared.call.Call.{Call}
use Rattle.desk_values.specs.declared.call.Reply.{Reply}
use Rattle.desk_values.specs.declared.capture.Captured.{Captured}
use Rattle.desk_values.specs.declared.capture.Event.TheVariants as event
use Rattle.replay_history.specs.History.{AnswersAll, IsAnswered}
use Rattle.replay_job.specs.Job.{JobView}
use Rattle.desk_values.specs.Good.{IsGoodReply}
use Rattle.remote_link.specs.declared.heard.Heard.{Heard}
use Rattle.remote_link.specs.Heard.{AreGood}
use Rattle.remote_desk.specs.declared.event.RemoteEvent.{RemoteEvent}
use Rattle.remote_desk.specs.declared.event.RemoteEvent.TheVariants.{Start, Sent, Answer}
use Rattle.remote_desk.specs.History.{AnswersAt, IsRemoteHistory, plain}
use Rattle.remote_desk.specs.Said.{is_of, reply_by, reply_to, said_at, said_in, sent_at, sent_in}

-- the reply to an answered call is found
pub reply_found : (events : List RemoteEvent) (k : ℕ) → IsAnswered (plain events) k → (reply : Reply) × (reply_to k events ≡ Some reply)
reply_found events k answered = go events answered.0 answered.2
  where
    go : (list : List RemoteEvent) (i : ℕ) → slice_get (plain list) i ≡ Some (event.Answer k answered.1) → (reply : Reply) × (reply_to k list ≡ Some reply)
    go [] i at = absurd cc
    go (Start j pause ∷ others) zero at = absurd cc
    go (Start j pause ∷ others) (suc i) at = go others i at
    go (Sent j call ∷ others) i at = go others i at
    go (Answer j reply ∷ others) zero at = let same : j ≡ k = cc in (reply, rw (eq-eqb j k same) refl)
    go (Answer j reply ∷ others) (suc i) at = elim (cases_Bool (j == k)) [
      | inl is_so ↦ (reply, rw is_so refl)
      | inr is_not ↦ let found = go others i at in (found.0, rw is_not found.1)
    ]

-- ---- one event more

or_none : {A : Type 0} (x : Option A) → option_or x None ≡ x
or_none None = refl
or_none (Some x) = refl

pub reply_more : (k : ℕ) (events : List RemoteEvent) (e : RemoteEvent) → reply_to k (events ++ e ∷ []) ≡ option_or (reply_to k events) (reply_by k e)
reply_more k [] e = or_none (reply_by k e)
reply_more k (first ∷ events) e = go (reply_by k first) (reply_more k events e)
  where
    go : (here : Option Reply) → reply_to k (events ++ e ∷ []) ≡ option_or (reply_to k events) (reply_by k e) → option_or here (reply_to k (events ++ e ∷ [])) ≡ option_or (option_or here (reply_to k events)) (reply_by k e)
    go None later = later
    go (Some reply) later = refl

-- ---- what is found

-- the reply that is found is one of the events
pub reply_at : (events : List RemoteEvent) (k : ℕ) (reply : Reply) → reply_to k events ≡ Some reply → (i : ℕ) × AnswersAt events i k reply
reply_at [] k reply is = absurd cc
reply_at (Start j pause ∷ others) k reply is = let later = reply_at others k reply is in (suc later.0, later.1)
reply_at (Sent j call ∷ others) k reply is = let later = reply_at others k reply is in (suc later.0, later.1)
reply_at (Answer j other ∷ others) k reply is = elim (cases_Bool (j == k)) [
  | inl is_so ↦ let what : other ≡ reply = same_Some other reply (rw is_so at is) in let one : j ≡ k = eqb-true j k is_so in (zero, rw (one, what) refl)
  | inr is_not ↦ let later = reply_at others k reply (rw is_not at is) in (suc later.0, later.1)
]

good_of : (found : Option Reply) → ((reply : Reply) → found ≡ Some reply → IsGoodReply reply) → IfSome found IsGoodReply
good_of None each = tt
good_of (Some reply) each = each reply refl

pub there_is : (session : ℕ) (call : Option Captured) → is_of session call ≡ true → (one : Captured) × (call ≡ Some one)
there_is session None is = absurd cc
there_is session (Some one) is = (one, refl)

module _ (calls : List Captured) (events : List RemoteEvent) (session : ℕ) where
  -- the calls alone are those that were sent
  pub said_calls : map (λ (one : Heard). one.call) (said_in calls events session) ≡ sent_in calls events session
  said_calls = go events
    where
      go : (list : List RemoteEvent) → map (λ (one : Heard). one.call) (flat_map (said_at calls events session) list) ≡ flat_map (sent_at calls session) list
      go [] = refl
      go (Start k pause ∷ others) = go others
      go (Sent k call ∷ others) = elim (cases_Bool (is_of session (slice_get calls k))) [
        | inl is_so ↦ rw is_so (ap (λ (l : List Call). call ∷ l) (go others))
        | inr is_not ↦ rw is_not (go others)
      ]
      go (Answer k reply ∷ others) = go others

  -- each has a reply, where every call is answered
  pub said_replied : AnswersAll calls (plain events) → AllByRecursion (λ (one : Heard). (reply : Reply) × (one.reply ≡ Some reply)) (said_in calls events session)
  said_replied all = go events
    where
      go : (list : List RemoteEvent) → AllByRecursion (λ (one : Heard). (reply : Reply) × (one.reply ≡ Some reply)) (flat_map (said_at calls events session) list)
      go [] = tt
      go (Start k pause ∷ others) = go others
      go (Sent k call ∷ others) = elim (cases_Bool (is_of session (slice_get calls k))) [
        | inl is_so ↦
            let one = there_is session (slice_get calls k) is_so in
            let found = reply_found events k (all k (slice_get_within calls k one.0 one.1)) in
            rw is_so ((found.0, found.1), go others)
        | inr is_not ↦ rw is_not (go others)
      ]
      go (Answer k reply ∷ others) = go others

-- and each reply can be written
pub said_good : (job : JobView) (events : List RemoteEvent) (session : ℕ) → IsRemoteHistory job events → AreGood (said_in job.calls events session)
said_good job events session is = go events
  where
    good_to : (k : ℕ) → IfSome (reply_to k events) IsGoodReply
    good_to k = good_of (reply_to k events) (λ reply found. let at = reply_at events k reply found in is.good at.0 k reply at.1)

    go : (list : List RemoteEvent) → AreGood (flat_map (said_at job.calls events session) list)
    go [] = tt
    go (Start k pause ∷ others) = go others
    go (Sent k call ∷ others) = elim (cases_Bool (is_of session (slice_get job.calls k))) [
      | inl is_so ↦ rw is_so (good_to k, go others)
      | inr is_not ↦ rw is_not (go others)
    ]
    go (Answer k reply ∷ others) = go others
