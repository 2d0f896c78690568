-- A desk on which one call after the other is answered.
use Rattle.std.proofs.Common.{◌≡◌, ℕ, zero, suc, ◌+◌, ◌<◌, inl, inr, Bool, false, List, [], ◌∷◌, ◌++◌, length, take, refl, sym, ap, subst, ◌∙◌, arith}
use Rattle.std.proofs.lemmas.Bool.{cases_Bool, ltb-false, ltb-true}
use Rattle.std.proofs.Math.Dec.{ltb}
use Rattle.std.proofs.lemmas.List.{append_assoc, append-nil}
use Rattle.std.proofs.lemmas.Option.{slice_get_within}
use Rattle.desk_values.specs.declared.call.Reply.{Reply}
use Rattle.desk_values.specs.declared.capture.Event.{Event}
use Rattle.desk_values.specs.declared.capture.Event.TheVariants.{Start, Answer}
use Rattle.replay_history.specs.History.{IsAnswered}
use Rattle.law_histories.proofs.Items.{at_push, kept_at, last_at}
use Rattle.replay_job.specs.Runs.{IsFirstOpen, IsPick}
use Rattle.replay_job.specs.Job.{JobView}
use Rattle.replay_lanes.specs.Inside.Courses.{CourseView, course_of, started}
use Rattle.replay_lanes.specs.Finishing.{GoesOn, StartsArePicks}
use Rattle.replay_lanes.specs.Inside.Turns.{IsBegun}

-- after so many turns so many calls are answered, on the desk of this job that had these events
pub record IsBehind (old desk : CourseView) (turn : ℕ) : Type 0 where
  pub job_is : desk.job ≡ old.job
  pub going : desk.stopped ≡ false
  pub goes_on : GoesOn old.history desk.history
  pub front : (j : ℕ) → j < turn → IsAnswered desk.history j

-- what was answered is answered where the events go on
answered_on : (events more : List Event) (k : ℕ) → IsAnswered events k → IsAnswered (events ++ more) k
answered_on events more k answered = (answered.0, answered.1, kept_at events more answered.0 (Answer k answered.1) answered.2)

pub on_and_on : (first next last : List Event) → GoesOn first next → GoesOn next last → GoesOn first last
on_and_on first next last one two = (one.0 ++ two.0, two.1 ∙ (ap (λ (h : List Event). h ++ two.0) one.1 ∙ append_assoc first one.0 two.0))

pub begins : (desk : CourseView) → desk.stopped ≡ false → IsBehind desk desk 0
begins desk going = record { job_is = refl; going = going; goes_on = ([], sym (append-nil desk.history)); front = λ j below. absurd (omega arith) }

-- a desk after a call was begun: its job, whether it is stopped, its events
pub begun_is : (old : CourseView) (k : ℕ) (new : CourseView) → IsBegun old k new → (new.job ≡ old.job) × (new.stopped ≡ old.stopped) × GoesOn old.history new.history
begun_is old k new (inl same) = (ap (λ (d : CourseView). d.job) same, ap (λ (d : CourseView). d.stopped) same, ([], ap (λ (d : CourseView). d.history) same ∙ sym (append-nil old.history)))
begun_is old k new (inr started) = (ap (λ (d : CourseView). d.job) started.1, ap (λ (d : CourseView). d.stopped) started.1, (Start k started.0 ∷ [], ap (λ (d : CourseView). d.history) started.1))

-- one after a call was answered
abbrev pub IsAnswer : CourseView → ℕ → CourseView → Type 0
IsAnswer old k new = (reply : Reply) × (new ≡ record old { history = old.history ++ Answer k reply ∷ [] })

-- told part by part
pub answered_course : (job job' : JobView) (history history' : List Event) (stopped stopped' : Bool) (k : ℕ) → (reply : Reply) × (history' ≡ history ++ Answer k reply ∷ []) → job' ≡ job → stopped' ≡ stopped → IsAnswer (course_of job history stopped) k (course_of job' history' stopped')
answered_course job job' history history' stopped stopped' k answer same_job same_stop = (answer.0, λ i. record { job = same_job i; history = answer.1 i; stopped = same_stop i })

-- after a start, told part by part
pub started_course : (job job' : JobView) (history history' : List Event) (stopped stopped' : Bool) (k pause : ℕ) → history' ≡ history ++ Start k pause ∷ [] → job' ≡ job → stopped' ≡ stopped → course_of job' history' stopped' ≡ started (course_of job history stopped) k pause
started_course job job' history history' stopped stopped' k pause more same_job same_stop = λ i. record { job = same_job i; history = more i; stopped = same_stop i }

-- and after it was answered
answer_is : (old : CourseView) (k : ℕ) (new : CourseView) → IsAnswer old k new → (new.job ≡ old.job) × (new.stopped ≡ old.stopped) × ((reply : Reply) × (new.history ≡ old.history ++ Answer k reply ∷ []))
answer_is old k new answer = (ap (λ (d : CourseView). d.job) answer.1, ap (λ (d : CourseView). d.stopped) answer.1, (answer.0, ap (λ (d : CourseView). d.history) answer.1))

-- what was answered stays so, and the call is
pub answer_more : (desk begun new : CourseView) (k : ℕ) → IsBegun desk k begun → IsAnswer begun k new → ((j : ℕ) → IsAnswered desk.history j → IsAnswered new.history j) × IsAnswered new.history k
answer_more desk begun new k begin answer =
    let b = begun_is desk k begun begin in
    let a = answer_is begun k new answer in
    let on = on_and_on desk.history begun.history new.history b.2 (Answer k a.2.0 ∷ [], a.2.1) in (
      λ j done. subst (λ (h : List Event). IsAnswered h j) (sym on.1) (answered_on desk.history on.0 j done),
      subst (λ (h : List Event). IsAnswered h k) (sym a.2.1) (length begun.history, a.2.0, last_at begun.history (Answer k a.2.0)),
    )

-- ---- the starts of a lane

take_before : (xs ys : List Event) (i : ℕ) → i < length xs → take i (xs ++ ys) ≡ take i xs
take_before [] ys i within = absurd (omega (arith, within))
take_before (x ∷ xs) ys zero within = refl
take_before (x ∷ xs) ys (suc i) within = ap (λ (l : List Event). x ∷ l) (take_before xs ys i (omega (arith, within)))

take_here : (xs : List Event) (x : Event) (i : ℕ) → i ≡ length xs → take i (xs ++ x ∷ []) ≡ xs
take_here [] x zero here = refl
take_here [] x (suc i) here = absurd (omega (arith, here))
take_here (y ∷ xs) x zero here = absurd (omega (arith, here))
take_here (y ∷ xs) x (suc i) here = ap (λ (l : List Event). y ∷ l) (take_here xs x i (omega (arith, here)))

module _ (job : JobView) (lane : List ℕ) (first : List Event) where
  pub no_picks : StartsArePicks job lane first first
  no_picks i k pause past at = absurd (let within = slice_get_within first i (Start k pause) at in omega (arith, past, within))

  -- with one event more, which is the start of what the lane takes there, or no start
  picks_push : (events : List Event) (event : Event) → StartsArePicks job lane first events → ((k pause : ℕ) → event ≡ Start k pause → IsPick job events lane k) → StartsArePicks job lane first (events ++ event ∷ [])
  picks_push events event picks is i k pause past at = elim (at_push events event i (Start k pause) at) [
    | inl there ↦ subst (λ (h : List Event). IsPick job h lane k) (sym (take_before events (event ∷ []) i (slice_get_within events i (Start k pause) there))) (picks i k pause past there)
    | inr last ↦ subst (λ (h : List Event). IsPick job h lane k) (sym (take_here events event i last.0)) (is k pause last.1)
  ]

  module _ (old begun : CourseView) (k : ℕ) (picks : StartsArePicks job lane first old.history) (pick : IsPick job old.history lane k) where
    pub picks_begun : IsBegun old k begun → StartsArePicks job lane first begun.history
    picks_begun (inl same) = subst (λ (d : CourseView). StartsArePicks job lane first d.history) (sym same) picks
    picks_begun (inr start) = subst (λ (d : CourseView). StartsArePicks job lane first d.history) (sym start.1)
        (picks_push old.history (Start k start.0) picks (λ n pause is. let same : k ≡ n = cc is in subst (λ (m : ℕ). IsPick job old.history lane m) same pick))

    pub picks_more : (new : CourseView) → IsBegun old k begun → IsAnswer begun k new → StartsArePicks job lane first new.history
    picks_more new begin answer =
        let a = answer_is begun k new answer in
        subst (λ (h : List Event). StartsArePicks job lane first h) (sym a.2.1) (picks_push begun.history (Answer k a.2.0) (picks_begun begin) (λ n pause is. absurd (cc is)))

module _ (old desk : CourseView) (turn : ℕ) (behind : IsBehind old desk turn) (k : ℕ) where
  module _ (events : List Event) (on : GoesOn desk.history events) where
    kept : (j : ℕ) → IsAnswered desk.history j → IsAnswered events j
    kept j answered = subst (λ (h : List Event). IsAnswered h j) (sym on.1) (answered_on desk.history on.0 j answered)

  module _ (begun new : CourseView) (begin : IsBegun desk k begun) (answer : IsAnswer begun k new) where
    further : GoesOn desk.history new.history
    further = let b = begun_is desk k begun begin in let a = answer_is begun k new answer in on_and_on desk.history begun.history new.history b.2 (Answer k a.2.0 ∷ [], a.2.1)

    own : IsAnswered new.history k
    own = let a = answer_is begun k new answer in subst (λ (h : List Event). IsAnswered h k) (sym a.2.1) (length begun.history, a.2.0, last_at begun.history (Answer k a.2.0))

    -- a call is answered: no more is said of those before the turn than before
    pub behind_still : IsBehind old new turn
    behind_still =
        let b = begun_is desk k begun begin in
        let a = answer_is begun k new answer in
        record {
          job_is = a.0 ∙ (b.0 ∙ behind.job_is);
          going = a.1 ∙ (b.1 ∙ behind.going);
          goes_on = on_and_on old.history desk.history new.history behind.goes_on further;
          front = λ j below. kept new.history further j (behind.front j below);
        }

    -- where it is the first open one, the turn goes on
    module _ (first : IsFirstOpen desk.job desk.history k) where
      at_turn : (j : ℕ) → j ≡ turn → IsAnswered new.history j
      at_turn j here = elim (cases_Bool (ltb j k)) [
        | inl less ↦ kept new.history further j (first.least j (ltb-true j k less))
        | inr more ↦ elim (cases_Bool (ltb k turn)) [
          | inl below ↦ absurd (first.unanswered (behind.front k (ltb-true k turn below)))
          | inr above ↦ let a = ltb-false j k more in let b = ltb-false k turn above in let same : k ≡ j = omega (arith, a, b, here) in subst (IsAnswered new.history) same own
        ]
      ]

      front_more : (j : ℕ) → j < turn + 1 → IsAnswered new.history j
      front_more j below = elim (cases_Bool (ltb j turn)) [
        | inl less ↦ kept new.history further j (behind.front j (ltb-true j turn less))
        | inr more ↦ let a = ltb-false j turn more in at_turn j (omega (arith, a, below))
      ]

      pub behind_more : IsBehind old new (turn + 1)
      behind_more = record { job_is = behind_still.job_is; going = behind_still.going; goes_on = behind_still.goes_on; front = front_more }
