-- Calls that are answered one after the other, of which there are so many at most.
use Rattle.std.proofs.Common.{◌≡◌, ℕ, zero, suc, ◌+◌, ◌<◌, ◌≤◌, inl, inr, List, [], ◌∷◌, ◌++◌, length, refl, subst, arith}
use Rattle.std.specs.List.{AllByRecursion}
use Rattle.std.proofs.lemmas.Bool.{cases_eq}
use Rattle.std.proofs.lemmas.Option.{slice_get_within}
use Rattle.desk_values.specs.declared.capture.Event.{Event}
use Rattle.desk_values.specs.declared.capture.Event.TheVariants.{Start, Answer}
use Rattle.replay_history.specs.History.{AnswersAt, IsAnswered}
use Rattle.law_histories.proofs.Items.{kept_at, last_at}
use Rattle.replay_job.specs.Job.{JobView}
use Rattle.replay_job.specs.Runs.{MayStart}
use Rattle.replay_lanes.specs.Finishing.{NoneIsLeft}

-- ---- numbers of which none comes twice

-- none of them is this one
abbrev pub Apart : ℕ → List ℕ → Type 0
Apart m ks = AllByRecursion (λ (k : ℕ). k ≡ m → ⊥) ks

abbrev pub Below : ℕ → List ℕ → Type 0
Below n ks = AllByRecursion (λ (k : ℕ). k < n) ks

abbrev pub Distinct : List ℕ → Type 0
Distinct [] = Unit {0}
Distinct (k ∷ ks) = Apart k ks × Distinct ks

-- they without one of them
record Without (n : ℕ) (ks : List ℕ) : Type 0 where
  rest : List ℕ
  long : length ks ≤ length rest + 1
  distinct : Distinct rest
  apart : Apart n rest
  keeps : (m : ℕ) → Apart m ks → Apart m rest
  below : (b : ℕ) → Below b ks → Below b rest

without : (n : ℕ) (ks : List ℕ) → Distinct ks → Without n ks
without n [] distinct = record { rest = []; long = omega arith; distinct = tt; apart = tt; keeps = λ m all. tt; below = λ b all. tt }
without n (k ∷ ks) distinct = elim (cases_eq k n) as (λ _. Without n (k ∷ ks)) [
  | inl same ↦ record {
    rest = ks;
    long = omega arith;
    distinct = distinct.1;
    apart = subst (λ (m : ℕ). Apart m ks) same distinct.0;
    keeps = λ m all. all.1;
    below = λ b all. all.1;
  }
  | inr other ↦
      let w = without n ks distinct.1 in
      record {
        rest = k ∷ w.rest;
        long = (let long = w.long in omega (arith, long));
        distinct = (w.keeps k distinct.0, w.distinct);
        apart = (other, w.apart);
        keeps = λ m all. (all.0, w.keeps m all.1);
        below = λ b all. (all.0, w.below b all.1);
      }
]

narrower : (n : ℕ) (ks : List ℕ) → Below (suc n) ks → Apart n ks → Below n ks
narrower n [] below apart = tt
narrower n (k ∷ ks) below apart = ((let less = below.0 in let other = apart.0 in omega (arith, less, other)), narrower n ks below.1 apart.1)

-- below a number there are no more than it says
few : (n : ℕ) (ks : List ℕ) → Distinct ks → Below n ks → length ks ≤ n
few zero [] distinct below = omega arith
few zero (k ∷ ks) distinct below = absurd (let less = below.0 in omega (arith, less))
few (suc n) ks distinct below =
    let w = without n ks distinct in
    let rest = few n w.rest w.distinct (narrower n w.rest (w.below (suc n) below) w.apart) in
    let long = w.long in
    omega (arith, rest, long)

-- ---- calls

-- so many calls of these are answered, each once
pub record HasAnswered (calls turn : ℕ) (history : List Event) : Type 0 where
  pub ks : List ℕ
  pub many : length ks ≡ turn
  pub distinct : Distinct ks
  pub below : Below calls ks
  pub answered : AllByRecursion (IsAnswered history) ks

pub none_answered : (calls : ℕ) (history : List Event) → HasAnswered calls 0 history
none_answered calls history = record { ks = []; many = refl; distinct = tt; below = tt; answered = tt }

module _ (job : JobView) (history : List Event) (k : ℕ) (may : MayStart job history k) where
  -- what may start is not answered, and is a call of the job
  unanswered : IsAnswered history k → ⊥
  unanswered answered =
      let at : AnswersAt (history ++ Start k may.0 ∷ []) answered.0 k answered.1 = kept_at history (Start k may.0 ∷ []) answered.0 (Answer k answered.1) answered.2 in
      let begun = may.1.answer_started answered.0 k answered.1 at in
      let same = may.1.starts_once begun.0 (length history) k begun.1 may.0 begun.3 (last_at history (Start k may.0)) in
      let within = slice_get_within history answered.0 (Answer k answered.1) answered.2 in
      let less = begun.2 in
      omega (arith, same, within, less)

  is_call : k < length job.calls
  is_call = let found = may.1.start_is_call (length history) k may.0 (last_at history (Start k may.0)) in slice_get_within job.calls k found.0 found.1

  apart_of : (ks : List ℕ) → AllByRecursion (IsAnswered history) ks → Apart k ks
  apart_of [] all = tt
  apart_of (m ∷ ks) all = ((λ same. unanswered (subst (IsAnswered history) same all.0)), apart_of ks all.1)

  module _ (turn : ℕ) (far : HasAnswered (length job.calls) turn history) where
    -- so there are more calls than were answered
    more_calls : turn < length job.calls
    more_calls =
        let most = few (length job.calls) (k ∷ far.ks) (apart_of far.ks far.answered, far.distinct) (is_call, far.below) in
        let many = far.many in
        omega (arith, most, many)

    module _ (events : List Event) (kept : (j : ℕ) → IsAnswered history j → IsAnswered events j) where
      all_kept : (ks : List ℕ) → AllByRecursion (IsAnswered history) ks → AllByRecursion (IsAnswered events) ks
      all_kept [] all = tt
      all_kept (m ∷ ks) all = (kept m all.0, all_kept ks all.1)

      pub one_answered : IsAnswered events k → HasAnswered (length job.calls) (turn + 1) events
      one_answered own = record {
        ks = k ∷ far.ks;
        many = (let many = far.many in omega (arith, many));
        distinct = (apart_of far.ks far.answered, far.distinct);
        below = (is_call, far.below);
        answered = (own, all_kept far.ks far.answered);
      }

-- after as many turns as there are calls none may start
pub all_ended : (job : JobView) (lane : List ℕ) (turn : ℕ) (history : List Event) → length job.calls ≤ turn → HasAnswered (length job.calls) turn history → NoneIsLeft job lane history
all_ended job lane turn history past far i within k call may = let more = more_calls job history k may turn far in omega (arith, past, more)
