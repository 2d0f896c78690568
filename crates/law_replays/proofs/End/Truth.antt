-- Truthful histories, taken apart at the place of an answer.
use Rattle.std.proofs.Common.{◌≡◌, ℕ, zero, suc, List, [], ◌∷◌, take, drop, refl, sym, subst, ◌∙◌}
use Rattle.desk_values.specs.declared.call.Reply.{Reply}
use Rattle.desk_values.specs.declared.capture.Event.{Event}
use Rattle.desk_values.specs.declared.capture.Event.TheVariants.{Start, Answer}
use Rattle.replay_history.specs.History.{AnswersAt, IsTruthfulHistory}
use Rattle.std.specs.Prelude.{Option, Some}

abbrev some : Event → Option Event
some event = Some event

pub one_answer : (k j : ℕ) (reply other : Reply) → some (Answer k reply) ≡ some (Answer j other) → (j ≡ k) × (other ≡ reply)
one_answer k j reply other e = (cc, cc)

module _ {S : Type 0} (does : S → ℕ → Reply → S → Type 0) where
  -- where a step leaves one stage, a history comes to one
  pub one_stage : ((s t u : S) (k : ℕ) (reply : Reply) → does s k reply t → does s k reply u → u ≡ t) → (first : S) (events : List Event) (last other : S)
      → IsTruthfulHistory does first events last → IsTruthfulHistory does first events other → last ≡ other
  one_stage once first [] last other h g = sym h ∙ g
  one_stage once first (Start k pause ∷ events) last other h g = one_stage once first events last other h g
  one_stage once first (Answer k reply ∷ events) last other h g =
      let P : S → Type 0 = λ s. IsTruthfulHistory does s events other in
      one_stage once h.0 events last other h.2 (subst P (once first h.0 g.0 k reply h.1 g.1) g.2)

  -- an answer is a step, from the stage before it to the one after it
  pub record IsStepAt (first : S) (history : List Event) (i k : ℕ) (reply : Reply) (last : S) : Type 0 where
    pub before : S
    pub after : S
    pub stood : IsTruthfulHistory does first (take i history) before
    pub step : does before k reply after
    pub stands : IsTruthfulHistory does first (take (suc i) history) after
    pub rest : IsTruthfulHistory does after (drop (suc i) history) last

  pub step_at : (first : S) (history : List Event) (i k : ℕ) (reply : Reply) (last : S) → AnswersAt history i k reply → IsTruthfulHistory does first history last → IsStepAt first history i k reply last
  step_at first [] i k reply last e h = absurd cc
  step_at first (Start j pause ∷ events) zero k reply last e h = absurd cc
  step_at first (Start j pause ∷ events) (suc i) k reply last e h =
      let t = step_at first events i k reply last e h in
      record { before = t.before; after = t.after; stood = t.stood; step = t.step; stands = t.stands; rest = t.rest }
  step_at first (Answer j given ∷ events) zero k reply last e h =
      let is = one_answer j k given reply e in
      let P : ℕ → Type 0 = λ n. does first n reply h.0 in
      let Q : Reply → Type 0 = λ r. does first j r h.0 in
      record { before = first; after = h.0; stood = refl; step = subst P (sym is.0) (subst Q (sym is.1) h.1); stands = (h.0, h.1, refl); rest = h.2 }
  step_at first (Answer j given ∷ events) (suc i) k reply last e h =
      let t = step_at h.0 events i k reply last e h.2 in
      record { before = t.before; after = t.after; stood = (h.0, h.1, t.stood); step = t.step; stands = (h.0, h.1, t.stands); rest = t.rest }

  -- a history is what stands before a place, and the rest
  pub split_at : (first : S) (history : List Event) (i : ℕ) (last : S) → IsTruthfulHistory does first history last
      → (middle : S) × IsTruthfulHistory does first (take i history) middle × IsTruthfulHistory does middle (drop i history) last
  split_at first [] zero last h = (first, refl, h)
  split_at first [] (suc i) last h = (first, refl, h)
  split_at first (event ∷ events) zero last h = (first, refl, h)
  split_at first (Start j pause ∷ events) (suc i) last h = split_at first events i last h
  split_at first (Answer j given ∷ events) (suc i) last h = let t = split_at h.0 events i last h.2 in (t.0, (h.0, h.1, t.1), t.2)

  module _ (more : S → ℕ → Reply → S → Type 0) where
    -- a step of which more is known
    abbrev pub Both : S → ℕ → Reply → S → Type 0
    Both s k reply t = does s k reply t × more s k reply t

    -- what holds at the place of each answer holds of each step
    pub with_each : (first : S) (history : List Event) (last : S) → IsTruthfulHistory does first history last
        → ((i k : ℕ) (reply : Reply) (before after : S) → AnswersAt history i k reply → IsTruthfulHistory does first (take i history) before → IsTruthfulHistory does first (take (suc i) history) after → more before k reply after)
        → IsTruthfulHistory Both first history last
    with_each first [] last h each = h
    with_each first (Start j pause ∷ events) last h each = with_each first events last h (λ i k reply before after e s t. each (suc i) k reply before after e s t)
    with_each first (Answer j given ∷ events) last h each =
        (h.0, (h.1, each 0 j given first h.0 refl refl (h.0, h.1, refl)), with_each h.0 events last h.2 (λ i k reply before after e s t. each (suc i) k reply before after e (h.0, h.1, s) (h.0, h.1, t)))

    -- and less may be said
    pub without : (first : S) (history : List Event) (last : S) → IsTruthfulHistory Both first history last → IsTruthfulHistory does first history last
    without first [] last h = h
    without first (Start j pause ∷ events) last h = without first events last h
    without first (Answer j given ∷ events) last h = (h.0, h.1.0, without h.0 events last h.2)
