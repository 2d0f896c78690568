-- Truthful histories with one event more.
use Rattle.std.proofs.Common.{ℕ, List, [], ◌∷◌, ◌++◌, refl, sym, subst}
use Rattle.desk_values.specs.declared.call.Reply.{Reply}
use Rattle.desk_values.specs.declared.capture.Event.{Event}
use Rattle.desk_values.specs.declared.capture.Event.TheVariants.{Start, Answer}
use Rattle.replay_history.specs.History.{IsTruthfulHistory}

module _ {S : Type 0} (executes : S → ℕ → Reply → S → Type 0) where
  pub truthful_start : (first last : S) (history : List Event) (k pause : ℕ) → IsTruthfulHistory executes first history last → IsTruthfulHistory executes first (history ++ Start k pause ∷ []) last
  truthful_start first last [] k pause is = is
  truthful_start first last (Start l q ∷ events) k pause is = truthful_start first last events k pause is
  truthful_start first last (Answer l r ∷ events) k pause is = (is.0, is.1, truthful_start is.0 last events k pause is.2)

  pub truthful_answer : (first mid last : S) (history : List Event) (k : ℕ) (reply : Reply) → IsTruthfulHistory executes first history mid → executes mid k reply last → IsTruthfulHistory executes first (history ++ Answer k reply ∷ []) last
  truthful_answer first mid last [] k reply is one = (last, subst (λ s. executes s k reply last) (sym is) one, refl)
  truthful_answer first mid last (Start l q ∷ events) k reply is one = truthful_answer first mid last events k reply is one
  truthful_answer first mid last (Answer l r ∷ events) k reply is one = (is.0, is.1, truthful_answer is.0 mid last events k reply is.2 one)

  pub start_truthful : (first last : S) (history : List Event) (k pause : ℕ) → IsTruthfulHistory executes first (history ++ Start k pause ∷ []) last → IsTruthfulHistory executes first history last
  start_truthful first last [] k pause is = is
  start_truthful first last (Start l q ∷ events) k pause is = start_truthful first last events k pause is
  start_truthful first last (Answer l r ∷ events) k pause is = (is.0, is.1, start_truthful is.0 last events k pause is.2)

  pub answer_truthful : (first last : S) (history : List Event) (k : ℕ) (reply : Reply) → IsTruthfulHistory executes first (history ++ Answer k reply ∷ []) last → (mid : S) × IsTruthfulHistory executes first history mid × executes mid k reply last
  answer_truthful first last [] k reply is = (first, refl, subst (executes first k reply) is.2 is.1)
  answer_truthful first last (Start l q ∷ events) k reply is = answer_truthful first last events k reply is
  answer_truthful first last (Answer l r ∷ events) k reply is =
      let rest = answer_truthful is.0 last events k reply is.2 in
      (rest.0, (is.0, is.1, rest.1), rest.2)
