-- A history with one event more: where its events stand, and when it is legal.
use Rattle.std.proofs.Common.{◌≡◌, ℕ, ◌⊎◌, inl, inr, List, [], ◌∷◌, ◌++◌, length, sym, subst, ◌∙◌, arith}
use Rattle.std.proofs.lemmas.Option.{slice_get_within}
use Rattle.desk_values.specs.declared.call.Reply.{Reply}
use Rattle.desk_values.specs.declared.capture.Captured.{Captured}
use Rattle.desk_values.specs.declared.capture.Event.{Event}
use Rattle.desk_values.specs.declared.capture.Event.TheVariants.{Start, Answer}
use Rattle.replay_history.specs.Gap.{IsCallAt}
use Rattle.replay_history.specs.History.{AnswersAt, IsAnswered, IsAnsweredBefore, IsLegalHistory, IsStarted, IsStartedBefore, IsWaiting, StartsAt}
use Rattle.law_histories.specs.Going.{MayGo}
use Rattle.law_histories.proofs.Items.{at_push, kept_at, last_at}

pub none_started : (k : ℕ) → IsStarted [] k → ⊥
none_started k at = let within = slice_get_within [] at.0 (Start k at.1) at.2 in omega (arith, within)

pub none_answered : (k : ℕ) → IsAnswered [] k → ⊥
none_answered k at = let within = slice_get_within [] at.0 (Answer k at.1) at.2 in omega (arith, within)

module _ (history : List Event) (e : Event) where
  pub started_kept : (k : ℕ) → IsStarted history k → IsStarted (history ++ e ∷ []) k
  started_kept k at = (at.0, at.1, kept_at history (e ∷ []) at.0 (Start k at.1) at.2)

  pub answered_kept : (k : ℕ) → IsAnswered history k → IsAnswered (history ++ e ∷ []) k
  answered_kept k at = (at.0, at.1, kept_at history (e ∷ []) at.0 (Answer k at.1) at.2)

  pub started_in : (k : ℕ) → IsStarted (history ++ e ∷ []) k → IsStarted history k ⊎ ((pause : ℕ) × (e ≡ Start k pause))
  started_in k at = elim (at_push history e at.0 (Start k at.1) at.2) [
    | inl before ↦ inl (at.0, at.1, before)
    | inr last ↦ inr (at.1, last.1)
  ]

  pub answered_in : (k : ℕ) → IsAnswered (history ++ e ∷ []) k → IsAnswered history k ⊎ ((reply : Reply) × (e ≡ Answer k reply))
  answered_in k at = elim (at_push history e at.0 (Answer k at.1) at.2) [
    | inl before ↦ inl (at.0, at.1, before)
    | inr last ↦ inr (at.1, last.1)
  ]

  -- what stands before a place of the history stands before it still
  before_kept : (i k : ℕ) → IsAnsweredBefore history i k → IsAnsweredBefore (history ++ e ∷ []) i k
  before_kept i k at = (at.0, at.1, at.2, kept_at history (e ∷ []) at.0 (Answer k at.1) at.3)

  start_kept : (i k : ℕ) → IsStartedBefore history i k → IsStartedBefore (history ++ e ∷ []) i k
  start_kept i k at = (at.0, at.1, at.2, kept_at history (e ∷ []) at.0 (Start k at.1) at.3)

  before_last : (i k : ℕ) → i ≡ length history → IsAnswered history k → IsAnsweredBefore (history ++ e ∷ []) i k
  before_last i k last at =
      let within = slice_get_within history at.0 (Answer k at.1) at.2 in
      (at.0, at.1, omega (arith, within, last), kept_at history (e ∷ []) at.0 (Answer k at.1) at.2)

  start_last : (i k : ℕ) → i ≡ length history → IsStarted history k → IsStartedBefore (history ++ e ∷ []) i k
  start_last i k last at =
      let within = slice_get_within history at.0 (Start k at.1) at.2 in
      (at.0, at.1, omega (arith, within, last), kept_at history (e ∷ []) at.0 (Start k at.1) at.2)

  start_before : (k : ℕ) → IsStartedBefore (history ++ e ∷ []) (length history) k → IsStarted history k
  start_before k at = elim (at_push history e at.0 (Start k at.1) at.3) [
    | inl before ↦ (at.0, at.1, before)
    | inr last ↦ absurd (omega (arith, last.0, at.2))
  ]

  within_before : (k : ℕ) → IsAnsweredBefore (history ++ e ∷ []) (length history) k → IsAnswered history k
  within_before k at = elim (at_push history e at.0 (Answer k at.1) at.3) [
    | inl before ↦ (at.0, at.1, before)
    | inr last ↦ absurd (omega (arith, last.0, at.2))
  ]

pub start_is : (k p l q : ℕ) → Start k p ≡ Start l q → (k ≡ l) × (p ≡ q)
start_is k p l q e = (cc, cc)

pub answer_is : (k l : ℕ) (r s : Reply) → Answer k r ≡ Answer l s → k ≡ l
answer_is k l r s e = cc

-- ---- legal histories

module _ (calls : List Captured) (required : ℕ → ℕ → Type 0) (paused : Captured → ℕ → Type 0) (history : List Event) where
  abbrev IsLegal : List Event → Type 0
  IsLegal = IsLegalHistory calls required paused

  pub legal_none : IsLegal []
  legal_none = record {
    start_is_call = λ i k pause e. absurd (none_started k (i, pause, e));
    starts_once = λ i j k p q e f. absurd (none_started k (i, p, e));
    session_waits = λ i k pause e. absurd (none_started k (i, pause, e));
    required_waits = λ i k pause e. absurd (none_started k (i, pause, e));
    answers_once = λ i j k r s e f. absurd (none_answered k (i, r, e));
    answer_started = λ i k r e. absurd (none_answered k (i, r, e));
  }

  pub legal_start : (k pause : ℕ) → IsLegal history → MayGo calls required paused history k pause → IsLegal (history ++ Start k pause ∷ [])
  legal_start k pause legal go = record {
    start_is_call = λ i l q e. elim (at_push history (Start k pause) i (Start l q) e) [
      | inl before ↦ legal.start_is_call i l q before
      | inr last ↦
          let is = start_is k pause l q last.1 in
          (go.is_call.0, subst (λ (n : ℕ). IsCallAt calls n go.is_call.0) is.0 go.is_call.1, subst (paused go.is_call.0) is.1 go.is_call.2)
    ];
    starts_once = λ i j l p q e f. elim (at_push history (Start k pause) i (Start l p) e) [
      | inl before ↦ elim (at_push history (Start k pause) j (Start l q) f) [
        | inl too ↦ legal.starts_once i j l p q before too
        | inr last ↦ absurd (fresh l (start_is k pause l q last.1).0 (i, p, before))
      ]
      | inr last ↦ elim (at_push history (Start k pause) j (Start l q) f) [
        | inl before ↦ absurd (fresh l (start_is k pause l p last.1).0 (j, q, before))
        | inr too ↦ last.0 ∙ sym too.0
      ]
    ];
    session_waits = λ i l q e call before j at bt just. elim (at_push history (Start k pause) i (Start l q) e) [
      | inl there ↦ before_kept history (Start k pause) i j (legal.session_waits i l q there call before j at bt just)
      | inr last ↦ before_last history (Start k pause) i j last.0 (go.turn call before j (subst (λ (n : ℕ). IsCallAt calls n call) (sym (start_is k pause l q last.1).0) at) bt just)
    ];
    required_waits = λ i l q e j needs. elim (at_push history (Start k pause) i (Start l q) e) [
      | inl there ↦ before_kept history (Start k pause) i j (legal.required_waits i l q there j needs)
      | inr last ↦ before_last history (Start k pause) i j last.0 (go.needs j (subst (λ (n : ℕ). required n j) (sym (start_is k pause l q last.1).0) needs))
    ];
    answers_once = λ i j l r s e f. legal.answers_once i j l r s (old i l r e) (old j l s f);
    answer_started = λ i l r e. start_kept history (Start k pause) i l (legal.answer_started i l r (old i l r e));
  } where
    fresh : (l : ℕ) → k ≡ l → IsStarted history l → ⊥
    fresh l same there = go.fresh (subst (IsStarted history) (sym same) there)

    old : (i l : ℕ) (r : Reply) → AnswersAt (history ++ Start k pause ∷ []) i l r → AnswersAt history i l r
    old i l r e = elim (at_push history (Start k pause) i (Answer l r) e) [ inl before ↦ before | inr last ↦ absurd (cc (last.1)) ]

  pub start_legal : (k pause : ℕ) → IsLegal (history ++ Start k pause ∷ []) → MayGo calls required paused history k pause
  start_legal k pause legal =
      let last = last_at history (Start k pause) in
      record {
        is_call = legal.start_is_call (length history) k pause last;
        fresh = λ there.
            let same = legal.starts_once there.0 (length history) k there.1 pause (kept_at history (Start k pause ∷ []) there.0 (Start k there.1) there.2) last in
            let within = slice_get_within history there.0 (Start k there.1) there.2 in
            omega (arith, same, within);
        turn = λ call before j at bt just. within_before history (Start k pause) j (legal.session_waits (length history) k pause last call before j at bt just);
        needs = λ j needs. within_before history (Start k pause) j (legal.required_waits (length history) k pause last j needs);
      }

  pub legal_answer : (k : ℕ) (reply : Reply) → IsLegal history → IsStarted history k → (IsAnswered history k → ⊥) → IsLegal (history ++ Answer k reply ∷ [])
  legal_answer k reply legal started unanswered = record {
    start_is_call = λ i l q e. legal.start_is_call i l q (old i l q e);
    starts_once = λ i j l p q e f. legal.starts_once i j l p q (old i l p e) (old j l q f);
    session_waits = λ i l q e call before j at bt just. before_kept history (Answer k reply) i j (legal.session_waits i l q (old i l q e) call before j at bt just);
    required_waits = λ i l q e j needs. before_kept history (Answer k reply) i j (legal.required_waits i l q (old i l q e) j needs);
    answers_once = λ i j l r s e f. elim (at_push history (Answer k reply) i (Answer l r) e) [
      | inl before ↦ elim (at_push history (Answer k reply) j (Answer l s) f) [
        | inl too ↦ legal.answers_once i j l r s before too
        | inr last ↦ absurd (fresh l (answer_is k l reply s last.1) (i, r, before))
      ]
      | inr last ↦ elim (at_push history (Answer k reply) j (Answer l s) f) [
        | inl before ↦ absurd (fresh l (answer_is k l reply r last.1) (j, s, before))
        | inr too ↦ last.0 ∙ sym too.0
      ]
    ];
    answer_started = λ i l r e. elim (at_push history (Answer k reply) i (Answer l r) e) [
      | inl before ↦ start_kept history (Answer k reply) i l (legal.answer_started i l r before)
      | inr last ↦ start_last history (Answer k reply) i l last.0 (subst (IsStarted history) (answer_is k l reply r last.1) started)
    ];
  } where
    fresh : (l : ℕ) → k ≡ l → IsAnswered history l → ⊥
    fresh l same there = unanswered (subst (IsAnswered history) (sym same) there)

    old : (i l q : ℕ) → StartsAt (history ++ Answer k reply ∷ []) i l q → StartsAt history i l q
    old i l q e = elim (at_push history (Answer k reply) i (Start l q) e) [ inl before ↦ before | inr last ↦ absurd (cc (last.1)) ]

  pub answer_legal : (k : ℕ) (reply : Reply) → IsLegal (history ++ Answer k reply ∷ []) → IsWaiting history k
  answer_legal k reply legal = (
    start_before history (Answer k reply) k (legal.answer_started (length history) k reply (last_at history (Answer k reply))),
    λ there.
        let same = legal.answers_once there.0 (length history) k there.1 reply (kept_at history (Answer k reply ∷ []) there.0 (Answer k there.1) there.2) (last_at history (Answer k reply)) in
        let within = slice_get_within history there.0 (Answer k there.1) there.2 in
        omega (arith, same, within),
  )
