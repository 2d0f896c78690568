-- What the replies of a run give out.
use Rattle.std.proofs.Common.{◌≡◌, ◌∙◌, ◌⊎◌, ◌<◌, ℕ, zero, suc, ◌+◌, List, [], ◌∷◌, length, refl, sym, ap, subst, inl, inr, arith}
use Rattle.desk_values.specs.declared.value.Value.{Value}
use Rattle.desk_values.specs.declared.capture.Captured.{Captured}
use Rattle.replay_history.specs.Capture.{IsGivenBy, IsRun}
use Rattle.replay_history.specs.Gap.{IsCallAt}
use Rattle.server_words.specs.State.{State}
use Rattle.server_words.specs.Step.{Gives}
use Rattle.law_ids.specs.Counters.{AreAtMost, IsPassed}
use Rattle.law_ids.proofs.Steps.{step_bound, step_count, step_fresh, step_gave, step_kept, step_passed, step_start}

given_first : (id : Value) (c call : Captured) (calls : List Captured) → IsCallAt (c ∷ calls) zero call → IsGivenBy id call.reply → IsGivenBy id c.reply
given_first id c call calls there given = let is : call ≡ c = cc in subst (λ (one : Captured). IsGivenBy id one.reply) is given

pub run_kept : (first last : State) (calls : List Captured) (id : Value) → IsRun Gives first calls last → IsPassed first id → IsPassed last id
run_kept first last [] id run passed = subst (λ (s : State). IsPassed s id) run passed
run_kept first last (c ∷ calls) id run passed = run_kept run.0 last calls id run.2 (step_kept first run.0 c.session c.call c.reply run.1 id passed)

pub run_bound : (first last : State) (calls : List Captured) (bound : ℕ) → IsRun Gives first calls last → AreAtMost bound first → AreAtMost (bound + length calls) last
run_bound first last [] bound run most = subst (λ (b : ℕ). AreAtMost b last) (omega arith) (subst (AreAtMost bound) run most)
run_bound first last (c ∷ calls) bound run most = subst (λ (b : ℕ). AreAtMost b last) (omega arith) (run_bound run.0 last calls (bound + 1) run.2 (step_bound first run.0 c.session c.call c.reply run.1 bound most))

pub run_start : (first last : State) (calls : List Captured) → IsRun Gives first calls last → last.start ≡ first.start
run_start first last [] run = ap (λ (s : State). s.start) (sym run)
run_start first last (c ∷ calls) run = run_start run.0 last calls run.2 ∙ step_start first run.0 c.session c.call c.reply run.1

pub run_count : (first last : State) (calls : List Captured) → IsRun Gives first calls last → length last.next_values ≡ length first.next_values
run_count first last [] run = ap (λ (s : State). length s.next_values) (sym run)
run_count first last (c ∷ calls) run = run_count run.0 last calls run.2 ∙ step_count first run.0 c.session c.call c.reply run.1

pub run_fresh : (first last : State) (calls : List Captured) (k : ℕ) (call : Captured) (id : Value) → IsRun Gives first calls last → IsCallAt calls k call → IsGivenBy id call.reply → IsPassed first id → ⊥
run_fresh first last [] k call id run there given = cc
run_fresh first last (c ∷ calls) zero call id run there given = step_fresh first run.0 c.session c.call c.reply run.1 id (given_first id c call calls there given)
run_fresh first last (c ∷ calls) (suc k) call id run there given = λ passed. run_fresh run.0 last calls k call id run.2 there given (step_kept first run.0 c.session c.call c.reply run.1 id passed)

pub run_passed : (first last : State) (calls : List Captured) (k : ℕ) (call : Captured) (id : Value) → IsRun Gives first calls last → IsCallAt calls k call → IsGivenBy id call.reply → IsPassed last id
run_passed first last [] k call id run there given = absurd cc
run_passed first last (c ∷ calls) zero call id run there given = run_kept run.0 last calls id run.2 (step_passed first run.0 c.session c.call c.reply run.1 id (given_first id c call calls there given))
run_passed first last (c ∷ calls) (suc k) call id run there given = run_passed run.0 last calls k call id run.2 there given

-- a call gave the id
abbrev pub IsGivenIn : List Captured → Value → Type 0
IsGivenIn calls id = (j : ℕ) × (call : Captured) × (j < length calls) × IsCallAt calls j call × IsGivenBy id call.reply

-- what is passed after a run was passed before it, or one of its calls gave it
pub run_gave : (first last : State) (calls : List Captured) (id : Value) → IsRun Gives first calls last → IsPassed last id → IsPassed first id ⊎ IsGivenIn calls id
run_gave first last [] id run passed = inl (subst (λ (s : State). IsPassed s id) (sym run) passed)
run_gave first last (c ∷ calls) id run passed = elim (run_gave run.0 last calls id run.2 passed) [
  | inl before ↦ elim (step_gave first run.0 c.session c.call c.reply run.1 id before) [
    | inl first ↦ inl first
    | inr here ↦ inr (zero, c, omega arith, refl, here)
  ]
  | inr later ↦ inr (suc later.0, later.1, omega (arith, later.2), later.3, later.4)
]

-- what the first call gave no later one gives
never_again : (first last : State) (c : Captured) (calls : List Captured) (k : ℕ) (call other : Captured) (id : Value) → IsRun Gives first (c ∷ calls) last → IsCallAt (c ∷ calls) zero call → IsCallAt calls k other → IsGivenBy id call.reply → IsGivenBy id other.reply → ⊥
never_again first last c calls k call other id run here there given again =
    run_fresh run.0 last calls k other id run.2 there again (step_passed first run.0 c.session c.call c.reply run.1 id (given_first id c call calls here given))

pub run_once : (first last : State) (calls : List Captured) (j k : ℕ) (call other : Captured) (id : Value) → IsRun Gives first calls last → IsCallAt calls j call → IsCallAt calls k other → IsGivenBy id call.reply → IsGivenBy id other.reply → j ≡ k
run_once first last [] j k call other id run here there given again = absurd cc
run_once first last (c ∷ calls) zero zero call other id run here there given again = refl
run_once first last (c ∷ calls) zero (suc k) call other id run here there given again = absurd (never_again first last c calls k call other id run here there given again)
run_once first last (c ∷ calls) (suc j) zero call other id run here there given again = absurd (never_again first last c calls j other call id run there here again given)
run_once first last (c ∷ calls) (suc j) (suc k) call other id run here there given again = ap suc (run_once run.0 last calls j k call other id run.2 here there given again)
