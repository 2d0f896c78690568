-- What a step of the gate keeps.
use Rattle.std.proofs.Common.{◌≡◌, ℕ, ◌<◌, Bool, true, false, List, length, set, sym, ap, ◌∙◌, arith, inl, inr}
use Rattle.std.proofs.lemmas.Bool.{false≢true, cases_eq, cases_lt}
use Rattle.std.proofs.lemmas.List.{get_or_past, get_or-set_same, get_or-set_other}
use Rattle.object_depends.specs.declared.fact.Fact.{Fact}
use Rattle.object_depends.specs.Facts.{fact_at}
use Rattle.commit_gate.specs.Gates.{is_in}
use Rattle.commit_gate.specs.Inside.Gate.{AreInTurn}

pub in_within : (stamps : List Bool) (j : ℕ) → is_in stamps j ≡ true → j < length stamps
in_within stamps j is =
    elim (cases_lt j (length stamps)) [
      | inl lt ↦ lt
      | inr past ↦ absurd (false≢true (sym (get_or_past stamps j false past) ∙ is))
    ]

-- what stands in a set stands in a larger one
pub in_more : (stamps : List Bool) (k j : ℕ) → is_in stamps j ≡ true → is_in (set stamps k true) j ≡ true
in_more stamps k j is =
    let lt = in_within stamps j is in
    elim (cases_eq j k) [
      | inl same ↦ ap (λ i. is_in (set stamps i true) j) (sym same) ∙ get_or-set_same stamps j true false lt
      | inr other ↦ get_or-set_other stamps k j true false other ∙ is
    ]

pub in_other : (stamps : List Bool) (k j : ℕ) → (j ≡ k → ⊥) → is_in (set stamps k true) j ≡ true → is_in stamps j ≡ true
in_other stamps k j other is = sym (get_or-set_other stamps k j true false other) ∙ is

-- where a call whose turn it is is started, the order is kept
pub start_kept : (facts : List Fact) (started answered : List Bool) (k : ℕ) → AreInTurn facts started answered → ((i : ℕ) → i < k → (fact_at facts i).session ≡ (fact_at facts k).session → is_in answered i ≡ true) → AreInTurn facts (set started k true) answered
start_kept facts started answered k order turn = record {
  after = λ j done. in_more started k j (order.after j done);
  turn = λ i j less same begun.
      elim (cases_eq j k) [
        | inl e ↦ turn i (omega arith) (same ∙ ap (λ n. (fact_at facts n).session) e)
        | inr other ↦ order.turn i j less same (in_other started k j other begun)
      ];
}

pub answer_kept : (facts : List Fact) (started answered : List Bool) (k : ℕ) → AreInTurn facts started answered → is_in started k ≡ true → AreInTurn facts started (set answered k true)
answer_kept facts started answered k order is = record {
  after = λ j now.
      elim (cases_eq j k) [
        | inl e ↦ ap (λ n. is_in started n) e ∙ is
        | inr other ↦ order.after j (in_other answered k j other now)
      ];
  turn = λ i j less same begun. in_more answered k i (order.turn i j less same begun);
}
