-- The first calls of sessions that are not answered.
use Rattle.std.proofs.Common.{◌≡◌, ℕ, zero, suc, ◌+◌, ◌<◌, ◌≤◌, Bool, true, false, List, length, set, replicate, refl, sym, ap, ◌∙◌, subst, arith, inl, inr}
use Rattle.std.specs.Prelude.{◌↔◌, slice_index, Option, None, Some, MatchOption, IsSome}
use Rattle.std.proofs.lemmas.Bool.{both_ways, cases_eq, cases_lt, false_from_ne_true}
use Rattle.std.proofs.lemmas.List.{get_or-set_same, get_or-set_other, get_or-replicate}
use Rattle.object_depends.specs.declared.fact.Fact.{Fact}
use Rattle.object_depends.specs.Facts.{fact_at}
use Rattle.commit_gate.specs.Inside.Heads.{NoneBetween, IsNextFrom, AreNexts, AreFirstHeads, IsHead, AreHeads}
use Rattle.commit_gate.specs.Gates.{IsBefore, IsTurn, is_in}
use Rattle.commit_gate.specs.Inside.Gate.{AreInTurn}
use Rattle.commit_gate.proofs.Keeping.{in_more}

match_more : (o : Option ℕ) (P R : Type 0) (Q S : ℕ → Type 0) → (P → R) → ((x : ℕ) → Q x → S x) → MatchOption o P Q → MatchOption o R S
match_more None P R Q S none some is = none is
match_more (Some x) P R Q S none some is = some x is

-- the first calls of sessions, one call before
pub first_put : (facts : List Fact) (old new : ℕ → Option ℕ) (k : ℕ) → AreFirstHeads facts old (k + 1) → k < length facts → new (fact_at facts k).session ≡ Some k → ((other : ℕ) → (other ≡ (fact_at facts k).session → ⊥) → new other ≡ old other) → AreFirstHeads facts new k
first_put facts old new k heads lt here others session =
    elim (cases_eq session (fact_at facts k).session) [
      | inl e ↦
          subst (λ (o : Option ℕ). MatchOption o (NoneBetween facts session k (length facts)) (IsNextFrom facts session k)) (sym (ap new e ∙ here))
          (record { after = omega arith; within = omega arith; none = λ j from to. absurd (omega arith); here = λ _. sym e })
      | inr other ↦
          let not : (j : ℕ) → k ≤ j → (fact_at facts j).session ≡ session → k + 1 ≤ j = λ j from own.
          elim (cases_eq j k) [
            | inl is ↦ absurd (other (sym own ∙ ap (λ n. (fact_at facts n).session) is))
            | inr past ↦ omega arith
          ] in
          subst (λ (o : Option ℕ). MatchOption o (NoneBetween facts session k (length facts)) (IsNextFrom facts session k)) (sym (others session other))
          (match_more (old session) _ _ _ _
          (λ none j from to own. none j (not j from own) to own)
          (λ at next. record { after = omega (arith, next.after); within = next.within; none = λ j from to own. next.none j (not j from own) to own; here = next.here })
          (heads session))
    ]

-- where no call is answered, the first calls are the first that are not
pub first_are_heads : (facts : List Fact) (head : ℕ → Option ℕ) → AreFirstHeads facts head 0 → AreHeads facts (replicate (length facts) false) head
first_are_heads facts head first session =
    match_more (head session) _ _ _ _ (λ none. none)
    (λ at next. record { within = next.within; below = λ j lt own. absurd (next.none j (omega arith) lt own); own = next.here; unanswered = λ lt. get_or-replicate (length facts) at false false lt })
    (first session)

own_kept : (facts : List Fact) (started answered : List Bool) (k next : ℕ) → AreInTurn facts started answered → k < length facts → length answered ≡ length facts → is_in started k ≡ true → is_in answered k ≡ false → IsNextFrom facts (fact_at facts k).session (k + 1) next → IsHead facts (set answered k true) (fact_at facts k).session next
own_kept facts started answered k next order lt len begun unanswered is = record {
  within = is.within;
  below = λ j less own.
      elim (cases_lt j k) [
        | inl before ↦ in_more answered k j (order.turn j k before own begun)
        | inr over ↦
            elim (cases_eq j k) [
              | inl e ↦ ap (λ n. is_in (set answered k true) n) e ∙ get_or-set_same answered k true false (omega arith)
              | inr past ↦ absurd (is.none j (omega arith) less own)
            ]
      ];
  own = is.here;
  unanswered = λ less.
      let after = is.after in
      get_or-set_other answered k next true false (λ e. omega arith)
      ∙ false_from_ne_true _ (λ done. both_ways (is_in answered k) unanswered (order.turn k next (omega arith) (sym (is.here less)) (order.after next done)));
}

other_kept : (facts : List Fact) (answered : List Bool) (k session at : ℕ) → (session ≡ (fact_at facts k).session → ⊥) → IsHead facts answered session at → IsHead facts (set answered k true) session at
other_kept facts answered k session at other is = record {
  within = is.within;
  below = λ j less own. in_more answered k j (is.below j less own);
  own = is.own;
  unanswered = λ less. get_or-set_other answered k at true false (λ e. other (sym (is.own less) ∙ ap (λ n. (fact_at facts n).session) e)) ∙ is.unanswered less;
}

-- after an answer the next call of its session takes the place of the answered one
pub heads_kept : (facts : List Fact) (started answered : List Bool) (nexts : List ℕ) (old new : ℕ → Option ℕ) (k : ℕ) → AreInTurn facts started answered → AreHeads facts answered old → AreNexts facts nexts 0 → k < length facts → length answered ≡ length facts → is_in started k ≡ true → is_in answered k ≡ false → new (fact_at facts k).session ≡ Some (slice_index nexts k) → ((other : ℕ) → (other ≡ (fact_at facts k).session → ⊥) → new other ≡ old other) → AreHeads facts (set answered k true) new
heads_kept facts started answered nexts old new k order heads are lt len begun unanswered here others session =
    elim (cases_eq session (fact_at facts k).session) [
      | inl e ↦
          subst (λ (n : ℕ). MatchOption (new n) (NoneBetween facts n 0 (length facts)) (IsHead facts (set answered k true) n)) (sym e)
          (subst (λ (o : Option ℕ). MatchOption o (NoneBetween facts (fact_at facts k).session 0 (length facts)) (IsHead facts (set answered k true) (fact_at facts k).session)) (sym here)
          (own_kept facts started answered k (slice_index nexts k) order lt len begun unanswered (are k (omega arith) lt)))
      | inr other ↦
          subst (λ (o : Option ℕ). MatchOption o (NoneBetween facts session 0 (length facts)) (IsHead facts (set answered k true) session)) (sym (others session other))
          (match_more (old session) _ _ _ _ (λ none. none) (λ at is. other_kept facts answered k session at other is) (heads session))
    ]

-- where some call of the session stands before a call, one stands last before it
last_before : (facts : List Fact) (k j n : ℕ) → j < n → n ≤ k → (fact_at facts j).session ≡ (fact_at facts k).session → ((i : ℕ) → n ≤ i → i < k → (fact_at facts i).session ≡ (fact_at facts k).session → ⊥) → (b : ℕ) × IsBefore facts k b × (j ≤ b)
last_before facts k j zero lt le same none = absurd (omega arith)
last_before facts k j (suc n) lt le same none =
    elim (cases_eq (fact_at facts n).session (fact_at facts k).session) [
      | inl e ↦ (n, record { below = omega arith; session = e; next = λ i above less. none i above less }, omega arith)
      | inr ne ↦
          last_before facts k j n
          (elim (cases_eq j n) [
            | inl is ↦ absurd (ne (ap (λ i. (fact_at facts i).session) (sym is) ∙ same))
            | inr other ↦ omega arith
          ])
          (omega arith) same
          (λ i above less e.
          elim (cases_eq n i) [
            | inl is ↦ ne (ap (λ i. (fact_at facts i).session) is ∙ e)
            | inr other ↦ none i (omega arith) less e
          ])
    ]

-- it is a call's turn exactly where the first of its session that is not answered does not stand before it
pub turn_by_head : (facts : List Fact) (started answered : List Bool) (k at : ℕ) → IsHead facts answered (fact_at facts k).session at → AreInTurn facts started answered → k < length facts → (k ≤ at) ↔ IsTurn facts answered k
turn_by_head facts started answered k at head order lt = (
  λ passed j before. head.below j (let less = before.below in omega arith) before.session,
  λ turn.
      elim (cases_lt at k) [
        | inl less ↦
            let own = head.own (omega arith) in
            let last = last_before facts k at k less (omega arith) own (λ i over under. absurd (omega arith)) in
            let done = turn last.0 last.1 in
            let not = head.unanswered (omega arith) in
            absurd
            (elim (cases_eq at last.0) [
              | inl is ↦ both_ways (is_in answered at) not (ap (λ i. is_in answered i) is ∙ done)
              | inr other ↦ both_ways (is_in answered at) not (order.turn at last.0 (let le = last.2 in omega arith) (own ∙ sym last.1.session) (order.after last.0 done))
            ])
        | inr over ↦ over
      ],
)

-- then all calls of its session before it are answered
pub turn_all : (facts : List Fact) (started answered : List Bool) (k : ℕ) (o : Option ℕ) → MatchOption o (NoneBetween facts (fact_at facts k).session 0 (length facts)) (IsHead facts answered (fact_at facts k).session) → AreInTurn facts started answered → k < length facts → IsTurn facts answered k → (i : ℕ) → i < k → (fact_at facts i).session ≡ (fact_at facts k).session → is_in answered i ≡ true
turn_all facts started answered k None is order lt turn i less same = absurd (is k (omega arith) lt refl)
turn_all facts started answered k (Some at) is order lt turn i less same =
    let passed = (turn_by_head facts started answered k at is order lt).1 turn in
    is.below i (omega arith) same

-- the session of a call has a first call
pub has_head : (facts : List Fact) (answered : List Bool) (k : ℕ) → k < length facts → (o : Option ℕ) → MatchOption o (NoneBetween facts (fact_at facts k).session 0 (length facts)) (IsHead facts answered (fact_at facts k).session) → IsSome o
has_head facts answered k lt None is = absurd (is k (omega arith) lt refl)
has_head facts answered k lt (Some at) is = refl
