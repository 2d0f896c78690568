-- What a step gives out, and where it leaves the counters.
use Rattle.std.proofs.Common.{◌≡◌, ◌∙◌, ◌⊎◌, ◌<◌, ◌≤◌, ℕ, zero, suc, ◌+◌, Bool, true, false, ◌||◌, List, [], ◌∷◌, length, refl, sym, ap, subst, inl, inr, zero-add, arith}
use Rattle.std.specs.Prelude.{if◌then◌else◌, slice_index, Option, None, Some}
use Rattle.std.specs.List.{AllByRecursion, Any, list_any}
use Rattle.std.proofs.lemmas.Bool.{cases_lt, eq-eqb, eqb-true}
use Rattle.std.proofs.lemmas.List.Folds.{Any-from_list_any}
use Rattle.std.proofs.Math.Bool.{or-true}
use Rattle.desk_values.specs.declared.value.Value.{Value}
use Rattle.desk_values.specs.declared.value.Value.TheVariants.{Null, Int, Text, Row, Draw}
use Rattle.desk_values.specs.declared.call.Call.{Call}
use Rattle.desk_values.specs.declared.call.Reply.{Reply}
use Rattle.replay_history.specs.Capture.{IsGivenBy}
use Rattle.server_words.specs.State.{State}
use Rattle.server_words.specs.Draws.{drawn_from, is_draw_of, moved}
use Rattle.server_words.specs.Step.{Gives, after_made, reply_in, step}
use Rattle.server_words.proofs.SoundSteps.{length_moved}
use Rattle.law_ids.specs.Counters.{AreAtMost, IsPassed}
use Rattle.law_ids.specs.Given.{GivesNext}
use Rattle.law_ids.proofs.Giving.{reply_given}
use Rattle.law_ids.proofs.Members.{any_split}

-- ---- rows

made_more : (made : Option ℕ) (row n : ℕ) → n < row → n < after_made made row
made_more None row n lt = lt
made_more (Some made) row n lt = omega (arith, lt)

made_past : (made : Option ℕ) (row n : ℕ) → made ≡ Some n → n ≡ row → n < after_made made row
made_past None row n is next = cc
made_past (Some made) row n is next = omega (arith, next)

made_most : (made : Option ℕ) (row bound : ℕ) → row ≤ bound → after_made made row ≤ bound + 1
made_most None row bound le = omega (arith, le)
made_most (Some made) row bound le = omega (arith, le)

made_is : (made : Option ℕ) (row n : ℕ) → (made ≡ None) ⊎ (made ≡ Some row) → made ≡ Some n → n ≡ row
made_is made row n (inl none) is = cc
made_is made row n (inr next) is = cc

made_gave : (made : Option ℕ) (row n : ℕ) → (made ≡ None) ⊎ (made ≡ Some row) → n < after_made made row → (n < row) ⊎ (made ≡ Some n)
made_gave None row n which lt = inl lt
made_gave (Some made) row n (inl none) lt = absurd cc
made_gave (Some made) row n (inr next) lt = elim (cases_lt n row) [
  | inl less ↦ inl less
  | inr least ↦ inr (next ∙ ap Some (omega (arith, lt, least)))
]

-- ---- draws

-- the sequence is one from this one on, and the number is its next value
abbrev IsNextFrom : ℕ → List ℕ → ℕ → ℕ → Type 0
IsNextFrom from ns q n = (i : ℕ) × (q ≡ from + i) × (i < length ns) × (n ≡ slice_index ns i)

next_later : (from m : ℕ) (ns : List ℕ) (q n : ℕ) → IsNextFrom (from + 1) ns q n → IsNextFrom from (m ∷ ns) q n
next_later from m ns q n is = (suc is.0, omega (arith, is.1), omega (arith, is.2), is.3)

-- a value that was drawn from a sequence is its next one
drawn_is : (test : ℕ → Bool) (from : ℕ) (ns : List ℕ) (q n : ℕ) → Any (λ (drawn : Value). drawn ≡ Draw q n) (drawn_from test from ns) → IsNextFrom from ns q n
drawn_is test from [] q n = λ any. absurd (omega (arith, any.2))
drawn_is test from (m ∷ ns) q n = elim (test from) as (λ b. Any (λ (drawn : Value). drawn ≡ Draw q n) (if b then Draw from m ∷ drawn_from test (from + 1) ns else drawn_from test (from + 1) ns) → IsNextFrom from (m ∷ ns) q n) [
  | true ↦ λ any. elim (any_split (λ (drawn : Value). drawn ≡ Draw q n) (Draw from m) (drawn_from test (from + 1) ns) any) [
    | inl here ↦ (let sequence : from ≡ q = cc in let value : m ≡ n = cc in (zero, omega (arith, sequence), omega arith, sym value))
    | inr later ↦ next_later from m ns q n (drawn_is test (from + 1) ns q n later)
  ]
  | false ↦ λ any. next_later from m ns q n (drawn_is test (from + 1) ns q n any)
]

-- so its sequence is one that moves
drawn_moves : (draws : List Value) (q n : ℕ) → Any (λ (drawn : Value). drawn ≡ Draw q n) draws → list_any (is_draw_of q) draws ≡ true
drawn_moves [] q n any = absurd (omega (arith, any.2))
drawn_moves (draw ∷ draws) q n any = elim (any_split (λ (drawn : Value). drawn ≡ Draw q n) draw draws any) [
  | inl here ↦ ap (λ (b : Bool). b || list_any (is_draw_of q) draws) (ap (is_draw_of q) here ∙ eq-eqb q q refl)
  | inr later ↦ ap (λ (b : Bool). is_draw_of q draw || b) (drawn_moves draws q n later) ∙ or-true (is_draw_of q draw)
]

-- a sequence that moves has a draw
draw_of : (q : ℕ) (x : Value) → is_draw_of q x ≡ true → (n : ℕ) × (x ≡ Draw q n)
draw_of q (Draw p n) is = (n, ap (λ (s : ℕ). Draw s n) (eqb-true p q is))
draw_of q Null is = cc
draw_of q (Int n) is = cc
draw_of q (Text text) is = cc
draw_of q (Row n) is = cc

has_draw : (draws : List Value) (q : ℕ) → list_any (is_draw_of q) draws ≡ true → (n : ℕ) × Any (λ (drawn : Value). drawn ≡ Draw q n) draws
has_draw draws q is =
    let found = Any-from_list_any (is_draw_of q) draws is in
    let draw = draw_of q found.1 found.4 in
    (draw.0, (found.0, found.1, found.2, found.3, draw.1))

moved_one : (b : Bool) (m : ℕ) → m ≤ (if b then m + 1 else m)
moved_one true m = omega arith
moved_one false m = omega arith

moved_more : (draws : List Value) (from : ℕ) (ns : List ℕ) (i : ℕ) → slice_index ns i ≤ slice_index (moved draws from ns) i
moved_more draws from [] i = omega arith
moved_more draws from (m ∷ ns) zero = moved_one (list_any (is_draw_of from) draws) m
moved_more draws from (m ∷ ns) (suc i) = moved_more draws (from + 1) ns i

moved_past : (draws : List Value) (from : ℕ) (ns : List ℕ) (i : ℕ) → i < length ns → list_any (is_draw_of (from + i)) draws ≡ true → slice_index ns i < slice_index (moved draws from ns) i
moved_past draws from [] i lt is = absurd (omega (arith, lt))
moved_past draws from (m ∷ ns) zero lt is =
    let here : from + zero ≡ from = omega arith in
    let moves : list_any (is_draw_of from) draws ≡ true = subst (λ (q : ℕ). list_any (is_draw_of q) draws ≡ true) here is in
    subst (λ (n : ℕ). m < n) (sym (ap (λ (b : Bool). if b then m + 1 else m) moves)) (omega arith)
moved_past draws from (m ∷ ns) (suc i) lt is =
    let there : from + suc i ≡ (from + 1) + i = omega arith in
    moved_past draws (from + 1) ns i (omega (arith, lt)) (subst (λ (q : ℕ). list_any (is_draw_of q) draws ≡ true) there is)

gave_one : (b : Bool) (m n : ℕ) → n < (if b then m + 1 else m) → (n < m) ⊎ ((b ≡ true) × (n ≡ m))
gave_one true m n lt = elim (cases_lt n m) [
  | inl less ↦ inl less
  | inr least ↦ inr (refl, omega (arith, lt, least))
]
gave_one false m n lt = inl lt

moved_gave : (draws : List Value) (from : ℕ) (ns : List ℕ) (i n : ℕ) → n < slice_index (moved draws from ns) i → (n < slice_index ns i) ⊎ ((list_any (is_draw_of (from + i)) draws ≡ true) × (n ≡ slice_index ns i))
moved_gave draws from [] i n lt = inl lt
moved_gave draws from (m ∷ ns) zero n lt =
    let here : from ≡ from + zero = omega arith in
    subst (λ (q : ℕ). (n < m) ⊎ ((list_any (is_draw_of q) draws ≡ true) × (n ≡ m))) here (gave_one (list_any (is_draw_of from) draws) m n lt)
moved_gave draws from (m ∷ ns) (suc i) n lt =
    let there : (from + 1) + i ≡ from + suc i = omega arith in
    subst (λ (q : ℕ). (n < slice_index ns i) ⊎ ((list_any (is_draw_of q) draws ≡ true) × (n ≡ slice_index ns i))) there (moved_gave draws (from + 1) ns i n lt)

most_one : (b : Bool) (m bound : ℕ) → m ≤ bound → (if b then m + 1 else m) ≤ bound + 1
most_one true m bound le = omega (arith, le)
most_one false m bound le = omega (arith, le)

moved_most : (draws : List Value) (from : ℕ) (ns : List ℕ) (bound : ℕ) → AllByRecursion (λ next. next ≤ bound) ns → AllByRecursion (λ next. next ≤ bound + 1) (moved draws from ns)
moved_most draws from [] bound each = tt
moved_most draws from (m ∷ ns) bound each = (most_one (list_any (is_draw_of from) draws) m bound each.0, moved_most draws (from + 1) ns bound each.1)

-- ---- a reply

below : (n a b : ℕ) → n < a → a ≤ b → n < b
below n a b lt le = omega (arith, lt, le)

module _ (ns : List ℕ) (row : ℕ) (reply : Reply) (gives : GivesNext ns row reply) where
  pub row_is : (n : ℕ) → reply.made ≡ Some n → n ≡ row
  row_is n is = made_is reply.made row n gives.made is

  pub draw_is : (q n : ℕ) → Any (λ (drawn : Value). drawn ≡ Draw q n) reply.draws → (q < length ns) × (n ≡ slice_index ns q)
  draw_is q n any =
      let is = drawn_is gives.test 0 ns q n (subst (Any (λ (drawn : Value). drawn ≡ Draw q n)) gives.draws any) in
      let there : is.0 ≡ q = omega (arith, is.1) in
      (omega (arith, is.2, there), subst (λ (i : ℕ). n ≡ slice_index ns i) there is.3)

-- ---- a step

module _ (state : State) (session : ℕ) (call : Call) where
  abbrev reply : Reply
  reply = reply_in state session call

  gives : GivesNext state.next_values state.next_row reply
  gives = reply_given state session call

  gives_fresh : (id : Value) → IsGivenBy id reply → IsPassed state id → ⊥
  gives_fresh (Row n) is passed = let next = row_is state.next_values state.next_row reply gives n is in omega (arith, next, passed)
  gives_fresh (Draw q n) is passed = let next = (draw_is state.next_values state.next_row reply gives q n is).1 in omega (arith, next, passed)
  gives_fresh Null is passed = is
  gives_fresh (Int n) is passed = is
  gives_fresh (Text text) is passed = is

  gives_passed : (id : Value) → IsGivenBy id reply → IsPassed (step state session call) id
  gives_passed (Row n) is = made_past reply.made state.next_row n is (row_is state.next_values state.next_row reply gives n is)
  gives_passed (Draw q n) is =
      let next = draw_is state.next_values state.next_row reply gives q n is in
      let past = moved_past reply.draws 0 state.next_values q next.0 (subst (λ (s : ℕ). list_any (is_draw_of s) reply.draws ≡ true) (sym (zero-add q)) (drawn_moves reply.draws q n is)) in
      subst (λ (m : ℕ). m < slice_index (moved reply.draws 0 state.next_values) q) (sym next.1) past
  gives_passed Null is = tt
  gives_passed (Int n) is = tt
  gives_passed (Text text) is = tt

  stays_passed : (id : Value) → IsPassed state id → IsPassed (step state session call) id
  stays_passed (Row n) passed = made_more reply.made state.next_row n passed
  stays_passed (Draw q n) passed = below n (slice_index state.next_values q) (slice_index (moved reply.draws 0 state.next_values) q) passed (moved_more reply.draws 0 state.next_values q)
  stays_passed Null passed = tt
  stays_passed (Int n) passed = tt
  stays_passed (Text text) passed = tt

  -- what is passed now was passed before, or it was given just now
  passes_given : (id : Value) → IsPassed (step state session call) id → IsPassed state id ⊎ IsGivenBy id reply
  passes_given (Row n) passed = made_gave reply.made state.next_row n gives.made passed
  passes_given (Draw q n) passed = elim (moved_gave reply.draws 0 state.next_values q n passed) [
    | inl before ↦ inl before
    | inr next ↦ (
        let drawn = has_draw reply.draws q (subst (λ (s : ℕ). list_any (is_draw_of s) reply.draws ≡ true) (zero-add q) next.0) in
        let same : drawn.0 ≡ n = (draw_is state.next_values state.next_row reply gives q drawn.0 drawn.1).1 ∙ sym next.1 in
        inr (subst (λ (m : ℕ). Any (λ (one : Value). one ≡ Draw q m) reply.draws) same drawn.1))
  ]
  passes_given Null passed = inl tt
  passes_given (Int n) passed = inl tt
  passes_given (Text text) passed = inl tt

  stays_low : (bound : ℕ) → AreAtMost bound state → AreAtMost (bound + 1) (step state session call)
  stays_low bound most = record { next_row = made_most reply.made state.next_row bound most.next_row; next_values = moved_most reply.draws 0 state.next_values bound most.next_values }

-- ---- as one state gives a reply and leaves another

module _ (old new : State) (session : ℕ) (call : Call) (reply : Reply) (is : Gives old session call reply new) where
  pub step_next : GivesNext old.next_values old.next_row reply
  step_next = subst (GivesNext old.next_values old.next_row) (sym is.0) (gives old session call)

  given_there : (id : Value) → IsGivenBy id reply → IsGivenBy id (reply_in old session call)
  given_there id given = subst (IsGivenBy id) is.0 given

  pub step_fresh : (id : Value) → IsGivenBy id reply → IsPassed old id → ⊥
  step_fresh id given = gives_fresh old session call id (given_there id given)

  pub step_passed : (id : Value) → IsGivenBy id reply → IsPassed new id
  step_passed id given = subst (λ (s : State). IsPassed s id) (sym is.1) (gives_passed old session call id (given_there id given))

  pub step_kept : (id : Value) → IsPassed old id → IsPassed new id
  step_kept id passed = subst (λ (s : State). IsPassed s id) (sym is.1) (stays_passed old session call id passed)

  pub step_gave : (id : Value) → IsPassed new id → IsPassed old id ⊎ IsGivenBy id reply
  step_gave id passed = elim (passes_given old session call id (subst (λ (s : State). IsPassed s id) is.1 passed)) [
    | inl before ↦ inl before
    | inr given ↦ inr (subst (IsGivenBy id) (sym is.0) given)
  ]

  pub step_bound : (bound : ℕ) → AreAtMost bound old → AreAtMost (bound + 1) new
  step_bound bound most = subst (AreAtMost (bound + 1)) (sym is.1) (stays_low old session call bound most)

  pub step_start : new.start ≡ old.start
  step_start = ap (λ (s : State). s.start) is.1

  pub step_count : length new.next_values ≡ length old.next_values
  step_count = ap (λ (s : State). length s.next_values) is.1 ∙ length_moved (reply_in old session call).draws 0 old.next_values
