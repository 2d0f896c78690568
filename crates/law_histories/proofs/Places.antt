-- The calls of each session in a capture, by their places.
use Rattle.std.proofs.Common.{◌≡◌, ◌≢◌, ℕ, zero, suc, ◌+◌, ◌-◌, ◌<◌, ◌≤◌, inl, inr, Bool, true, List, [], ◌∷◌, Option, Some, None, length, get_or, refl, sym, ap, ◌∙◌, arith}
use Rattle.std.specs.Prelude.{nat_eq, slice_get}
use Rattle.std.specs.List.{find, position_or_len}
use Rattle.std.proofs.lemmas.Bool.{both_ways, cases_eq, cases_lt, eq-eqb}
use Rattle.std.proofs.lemmas.Bool.Decides.{eqb_tells}
use Rattle.std.proofs.lemmas.List.Folds.{find_at}
use Rattle.std.proofs.lemmas.List.Sums.{count_by_more_yes, count_by_more_no}
use Rattle.std.proofs.lemmas.Option.{slice_get_within, slice_get-get_or, get_or_from_slice_get, none-some, same_Some}
use Rattle.desk_values.specs.declared.capture.Captured.{Captured}
use Rattle.desk_values.proofs.Options.{chosen}
use Rattle.desk_values.proofs.Words.{find_passes}
use Rattle.replay_history.specs.Gap.{IsCallAt, IsGap, IsJustBefore, gap_behind, gap_of, is_just_before}
use Rattle.replay_history.specs.Capture.{session_calls_before}
use Rattle.law_histories.specs.Laws.{IsOneBefore, IsOneGap}
use Rattle.law_histories.specs.Places.{AreInPlace}

pub same_call : (calls : List Captured) (k : ℕ) (a b : Captured) → IsCallAt calls k a → IsCallAt calls k b → a ≡ b
same_call calls k a b at bt = same_Some a b (sym at ∙ bt)

-- ---- how many calls of a session there are before a stamp

pub record OneMore (calls : List Captured) (s k : ℕ) (call : Captured) : Type 0 where
  pub own : call.session ≡ s → session_calls_before calls s (k + 1) ≡ session_calls_before calls s k + 1
  pub other : call.session ≢ s → session_calls_before calls s (k + 1) ≡ session_calls_before calls s k

pub one_more : (calls : List Captured) (s k : ℕ) (call : Captured) → IsCallAt calls k call → OneMore calls s k call
one_more calls s k call at =
    let within = slice_get_within calls k call at in
    let is = ap (λ (c : Captured). nat_eq c.session s) (get_or_from_slice_get calls k call call at) in
    elim (eqb_tells call.session s) [
      | inl own ↦ record { own = λ _. count_by_more_yes (λ (c : Captured). nat_eq c.session s) calls k call within (is ∙ own.0); other = λ differs. absurd (differs own.1) }
      | inr other ↦ record { own = λ same. absurd (other.1 same); other = λ _. count_by_more_no (λ (c : Captured). nat_eq c.session s) calls k call within (is ∙ other.0) }
    ]

grows : (calls : List Captured) (s k : ℕ) (call : Captured) → OneMore calls s k call → session_calls_before calls s k ≤ session_calls_before calls s (k + 1)
grows calls s k call more = elim (cases_eq call.session s) [ inl own ↦ omega (arith, more.own own) | inr other ↦ omega (arith, more.other other) ]

no_fewer : (calls : List Captured) (s j k : ℕ) (d : Captured) → j ≤ k → k ≤ length calls → session_calls_before calls s j ≤ session_calls_before calls s k
no_fewer calls s j zero d le within = let e : j ≡ 0 = omega (arith, le) in rw e (omega arith)
no_fewer calls s j (suc k) d le within = elim (cases_eq j (suc k)) [
  | inl same ↦ rw same (omega arith)
  | inr other ↦
      let next : k + 1 ≡ suc k = omega arith in
      let before = no_fewer calls s j k d (omega (arith, le, other)) (omega (arith, within)) in
      let more = grows calls s k (get_or calls k d) (one_more calls s k (get_or calls k d) (slice_get-get_or calls k d within)) in
      let last = ap (session_calls_before calls s) next in
      omega (arith, before, more, last)
]

-- the call of a session with the greatest stamp below k
pub record IsLastBelow (calls : List Captured) (s k : ℕ) : Type 0 where
  pub j : ℕ
  pub below : j < k
  pub call : Captured
  pub at : IsCallAt calls j call
  pub own : call.session ≡ s
  pub count : session_calls_before calls s j + 1 ≡ session_calls_before calls s k

pub last_below : (calls : List Captured) (s k : ℕ) (d : Captured) → k ≤ length calls → 0 < session_calls_before calls s k → IsLastBelow calls s k
last_below calls s zero d within some_there = absurd (omega (arith, some_there))
last_below calls s (suc k) d within some_there =
    let next : k + 1 ≡ suc k = omega arith in
    let counts = ap (session_calls_before calls s) next in
    let call = get_or calls k d in
    let at = slice_get-get_or calls k d within in
    let more = one_more calls s k call at in
    elim (cases_eq call.session s) [
      | inl own ↦ record { j = k; below = omega arith; call = call; at = at; own = own; count = sym (more.own own) ∙ counts }
      | inr other ↦
          let same = more.other other in
          let last = last_below calls s k d (omega (arith, within)) (omega (arith, some_there, same, counts)) in
          record { j = last.j; below = omega (arith, last.below); call = last.call; at = last.at; own = last.own; count = last.count ∙ sym same ∙ counts }
    ]

-- ---- the call just before

just_passes : (before call : Captured) → IsJustBefore before call → is_just_before before call ≡ true
just_passes before call just =
    let own : nat_eq before.session call.session ≡ true = eq-eqb before.session call.session just.session in
    let next : nat_eq (suc before.place) call.place ≡ true = eq-eqb (suc before.place) call.place just.place in
    rw (own, next) refl

passes_just : (before call : Captured) → is_just_before before call ≡ true → IsJustBefore before call
passes_just before call passes = elim (eqb_tells before.session call.session) [
  | inl own ↦ elim (eqb_tells (suc before.place) call.place) [
    | inl next ↦ record { session = own.1; place = next.1 }
    | inr next ↦ absurd (both_ways (is_just_before before call) (rw (own.0, next.0) refl) passes)
  ]
  | inr other ↦ absurd (both_ways (is_just_before before call) (rw other.0 refl) passes)
]

-- where one passes, one is found
found_none : {X : Type 0} (test : X → Bool) (xs : List X) (k : ℕ) (x : X) → slice_get xs k ≡ Some x → test x ≡ true → find test xs ≡ None → ⊥
found_none test [] k x at passes none = absurd (none-some x at)
found_none test (y ∷ ys) zero x at passes none = elim (chosen (test y) (Some y) (find test ys) None none) [
  | inl hit ↦ none-some y (sym hit.1)
  | inr miss ↦ both_ways (test y) miss.0 (ap test (same_Some y x at) ∙ passes)
]
found_none test (y ∷ ys) (suc k) x at passes none = elim (chosen (test y) (Some y) (find test ys) None none) [
  | inl hit ↦ none-some y (sym hit.1)
  | inr miss ↦ found_none test ys k x at passes miss.1
]

gap_within : (found : Option Captured) (call : Captured) → gap_behind found call ≤ call.began
gap_within None call = omega arith
gap_within (Some before) call = omega arith

-- ---- the calls of a legal capture

module _ (calls : List Captured) (each : AreInPlace calls) where
  pub places_rise : (j k : ℕ) (before call : Captured) → IsCallAt calls j before → IsCallAt calls k call → before.session ≡ call.session → j < k → before.place < call.place
  places_rise j k before call bt at same lt =
      let within = slice_get_within calls k call at in
      let two = (one_more calls call.session j before bt).own same in
      let all = no_fewer calls call.session (j + 1) k before (omega (arith, lt)) (omega (arith, within)) in
      let first : before.place ≡ session_calls_before calls call.session j = (each j before bt).place ∙ ap (λ (s : ℕ). session_calls_before calls s j) same in
      omega (arith, two, all, first, (each k call at).place)

  -- two calls of a session at one place are one
  pub one_at_place : (j k : ℕ) (before call : Captured) → IsCallAt calls j before → IsCallAt calls k call → before.session ≡ call.session → before.place ≡ call.place → j ≡ k
  one_at_place j k before call bt at same places = elim (cases_lt j k) [
    | inl less ↦ let rise = places_rise j k before call bt at same less in absurd (omega (arith, rise, places))
    | inr over ↦ elim (cases_lt k j) [
      | inl more ↦ let rise = places_rise k j call before at bt (sym same) more in absurd (omega (arith, rise, places))
      | inr under ↦ omega (arith, over, under)
    ]
  ]

  pub stands_before : (j k : ℕ) (before call : Captured) → IsCallAt calls j before → IsCallAt calls k call → IsJustBefore before call → j < k
  stands_before j k before call bt at just = elim (cases_lt j k) [
    | inl less ↦ less
    | inr over ↦ elim (cases_eq j k) [
      | inl same ↦
          let places = ap (λ (c : Captured). c.place) (same_call calls k before call (ap (λ (n : ℕ). slice_get calls n) (sym same) ∙ bt) at) in
          absurd (omega (arith, places, just.place))
      | inr other ↦
          let rise = places_rise k j call before at bt (sym just.session) (omega (arith, over, other)) in
          absurd (omega (arith, rise, just.place))
    ]
  ]

  -- a call that is not its session's first has one just before it
  pub just_before : (k : ℕ) (call : Captured) → IsCallAt calls k call → 0 < call.place → (j : ℕ) × (before : Captured) × IsCallAt calls j before × IsJustBefore before call
  just_before k call at later =
      let within = slice_get_within calls k call at in
      let is = (each k call at).place in
      let last = last_below calls call.session k call (omega (arith, within)) (omega (arith, later, is)) in
      let first : last.call.place ≡ session_calls_before calls call.session last.j = (each last.j last.call last.at).place ∙ ap (λ (s : ℕ). session_calls_before calls s last.j) last.own in
      (last.j, last.call, last.at, record { session = last.own; place = omega (arith, first, last.count, is) })

  -- two calls just before one are one
  same_before : (k : ℕ) (call : Captured) (j : ℕ) (before : Captured) → IsCallAt calls k call → IsCallAt calls j before → IsJustBefore before call → (i : ℕ) (other : Captured) → IsCallAt calls i other → IsJustBefore other call → (i ≡ j) × (other ≡ before)
  same_before k call j before at bt just i other ot too =
      let here = one_at_place i j other before ot bt (too.session ∙ sym just.session) (omega (arith, too.place, just.place)) in
      (here, same_call calls i other before ot (ap (λ (n : ℕ). slice_get calls n) here ∙ bt))

  pub one_before : (k : ℕ) (call : Captured) → IsCallAt calls k call → 0 < call.place → (j : ℕ) × (before : Captured) × IsOneBefore calls k call j before
  one_before k call at later =
      let just = just_before k call at later in
      (just.0, just.1, (stands_before just.0 k just.1 call just.2 at just.3, just.2, just.3, same_before k call just.0 just.1 at just.2 just.3))

  -- what is found just before a call is the one that stands there
  gap_holds : (k : ℕ) (call : Captured) → IsCallAt calls k call → IsGap calls call (gap_of calls call)
  gap_holds k call at = of_found (find (λ before. is_just_before before call) calls) refl where
    of_found : (found : Option Captured) → find (λ before. is_just_before before call) calls ≡ found → IsGap calls call (gap_behind found call)
    of_found None e = (λ _. refl, λ j before bt just. absurd (found_none (λ other. is_just_before other call) calls j before bt (just_passes before call just) e))
    of_found (Some before) e =
        let just = passes_just before call (find_passes (λ other. is_just_before other call) calls before e) in
        let bt = sym (find_at (λ other. is_just_before other call) calls) ∙ e in
        let i = position_or_len (λ other. is_just_before other call) calls in
        (λ first. absurd (omega (arith, first, just.place)), λ j other ot too. ap (λ (c : Captured). call.began - c.ended) (sym (same_before k call i before at bt just j other ot too).1))

  pub one_gap : (k : ℕ) (call : Captured) → IsCallAt calls k call → IsOneGap calls call (gap_of calls call)
  one_gap k call at =
      let holds = gap_holds k call at in (
        holds,
        gap_within (find (λ before. is_just_before before call) calls) call,
        λ other is. elim (cases_eq call.place 0) [
          | inl first ↦ is.0 first ∙ sym (holds.0 first)
          | inr later ↦
              let b = one_before k call at (omega (arith, later)) in
              is.1 b.0 b.1 b.2.1 b.2.2 ∙ sym (holds.1 b.0 b.1 b.2.1 b.2.2)
        ],
      )
