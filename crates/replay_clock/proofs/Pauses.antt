-- The time before a call.
use Rattle.std.proofs.Common.{◌≡◌, ℕ, ◌+◌, ◌-◌, inl, inr, Bool, List, [], ◌∷◌, ◌++◌, length, get_or, map, set, take, refl, sym, ap, ◌∙◌, arith}
use Rattle.std.specs.Prelude.{if◌then◌else◌, ◌==◌, slice_get}
use Rattle.std.proofs.lemmas.Bool.{cases_eq, eq-eqb, ne_eqb}
use Rattle.std.proofs.lemmas.List.{get_or-set_same, get_or-set_other, map_more}
use Rattle.std.proofs.lemmas.Option.{slice_get_within, get_or_from_slice_get}
use Rattle.desk_values.specs.declared.capture.Captured.{Captured}
use Rattle.replay_history.specs.Gap.{IsCallAt, IsGap, IsJustBefore}
use Rattle.replay_history.specs.Capture.{session_calls_before}
use Rattle.replay_clock.specs.declared.gap.Gap.{Gap}
use Rattle.law_histories.specs.Places.{AreInPlace}
use Rattle.law_histories.proofs.Places.{one_at_place, one_gap, one_more, same_call}
use Rattle.replay_clock.specs.Gaps.{gap_before}
use Rattle.replay_clock.specs.Inside.{gap_after}

-- by session when its last call below a stamp ended
abbrev pub AreEnds : List Captured → ℕ → List ℕ → Type 0
AreEnds calls i ended = (j : ℕ) (before : Captured) → IsCallAt calls j before → before.place + 1 ≡ session_calls_before calls before.session i → get_or ended before.session 0 ≡ before.ended

-- a time, and whether it is the one before a first call
abbrev timed : ℕ → Bool → Gap
timed micros first = record { micros = micros; first = first }

module _ (calls : List Captured) (each : AreInPlace calls) where
  gap_is : (k : ℕ) (call : Captured) (ended : List ℕ) → IsCallAt calls k call → AreEnds calls k ended → IsGap calls call (gap_after call (get_or ended call.session 0)).micros
  gap_is k call ended at ends = (first, later) where
    first : (call.place ≡ 0) → (gap_after call (get_or ended call.session 0)).micros ≡ call.began
    first zero_th = ap (λ (b : Bool). if b then call.began else (call.began - get_or ended call.session 0)) (eq-eqb call.place 0 zero_th)

    later : (j : ℕ) (before : Captured) → IsCallAt calls j before → IsJustBefore before call → (gap_after call (get_or ended call.session 0)).micros ≡ call.began - before.ended
    later j before bt just =
        let count : before.place + 1 ≡ session_calls_before calls before.session k = omega (arith, just.place) ∙ (each k call at).place ∙ ap (λ (s : ℕ). session_calls_before calls s k) (sym just.session) in
        let last : get_or ended call.session 0 ≡ before.ended = ap (λ (s : ℕ). get_or ended s 0) (sym just.session) ∙ ends j before bt count in
        ap (λ (b : Bool). if b then call.began else (call.began - get_or ended call.session 0)) (ne_eqb call.place 0 (λ e. omega (arith, e, just.place)))
        ∙ ap (λ (n : ℕ). call.began - n) last

  -- the times before the calls below a stamp, and the next one
  pub gaps_more : (i : ℕ) (ended : List ℕ) (call : Captured) (gaps : List Gap) → IsCallAt calls i call → AreEnds calls i ended → gaps ≡ map (gap_before calls) (take i calls) → gaps ++ gap_after call (get_or ended call.session 0) ∷ [] ≡ map (gap_before calls) (take (i + 1) calls)
  gaps_more i ended call gaps at ends before =
      let within = slice_get_within calls i call at in
      let here : get_or calls i call ≡ call = get_or_from_slice_get calls i call call at in
      let last : gap_after call (get_or ended call.session 0) ≡ gap_before calls call = ap (λ (micros : ℕ). timed micros (call.place == 0)) ((one_gap calls each i call at).2 (gap_after call (get_or ended call.session 0)).micros (gap_is i call ended at ends)) in
      ap (λ (all : List Gap). all ++ gap_after call (get_or ended call.session 0) ∷ []) before
      ∙ ap (λ (gap : Gap). map (gap_before calls) (take i calls) ++ gap ∷ []) (last ∙ ap (gap_before calls) (sym here))
      ∙ sym (map_more (gap_before calls) calls i call within)

  pub ends_more : (i : ℕ) (ended : List ℕ) (call : Captured) → IsCallAt calls i call → length ended ≡ 64 → AreEnds calls i ended → AreEnds calls (i + 1) (set ended call.session call.ended)
  ends_more i ended call at size ends j before bt count = elim (cases_eq before.session call.session) [
    | inl same ↦
        let more = (one_more calls call.session i call at).own refl in
        let counts = count ∙ ap (λ (s : ℕ). session_calls_before calls s (i + 1)) same in
        let here = one_at_place calls each j i before call bt at same (omega (arith, counts, more, (each i call at).place)) in
        let is = same_call calls i before call (ap (λ (n : ℕ). slice_get calls n) (sym here) ∙ bt) at in
        ap (λ (s : ℕ). get_or (set ended call.session call.ended) s 0) same ∙ get_or-set_same ended call.session call.ended 0 (omega (arith, size, (each i call at).session)) ∙ ap (λ (c : Captured). c.ended) (sym is)
    | inr other ↦
        let more = (one_more calls before.session i call at).other (λ e. other (sym e)) in
        get_or-set_other ended call.session before.session call.ended 0 other ∙ ends j before bt (count ∙ more)
  ]
