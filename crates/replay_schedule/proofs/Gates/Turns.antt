-- The call of its session before a call: by the places of calls, and by what is known of them.
use Rattle.std.proofs.Common.{◌≡◌, ℕ, inl, inr, List, get_or, sym, ap, subst, ◌∙◌, arith}
use Rattle.std.specs.Prelude.{slice_get}
use Rattle.std.proofs.lemmas.Bool.{cases_eq, cases_lt}
use Rattle.std.proofs.lemmas.Option.{slice_get_within, slice_get-get_or}
use Rattle.desk_values.specs.declared.capture.Captured.{Captured}
use Rattle.replay_history.specs.Gap.{IsCallAt, IsJustBefore}
use Rattle.object_depends.specs.declared.fact.Fact.{Fact}
use Rattle.object_depends.specs.Facts.{fact_at}
use Rattle.commit_gate.specs.Gates.{IsBefore}
use Rattle.law_histories.specs.Places.{AreInPlace}
use Rattle.law_histories.proofs.Places.{one_before, places_rise, same_call, stands_before}
use Rattle.replay_job.specs.Job.{AreKnownOf}

module _ (calls : List Captured) (facts : List Fact) (each : AreInPlace calls) (known : AreKnownOf calls facts) where
  pub session_of : (k : ℕ) (call : Captured) → IsCallAt calls k call → (fact_at facts k).session ≡ call.session
  session_of k call at = (known.each k call at).session

  pub just_is_before : (j k : ℕ) (before call : Captured) → IsCallAt calls j before → IsCallAt calls k call → IsJustBefore before call → IsBefore facts k j
  just_is_before j k before call bt at just = record {
    below = stands_before calls each j k before call bt at just;
    session = session_of j before bt ∙ just.session ∙ sym (session_of k call at);
    next = λ i after lt same.
        let within = slice_get_within calls k call at in
        let it = get_or calls i call in
        let is = slice_get-get_or calls i call (omega (arith, lt, within)) in
        let own : it.session ≡ call.session = sym (session_of i it is) ∙ same ∙ session_of k call at in
        let first = places_rise calls each j i before it bt is (just.session ∙ sym own) after in
        let second = places_rise calls each i k it call is at own lt in
        omega (arith, first, second, just.place);
  }

  pub before_is_just : (j k : ℕ) (before call : Captured) → IsCallAt calls j before → IsCallAt calls k call → IsBefore facts k j → IsJustBefore before call
  before_is_just j k before call bt at is =
      let own : before.session ≡ call.session = sym (session_of j before bt) ∙ is.session ∙ session_of k call at in
      let rise = places_rise calls each j k before call bt at own is.below in
      let one = one_before calls each k call at (omega (arith, rise)) in
      let it = one.1 in
      let just = one.2.2 in
      elim (cases_lt one.0 j) [
        | inl earlier ↦ let less = places_rise calls each one.0 j it before one.2.1 bt (just.session ∙ sym own) earlier in absurd (omega (arith, less, rise, just.place))
        | inr over ↦ elim (cases_eq j one.0) [
          | inl same ↦ subst (λ (c : Captured). IsJustBefore c call) (sym (same_call calls one.0 before it (ap (λ (n : ℕ). slice_get calls n) (sym same) ∙ bt) one.2.1)) just
          | inr other ↦ absurd (is.next one.0 (omega (arith, over, other)) one.2.0 (session_of one.0 it one.2.1 ∙ just.session ∙ sym (session_of k call at)))
        ]
      ]
