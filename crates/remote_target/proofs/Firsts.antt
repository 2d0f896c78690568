-- Where two lists differ first, behind as many places as both have.
use Rattle.std.proofs.Common.{◌≡◌, ◌≢◌, ◌∙◌, ℕ, ◌<◌, inl, inr, Bool, List, length, min, None, Some, sym, arith}
use Rattle.std.specs.Prelude.{slice_get}
use Rattle.std.proofs.lemmas.Bool.{cases_lt}
use Rattle.std.proofs.lemmas.Option.{slice_get_past}
use Rattle.law_histories.proofs.Items.{item_there}
use Rattle.remote_link.specs.declared.heard.Heard.{Heard}
use Rattle.remote_target.specs.Agreement.{AgreesAt, AgreesIn, LacksLast}

module _ (stopped : Bool) (kept answered : List Heard) (n : ℕ) where
  -- as long as each other, they agree where their places do
  pub as_long_agree : length kept ≡ length answered → n ≡ length kept → ((i : ℕ) → i < n → AgreesAt stopped kept answered i) → AgreesIn stopped kept answered
  as_long_agree same both each i = elim (cases_lt i n) [
    | inl within ↦ each i within
    | inr past ↦ inl (slice_get_past kept i (omega (arith, past, both)) ∙ sym (slice_get_past answered i (omega (arith, past, both, same))))
  ]

  none_there : slice_get kept n ≡ None → (one : Heard) → slice_get answered n ≡ Some one → AgreesAt stopped kept answered n → ⊥
  none_there none one some (inl same) = let clash : None ≡ Some one = sym none ∙ same ∙ some in cc
  none_there none one some (inr lacks) = let l : LacksLast kept answered n = lacks.1 in let is = l.kept_is in cc

  none_here : slice_get answered n ≡ None → (one : Heard) → slice_get kept n ≡ Some one → AgreesAt stopped kept answered n → ⊥
  none_here none one some (inl same) = let clash : Some one ≡ None = sym some ∙ same ∙ none in cc
  none_here none one some (inr lacks) = let l : LacksLast kept answered n = lacks.1 in let is = l.answered_is in cc

  -- else they differ where the shorter one ends
  pub one_is_longer : length kept ≢ length answered → n ≡ min (length kept) (length answered) → AgreesAt stopped kept answered n → ⊥
  one_is_longer apart both agrees = elim (cases_lt (length kept) (length answered)) [
    | inl shorter ↦
        let there = item_there answered n (omega (arith, both, shorter)) in
        none_there (slice_get_past kept n (omega (arith, both, shorter))) there.0 there.1 agrees
    | inr longer ↦
        let there = item_there kept n (omega (arith, both, longer, apart)) in
        none_here (slice_get_past answered n (omega (arith, both, longer))) there.0 there.1 agrees
  ]
