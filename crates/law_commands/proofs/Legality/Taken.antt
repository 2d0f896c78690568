-- A verdict takes what can be legal.
use Rattle.std.proofs.Common.{◌≡◌, ℕ, List, length, ap, subst, ◌∙◌, arith}
use Rattle.std.specs.Prelude.{Option, None, Ok, option_map}
use Rattle.std.specs.List.Sorted.{IsPermutation}
use Rattle.std.proofs.lemmas.Bool.{le-leb}
use Rattle.desk_values.specs.declared.capture.Captured.{Captured}
use Rattle.desk_schema.specs.Start.{StartView}
use Rattle.captured_calls.specs.declared.refusal.Refusal.{Refusal}
use Rattle.captured_calls.specs.declared.refusal.Refusal.TheVariants.{Stamp}
use Rattle.replay_history.specs.Limits.{call_limit}
use Rattle.replay_history.specs.Gap.{IsStamped}
use Rattle.captured_calls.specs.Stamps.{all_calls, by_stamp}
use Rattle.captured_calls.proofs.Ordered.{len, none_bad, order_is_by_stamp}
use Rattle.captured_calls.specs.Tests.{bad_stamp, too_many}
use Rattle.captured_calls.specs.Verdict.{IsLegal, fault_of, or_else, verdict, verdict_of}
use Rattle.law_commands.specs.Legality.First.{plan_of}
use Rattle.law_commands.proofs.Legality.Fits.{no_fault, unless_true}

module _ (start : StartView) (lists : List (List Captured)) (ordered : List Captured) (same : IsPermutation (all_calls lists) ordered) (legal : IsLegal start ordered) where
  stamped : IsStamped ordered
  stamped j call there = (legal.each j call there).stamp

  pub order_is : ordered ≡ by_stamp (all_calls lists)
  order_is = order_is_by_stamp (all_calls lists) ordered same stamped

  few : too_many (all_calls lists) ≡ None
  few = unless_true _ _ (le-leb (length (all_calls lists)) call_limit (omega (arith, legal.count, len (all_calls lists) ordered same stamped)))

  stamps : bad_stamp (all_calls lists) ≡ None
  stamps = ap (λ (o : Option ℕ). option_map Stamp o) (none_bad (all_calls lists) ordered same stamped)

  passes : fault_of start (by_stamp (all_calls lists)) ≡ None
  passes = subst (λ (l : List Captured). fault_of start l ≡ None) order_is (no_fault start ordered legal)

  pub plan_given : verdict start lists ≡ Ok (plan_of start (by_stamp (all_calls lists)))
  unfolding verdict
  plan_given =
      let plan = plan_of start (by_stamp (all_calls lists)) in
      ap (λ (o : Option Refusal). or_else o (or_else (bad_stamp (all_calls lists)) (verdict_of start (by_stamp (all_calls lists))))) few
      ∙ ap (λ (o : Option Refusal). or_else o (verdict_of start (by_stamp (all_calls lists)))) stamps
      ∙ ap (λ (o : Option Refusal). or_else o (Ok plan)) passes
