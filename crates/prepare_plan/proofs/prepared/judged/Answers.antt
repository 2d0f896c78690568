use Rattle.std.proofs.Common.{◌≡◌, ◌≤◌, List, length, refl, sym, ap, subst, ◌∙◌, arith}
use Rattle.std.specs.Prelude.{Option, None, Some, Ok}
use Rattle.std.specs.List.{AllByRecursion}
use Rattle.std.proofs.lemmas.List.{length-map}
use Rattle.desk_values.specs.Room.{Room}
use Rattle.desk_values.specs.declared.capture.Captured.{Captured}
use Rattle.captured_calls.specs.Sessions.{AreSessionsFrom}
use Rattle.captured_calls.specs.Stamps.{all_calls, by_stamp}
use Rattle.captured_calls.proofs.Stamping.{by_stamp_len}
use Rattle.captured_calls.specs.declared.refusal.Refusal.{Refusal}
use Rattle.captured_calls.specs.Inside.{IsFit}
use Rattle.captured_calls.specs.Tests.{bad_stamp}
use Rattle.captured_calls.proofs.Legality.{all_stamped, fit_by_stamp, fit_lists, ok_is}
use Rattle.prepare_plan.specs.Inside.{ordered, ordered_or}
use Rattle.prepare_plan.specs.Lists.{lists_of}
use Rattle.prepare_plan.proofs.prepared.judged.Goals as goal
use Rattle.prepare_plan.proofs.prepared.judged.Goals.{In_ok-calls}

ordered_case : (fault : Option Refusal) (calls items : List Captured) → ordered_or fault calls ≡ Ok items → (fault ≡ None) × (items ≡ by_stamp calls)
ordered_case None calls items is = (refl, ok_is _ items is)
ordered_case (Some fault) calls items is = cc

module _ (lists : List (List Captured)) (calls items : List Captured) (all : calls ≡ all_calls lists) (given : ordered calls ≡ Ok items) where
  -- no stamp is bad, and the calls stand by stamp
  order_is : (bad_stamp (all_calls lists) ≡ None) × (items ≡ by_stamp (all_calls lists))
  order_is = ordered_case (bad_stamp (all_calls lists)) (all_calls lists) items (sym (ap ordered all) ∙ given)

  order_fit : length lists ≤ 64 → AreSessionsFrom 0 lists → AllByRecursion IsFit items
  order_fit few are = subst (AllByRecursion IsFit) (sym order_is.1) (fit_by_stamp (all_calls lists) (all_stamped (all_calls lists) order_is.0) (fit_lists 0 lists (omega (arith, few)) are))

  order_few : length calls ≤ 100000 → length items ≤ 100000
  order_few few = omega (arith, few, ap length all, by_stamp_len (all_calls lists) (all_stamped (all_calls lists) order_is.0), ap length order_is.1)

abbrev lists : In_ok-calls → List (List Captured)
lists c = lists_of c.args.sessions

few_lists : (c : In_ok-calls) → length (lists c) ≤ 64
few_lists c = omega (arith, c.requires.sessions, length-map c.args.sessions (λ (r : Room Captured). r.items))

few_calls : (c : In_ok-calls) → length c.in_ok-gathered.gathered.items ≤ 100000
few_calls c = omega (arith, c.if-len-gt-CALL_LIMIT.false, c.len.ensures, c.in_ok-gathered.gathered.ok)

pub planned-requires-clause-fit : goal.planned-requires-clause-fit
planned-requires-clause-fit c = order_fit (lists c) c.in_ok-gathered.gathered.items c.in_ok-calls.calls.items c.in_ok-gathered.ensures c.in_ok-calls.ensures (few_lists c) c.requires.lists

pub planned-requires-clause-count : goal.planned-requires-clause-count
planned-requires-clause-count c = order_few (lists c) c.in_ok-gathered.gathered.items c.in_ok-calls.calls.items c.in_ok-gathered.ensures c.in_ok-calls.ensures (few_calls c)
