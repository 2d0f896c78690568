-- The verdict takes calls exactly where they can be legal.
use Rattle.std.proofs.Common.{◌≡◌, ℕ, ◌≤◌, List, length, subst}
use Rattle.std.specs.Prelude.{None, Some, slice_get}
use Rattle.desk_values.specs.declared.capture.Captured.{Captured}
use Rattle.desk_schema.specs.Start.{StartView}
use Rattle.captured_calls.specs.Sessions.{AreSessionsFrom}
use Rattle.captured_calls.specs.Stamps.{all_calls, by_stamp}
use Rattle.captured_calls.proofs.Permuted.{stamped_are_all}
use Rattle.captured_calls.proofs.Stamping.{stamp_is}
use Rattle.captured_calls.specs.Tests.{bad_stamp}
use Rattle.captured_calls.specs.Verdict.{CanBeLegal, IsLegal}
use Rattle.captured_calls.proofs.Legality.{all_stamped, has, plan_calls, plan_legal}
use Rattle.law_commands.specs.Legality.First.{IsTaken, plan_of}
use Rattle.law_commands.proofs.Legality.Taken.{plan_given}

pub taken_can_be_legal : (start : StartView) (lists : List (List Captured)) → AreSessionsFrom 0 lists → length lists ≤ 64 → IsTaken start lists → CanBeLegal start (all_calls lists)
taken_can_be_legal start lists are count taken =
    let calls = all_calls lists in
    (by_stamp calls, stamped_are_all calls (has start lists taken.0 taken.1), subst (IsLegal start) (plan_calls start lists taken.0 taken.1) (plan_legal start lists taken.0 taken.1 are count))

pub legal_are_taken : (start : StartView) (lists : List (List Captured)) → CanBeLegal start (all_calls lists) → IsTaken start lists
legal_are_taken start lists can = (plan_of start (by_stamp (all_calls lists)), plan_given start lists can.0 can.1 can.2)

pub stamp_at : (calls : List Captured) (k : ℕ) (call : Captured) → bad_stamp calls ≡ None → slice_get (by_stamp calls) k ≡ Some call → call.stamp ≡ k
stamp_at calls k call good there = stamp_is calls (all_stamped calls good) k call there
