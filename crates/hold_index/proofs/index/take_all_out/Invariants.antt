use Rattle.std.proofs.Common.{◌≡◌, ℕ, take, None}
use Rattle.std.specs.Prelude.{nat_eq, if◌then◌else◌}
use Rattle.std.specs.List.{list_any}
use Rattle.hold_index.specs.Inside.Numbers.{session_of}
use Rattle.hold_index.proofs.index.take_all_out.Given as goal

abbrev pub invariant-loop-number : goal.invariant-loop-number
invariant-loop-number l = (n : ℕ) → session_of l.numbers n ≡ (if list_any (nat_eq n) (take l.number-index l.taken) then None else session_of l.fn.numbers n)
