use Rattle.std.proofs.Common.{◌≡◌, ◌-◌, ◌≤◌, vec_len}
use Rattle.std.specs.Vec.{vec_capacity}
use Rattle.lock_table.specs.Holds.{is_key_of, with_first}
use Rattle.lock_table.proofs.Holding.{walked}
use Rattle.lock_table.proofs.locks.keep_keys.Given as goal

abbrev pub invariant-loop-at : goal.invariant-loop-at
invariant-loop-at l = record {
  keys : walked (is_key_of l.session) l.left l.at l.holds.items ≡ with_first (is_key_of l.session) l.most l.fn.holds.items;
  len : vec_len l.holds ≤ vec_len l.fn.holds;
  room : vec_capacity l.holds ≡ vec_capacity l.fn.holds;
}

abbrev pub decreases-loop-at : goal.decreases-loop-at
decreases-loop-at l = vec_len l.holds - l.at
