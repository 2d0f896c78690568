use Rattle.std.proofs.Common.{◌≡◌, ◌-◌, length, vec_len}
use Rattle.std.specs.Ordering.{nat_cmp}
use Rattle.std.specs.BTreeMap.{get}
use Rattle.commit_gate.specs.Inside.Heads.{AreFirstHeads, AreNexts}
use Rattle.commit_gate.proofs.heads.first_heads.Given as goal

abbrev pub invariant-loop-step : goal.invariant-loop-step
invariant-loop-step l = record {
  len : vec_len l.nexts ≡ length l.facts;
  heads : AreFirstHeads l.facts (get nat_cmp l.heads) (length l.facts - l.step);
  nexts : AreNexts l.facts l.nexts.items (length l.facts - l.step);
}
