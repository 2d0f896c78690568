use Rattle.std.proofs.Common.{ℕ, ◌-◌, length, take}
use Rattle.twin_tables.specs.Differences.{AreKept, both_of, others_of, own_of}
use Rattle.twin_tables.specs.Inside.Judging.{AreCovered, StandsAs}
use Rattle.twin_tables.proofs.differences.Differences.judge_kept.Given as goal

abbrev pub invariant-loop-suspect : goal.invariant-loop-suspect
invariant-loop-suspect l = record {
  kept : AreKept (both_of l.with) l.self;
  stands : StandsAs l.initial.self l.self;
  covered : AreCovered l.with.table (own_of l.with) (others_of l.with) (take l.next l.self.kept.items);
}

abbrev pub decreases-loop-suspect : goal.decreases-loop-suspect
decreases-loop-suspect l = length l.self.kept.items - l.next
