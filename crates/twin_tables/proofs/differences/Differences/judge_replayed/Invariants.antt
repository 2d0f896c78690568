use Rattle.std.proofs.Common.{◌≡◌, ℕ, ◌-◌, length}
use Rattle.twin_tables.specs.Differences.{AreKept, both_of, others_of, own_of}
use Rattle.twin_tables.specs.Inside.Judging.{AreCovered, StandsAs}
use Rattle.twin_tables.proofs.differences.Differences.judge_replayed.Given as goal

abbrev pub invariant-loop-row : goal.invariant-loop-row
invariant-loop-row l = record {
  kept : AreKept (both_of l.with) l.self;
  stands : StandsAs l.initial.self l.self;
  covered : AreCovered l.with.table (own_of l.with) (others_of l.with) l.self.kept.items;
  place : l.self.captured_place ≡ l.initial.self.captured_place;
}

abbrev pub decreases-loop-row : goal.decreases-loop-row
decreases-loop-row l = length l.with.replayed.now.list - l.self.replayed_place
