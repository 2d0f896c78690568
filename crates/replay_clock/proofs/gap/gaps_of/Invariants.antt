use Rattle.std.proofs.Common.{◌≡◌, length, map, take}
use Rattle.replay_clock.specs.Gaps.{gap_before}
use Rattle.replay_clock.proofs.Pauses.{AreEnds}
use Rattle.replay_clock.proofs.gap.gaps_of.Given as goal

abbrev pub invariant-loop-call : goal.invariant-loop-call
invariant-loop-call l = record {
  gaps : l.gaps ≡ map (gap_before l.calls.items) (take l.call-index l.calls.items);
  size : length l.ended ≡ 64;
  ends : AreEnds l.calls.items l.call-index l.ended;
}
