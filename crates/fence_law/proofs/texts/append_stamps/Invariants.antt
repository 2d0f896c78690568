use Rattle.std.proofs.Common.{◌≡◌, ◌++◌, ℕ, take}
use Rattle.std.specs.List.{flat_map}
use Rattle.std.specs.Fmt.{decimal}
use Rattle.replay_history.specs.Texts.{line}
use Rattle.fence_law.proofs.texts.append_stamps.Given as goal

abbrev pub invariant-loop-stamp : goal.invariant-loop-stamp
invariant-loop-stamp l = l.to ≡ l.fn.to ++ flat_map (λ (stamp : ℕ). line (decimal stamp)) (take l.stamp-index l.stamps)
