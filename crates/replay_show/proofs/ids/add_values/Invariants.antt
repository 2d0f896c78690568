use Rattle.std.proofs.Common.{◌≡◌, take}
use Rattle.std.specs.List.{fold}
use Rattle.replay_show.specs.Ids.{with_value}
use Rattle.replay_show.proofs.ids.add_values.Given as goal

abbrev pub invariant-loop-value : goal.invariant-loop-value
invariant-loop-value l = l.to ≡ fold with_value l.fn.to (take l.value-index l.values)
