use Rattle.std.proofs.Common.{◌≡◌, map, take}
use Rattle.remap_ids.specs.Sent.{sent_value}
use Rattle.remap_ids.proofs.id_map.IdMap.sent_binds.Given as goal

abbrev pub invariant-loop-value : goal.invariant-loop-value
invariant-loop-value l = l.values ≡ map (sent_value l.self.pairs) (take l.value-index l.value-items)
