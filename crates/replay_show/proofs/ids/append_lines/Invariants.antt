use Rattle.std.proofs.Common.{◌≡◌, ◌++◌, take}
use Rattle.std.specs.List.{flat_map}
use Rattle.replay_show.specs.Ids.{id_line}
use Rattle.replay_show.proofs.ids.append_lines.Given as goal

abbrev pub invariant-loop-id : goal.invariant-loop-id
invariant-loop-id l = l.to ≡ l.fn.to ++ flat_map (id_line l.schema l.calls l.map.pairs l.sent) (take l.id-index l.told)
