use Rattle.std.proofs.Common.{◌≡◌, drop}
use Rattle.remap_ids.specs.IdMap.{start_pairs}
use Rattle.replay_show.specs.Ids.{pairs_behind}
use Rattle.replay_show.proofs.ids.map_behind.Given as goal

-- what the events that are left make of the pairs so far is what all events make of the start's
abbrev pub invariant-loop-event : goal.invariant-loop-event
invariant-loop-event l = pairs_behind l.calls l.stamp l.map.pairs (drop l.event-index l.history) ≡ pairs_behind l.calls l.stamp (start_pairs l.start) l.history
