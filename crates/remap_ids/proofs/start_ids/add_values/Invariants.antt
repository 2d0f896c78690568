use Rattle.std.proofs.Common.{◌≡◌, drop}
use Rattle.desk_values.specs.Ids.{ids_in}
use Rattle.id_pairs.specs.Pairs.{all_new}
use Rattle.remap_ids.specs.IdMap.{own_pairs}
use Rattle.remap_ids.proofs.start_ids.add_values.Given as goal

abbrev pub invariant-loop-value : goal.invariant-loop-value
invariant-loop-value l = all_new l.pairs.pairs (own_pairs (ids_in (drop l.value-index l.values))) ≡ all_new l.initial.pairs.pairs (own_pairs (ids_in l.values))
