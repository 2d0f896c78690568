use Rattle.std.proofs.Common.{◌≡◌, drop}
use Rattle.std.specs.List.{flat_map}
use Rattle.desk_values.specs.Ids.{ids_of_image}
use Rattle.id_pairs.specs.Pairs.{all_new}
use Rattle.remap_ids.specs.IdMap.{own_pairs}
use Rattle.remap_ids.proofs.start_ids.add_rows.Given as goal

abbrev pub invariant-loop-row : goal.invariant-loop-row
invariant-loop-row l = all_new l.pairs.pairs (own_pairs (flat_map ids_of_image (drop l.row-index l.rows))) ≡ all_new l.initial.pairs.pairs (own_pairs (flat_map ids_of_image l.rows))
