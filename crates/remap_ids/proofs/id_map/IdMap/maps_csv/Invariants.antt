use Rattle.std.proofs.Common.{◌≡◌, ◌++◌, drop}
use Rattle.std.specs.List.{flat_map}
use Rattle.remap_ids.specs.MapsText.{maps_text, pair_line}
use Rattle.remap_ids.proofs.id_map.IdMap.maps_csv.Given as goal

abbrev pub invariant-loop-place : goal.invariant-loop-place
invariant-loop-place l = l.bytes ++ flat_map pair_line (drop l.place l.self.pairs) ≡ maps_text (drop l.self.own l.self.pairs)
