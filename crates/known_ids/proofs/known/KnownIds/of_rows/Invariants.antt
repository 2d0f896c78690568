use Rattle.std.proofs.Common.{ℕ, take}
use Rattle.std.specs.List.{flat_map}
use Rattle.desk_values.specs.Ids.{ids_of_image}
use Rattle.known_ids.specs.Knowing.{KnowsJust}
use Rattle.known_ids.proofs.known.KnownIds.of_rows.Given as goal

abbrev pub invariant-loop-image : goal.invariant-loop-image
invariant-loop-image l = (count : ℕ) → KnowsJust l.known count (flat_map ids_of_image (take l.image-index l.rows))
