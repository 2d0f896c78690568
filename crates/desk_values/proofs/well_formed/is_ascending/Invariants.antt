use Rattle.std.proofs.Common.{◌≡◌, drop}
use Rattle.desk_values.specs.Good.{ascend_above, rows_ascend}
use Rattle.desk_values.proofs.well_formed.is_ascending.Given as goal

abbrev pub invariant-loop-image : goal.invariant-loop-image
invariant-loop-image l = ascend_above l.row (drop l.image-index l.others) ≡ rows_ascend l.images
