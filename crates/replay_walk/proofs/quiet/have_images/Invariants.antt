use Rattle.std.proofs.Common.{◌≡◌, true, take}
use Rattle.std.specs.Prelude.{is_some}
use Rattle.id_pairs.specs.Carrying.Carried.{carried_row}
use Rattle.replay_walk.proofs.quiet.have_images.Given as goal

abbrev pub invariant-loop-value : goal.invariant-loop-value
invariant-loop-value l = is_some (carried_row l.map.pairs (take l.value-index l.binds)) ≡ true
