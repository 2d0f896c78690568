use Rattle.std.proofs.Common.{refl}
use Rattle.replay_walk.proofs.servers.sides_of.Goals as goal

pub returns : goal.returns
returns c = record {
  map_is = refl;
  table_is = refl;
  captured_is = refl;
  captured_at = refl;
  own = c.as_slice.ensures;
  replayed_is = refl;
  replayed_at = refl;
  others = c.as_slice-2.ensures;
}
