-- The pairs of a map of ids, with the room behind them.
use Rattle.std.specs.Prelude.{ℕ, List}
use Rattle.id_pairs.specs.Pairs.{IdPair}

-- pairs in the order in which they came, and how many more there is room for
pub record PairsView : Type 0 where
  pub pairs : List IdPair
  pub spare : ℕ
