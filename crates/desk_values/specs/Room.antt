-- A list with room after its items.
use Rattle.std.specs.Prelude.{ℕ, List}

pub record Room (T : Type 0) : Type 0 where
  pub items : List T
  -- how many more items it takes without asking for memory
  pub spare : ℕ
