-- What a machine stands for.
use Rattle.std.specs.Prelude.{ℕ}
use Rattle.server_words.specs.State.{State}

-- a state, and how many steps were taken
pub record Running : Type 0 where
  pub state : State
  pub steps : ℕ
