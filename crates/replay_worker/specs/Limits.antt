-- How many client threads there are.
use Rattle.std.specs.Prelude.{ℕ}

-- the most lanes of a replay
abbrev pub lane_limit : ℕ
lane_limit = 64
