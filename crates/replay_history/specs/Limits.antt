-- The limits of a capture and of a replay.
use Rattle.std.specs.Prelude.{ℕ}

-- the most calls of a capture
abbrev pub call_limit : ℕ
call_limit = 100000

-- the most hundredths of a gap that a pause takes
abbrev pub percent_limit : ℕ
percent_limit = 1000
