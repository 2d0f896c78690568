-- The limits of a command.
use Rattle.std.specs.Prelude.{ℕ}

-- the most bytes of the files of a capture together: 256 MiB
abbrev pub capture_limit : ℕ
capture_limit = 268435456
