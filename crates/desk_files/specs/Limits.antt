-- The limit of a file.
use Rattle.std.specs.Prelude.{ℕ}

-- the most bytes of a file that is read: 64 MiB
abbrev pub file_limit : ℕ
file_limit = 67108864
