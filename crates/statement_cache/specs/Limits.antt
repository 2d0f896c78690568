-- The limits of what is kept of texts.
use Rattle.std.specs.Prelude.{ℕ}

-- the most bytes that are counted: 16 MiB
abbrev pub bytes_limit : ℕ
bytes_limit = 16777216

-- so many are counted for each byte of a text, whose tree takes no more
abbrev pub tree_bytes : ℕ
tree_bytes = 48

-- and so many for each text beside those
abbrev pub bytes_more : ℕ
bytes_more = 512
