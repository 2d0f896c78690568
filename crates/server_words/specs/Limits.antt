-- The limits of the server.
use Rattle.std.specs.Prelude.{ℕ}

-- the most rows that a statement touches, and that a transaction changes
abbrev pub row_limit : ℕ
row_limit = 1000
