-- The limits of an answer beside those of a head.
use Rattle.std.specs.Prelude.{ℕ}

-- the most bytes of a body: 128 MiB
abbrev pub body_limit : ℕ
body_limit = 134217728
