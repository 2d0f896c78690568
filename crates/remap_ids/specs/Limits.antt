-- The limit of ids.
use Rattle.std.specs.Prelude.{ℕ}

-- what is added to an id without an image, 2 ^ 40: a server gives out ids below it
abbrev pub unknown_from : ℕ
unknown_from = 1099511627776
