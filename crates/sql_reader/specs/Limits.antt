-- The limits of a statement.
use Rattle.std.specs.Prelude.{ℕ}

-- how deep an expression nests at most
abbrev pub nesting_limit : ℕ
nesting_limit = 32

-- the most members of a list
abbrev pub list_limit : ℕ
list_limit = 16
