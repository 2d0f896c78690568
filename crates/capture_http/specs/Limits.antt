-- The limits of a connection.
use Rattle.std.specs.Prelude.{ℕ}

-- how many requests are answered on a connection
abbrev pub request_limit : ℕ
request_limit = 1000000

-- how many bytes so many requests can have: each a head of 8,192 and a body of 65,536
abbrev pub byte_limit : ℕ
byte_limit = 73728000000
