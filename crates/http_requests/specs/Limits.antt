-- The limits of a request.
use Rattle.std.specs.Prelude.{ℕ}

-- the most bytes of a head, up to and with the empty line that ends it
abbrev pub head_limit : ℕ
head_limit = 8192

-- the most fields of a head
abbrev pub field_limit : ℕ
field_limit = 64

-- the most bytes of a body
abbrev pub body_limit : ℕ
body_limit = 65536

-- the most digits of a body's length
abbrev pub digit_limit : ℕ
digit_limit = 10
