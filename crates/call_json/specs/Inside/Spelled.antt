-- Which bytes stand in a number, and which in a string as themselves.
use Rattle.std.specs.Prelude.{ℕ, Bool, ◌||◌, not, nat_lt, ◌==◌}
use Rattle.std.specs.Char.{is_ascii_digit}

-- it is escaped in a string, or ends it
abbrev pub is_stop : ℕ → Bool
is_stop byte = byte == 34 || (byte == 92 || nat_lt byte 32)

abbrev pub is_plain : ℕ → Bool
is_plain byte = not (is_stop byte)

-- a digit or a sign
abbrev pub is_number_byte : ℕ → Bool
is_number_byte byte = is_ascii_digit byte || byte == 45
