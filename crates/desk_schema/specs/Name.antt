-- Which texts are names of tables, columns, sequences and services.
use Rattle.std.specs.Prelude.{ℕ, Bool, false, ◌&&◌, ◌||◌, not, ◌==◌, nat_le, List, [], ◌∷◌, length, IsTrue}
use Rattle.std.specs.List.{list_all}
use Rattle.desk_values.specs.Limits.{name_limit}
use Rattle.desk_values.specs.Keyword.{is_keyword}

-- a lower-case letter
abbrev pub is_lower : ℕ → Bool
is_lower byte = nat_le 97 byte && nat_le byte 122

-- a lower-case letter, a digit or `_`
abbrev pub is_name_byte : ℕ → Bool
is_name_byte byte = is_lower byte || (nat_le 48 byte && nat_le byte 57) || byte == 95

abbrev pub begins_with_letter : List ℕ → Bool
begins_with_letter [] = false
begins_with_letter (first ∷ others) = is_lower first

-- begins with a small letter, goes on with small letters, digits or `_`, is no longer than 30 bytes and no keyword
unfoldable pub is_name : List ℕ → Bool
is_name bytes = begins_with_letter bytes && list_all is_name_byte bytes && nat_le (length bytes) name_limit && not (is_keyword bytes)

abbrev pub IsName : List ℕ → Type 0
IsName bytes = IsTrue (is_name bytes)
