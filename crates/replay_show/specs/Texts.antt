-- How a text is shown to people: no character of it changes what a terminal does.
use Rattle.std.specs.Prelude.{ℕ, ◌%◌, nat_le, ◌==◌, ◌&&◌, ◌||◌, if◌then◌else◌, Bool, true, List, [], ◌∷◌, ◌++◌, codes, encode_utf8}
use Rattle.std.specs.Fmt.{digits}
use Rattle.std.specs.List.{flat_map, list_any}
use Rattle.std.specs.Str.{chars}

-- Characters that are not seen, from the first to the last of each range: controls, odd blanks, marks of direction and of joining, fillers,
-- selectors, tags, characters for private use, and places that hold no character.
abbrev pub unseen_ranges : List (ℕ × ℕ)
unseen_ranges =
    (0x0, 0x1F) ∷ (0x7F, 0xA0) ∷ (0xAD, 0xAD) ∷ (0x34F, 0x34F) ∷ (0x61C, 0x61C) ∷ (0x115F, 0x1160) ∷ (0x1680, 0x1680) ∷ (0x17B4, 0x17B5)
    ∷ (0x180B, 0x180F) ∷ (0x2000, 0x200F) ∷ (0x2028, 0x202F) ∷ (0x205F, 0x206F) ∷ (0x2800, 0x2800) ∷ (0x3000, 0x3000) ∷ (0x3164, 0x3164)
    ∷ (0xE000, 0xF8FF) ∷ (0xFDD0, 0xFDEF) ∷ (0xFE00, 0xFE0F) ∷ (0xFEFF, 0xFEFF) ∷ (0xFFA0, 0xFFA0) ∷ (0xFFF0, 0xFFFB) ∷ (0x13430, 0x1343F) ∷ (0x1BCA0, 0x1BCA3)
    ∷ (0x1D173, 0x1D17A) ∷ (0xE0000, 0x10FFFF) ∷ []

abbrev pub is_within : ℕ → ℕ × ℕ → Bool
is_within c range = nat_le range.0 c && nat_le c range.1

-- it stands in one of these ranges, or is one of the last two of its plane, which are no characters
unfoldable pub is_unseen : ℕ → Bool
is_unseen c = list_any (is_within c) unseen_ranges || nat_le 0xFFFE (c % 0x10000)

-- its number, in upper-case hexadecimal digits
abbrev pub escape : ℕ → List ℕ
escape c = codes "\\u{" ++ (digits 16 true c ++ codes "}")

-- a character: those that end or shift a line by a letter, one that is not seen by its number, any other as it is
unfoldable pub shown_char : ℕ → List ℕ
shown_char c =
    if c == 10 then codes "\\n"
    else (if c == 13 then codes "\\r"
    else (if c == 9 then codes "\\t"
    else (if c == 92 then codes "\\\\"
    else (if is_unseen c then escape c
    else encode_utf8 c))))

-- within quotes a quote stands twice
abbrev pub quoted_char : ℕ → List ℕ
quoted_char c = if c == 39 then codes "''" else shown_char c

abbrev pub shown : List ℕ → List ℕ
shown text = flat_map shown_char (chars text)

abbrev pub quoted : List ℕ → List ℕ
quoted text = 39 ∷ (flat_map quoted_char (chars text) ++ 39 ∷ [])
