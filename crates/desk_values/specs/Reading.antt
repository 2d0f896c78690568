-- What the bytes of a text say: the value whose text they are, where there is one.
use Rattle.std.specs.Prelude.{ℕ, ◌-◌, ◌^◌, ◌&&◌, nat_lt, nat_le, ◌==◌, if◌then◌else◌, ℤ, pos, negsuc, List, [], ◌∷◌, length, drop, slice_index, Option, None, Some, Result, codes}
use Rattle.std.specs.Option.{option_map, option_and_then}
use Rattle.std.specs.Fmt.{decimal}
use Rattle.std.specs.Str.{is_utf8, bytes_eq}
use Rattle.std.specs.Str.Parse.{digits_value}
use Rattle.percent_encoding.specs.Percent.{percent_decode}
use Rattle.desk_values.specs.declared.read_err.ReadErr.{ReadErr}
use Rattle.desk_values.specs.declared.read_err.ReadErr.TheVariants.{Bad, Memory}
use Rattle.desk_values.specs.Limits.{text_limit}
use Rattle.desk_values.specs.declared.value.Value.{Value}
use Rattle.desk_values.specs.declared.value.Value.TheVariants.{Null, Int, Text, Row, Draw}
use Rattle.desk_values.specs.Answers.{Answers}
use Rattle.desk_values.specs.Fields.{cut_at, pieces}
use Rattle.desk_values.specs.Text.{escaped}

-- what an error of a reader says of what there is to read: Bad that there is nothing, want of memory nothing at all
abbrev pub unread : {T : Type 0} → ReadErr → Option (Option T)
unread Bad = Some None
unread Memory = None

-- what a reader answers: what there is to read, or Bad where there is nothing; want of memory may come at any time
abbrev pub Reads : {T : Type 0} → Result T ReadErr → Option T → Type 0
Reads result read = Answers Some unread result read

infixl 10 ◌>>=◌
abbrev pub ◌>>=◌ : {A B : Type 0} → Option A → (A → Option B) → Option B
read >>= next = option_and_then next read

-- the value, if no bytes are left
abbrev pub at_end : {T : Type 0} → List ℕ → T → Option T
at_end [] value = Some value
at_end (first ∷ rest) value = None

-- ---- numbers

-- the number below 2 ^ 64 whose decimal text this is
unfoldable pub number_of : List ℕ → Option ℕ
number_of bytes = let n = digits_value 10 bytes in if bytes_eq (decimal n) bytes && nat_lt n (2 ^ 64) then Some n else None

-- the same, below a smaller limit
unfoldable pub number_below : ℕ → List ℕ → Option ℕ
number_below limit bytes = do
  n ← number_of bytes
  if nat_lt n limit then Some n else None

abbrev pub not_negative : ℕ → Option ℤ
not_negative n = if nat_lt n (2 ^ 63) then Some (pos n) else None

abbrev pub negative : ℕ → Option ℤ
negative n = if nat_lt 0 n && nat_le n (2 ^ 63) then Some (negsuc (n - 1)) else None

-- the number of 64 bits with sign whose text this is
unfoldable pub integer_of : List ℕ → Option ℤ
integer_of bytes = if slice_index bytes 0 == 45 then number_of (drop 1 bytes) >>= negative else number_of bytes >>= not_negative

-- ---- texts

-- these bytes, where they are a text
unfoldable pub txt_in : List ℕ → Option (List ℕ)
txt_in bytes = if nat_le (length bytes) text_limit && is_utf8 bytes then Some bytes else None

-- the text whose escaped text this is: what its escapes stand for, where that is escaped so again
unfoldable pub escaped_of : List ℕ → Option (List ℕ)
escaped_of bytes = let text = percent_decode bytes in if bytes_eq (escaped text) bytes then txt_in text else None

-- the text that follows a `t`
unfoldable pub txt_of : List ℕ → Option (List ℕ)
txt_of bytes = if slice_index bytes 0 == 116 then escaped_of (drop 1 bytes) else None

-- ---- values

-- the draw that the sequence, a point and the value spell
unfoldable pub draw_of : List ℕ → Option Value
draw_of bytes = do
  parts ← cut_at 46 bytes
  sequence ← number_below (2 ^ 32) parts.0
  n ← number_of parts.1
  Some (Draw sequence n)

-- the value whose text this is
unfoldable pub value_of : List ℕ → Option Value
value_of bytes = if bytes_eq bytes (codes "-") then Some Null
    else (if slice_index bytes 0 == 105 then option_map Int (integer_of (drop 1 bytes))
    else (if slice_index bytes 0 == 116 then option_map Text (escaped_of (drop 1 bytes))
    else (if slice_index bytes 0 == 114 then option_map Row (number_of (drop 1 bytes))
    else (if slice_index bytes 0 == 100 then draw_of (drop 1 bytes)
    else None))))

-- each of them read, in order
unfoldable pub each_of : {T : Type 0} → (List ℕ → Option T) → List (List ℕ) → Option (List T)
each_of read [] = Some []
each_of read (piece ∷ others) = do
  item ← read piece
  items ← each_of read others
  Some (item ∷ items)

-- values with a comma between, at least one
unfoldable pub items_of : List ℕ → Option (List Value)
items_of bytes = each_of value_of (pieces 44 bytes)

-- what stands between `[` and the first `]`, where that ends the bytes
unfoldable pub inside_of : List ℕ → Option (List ℕ)
inside_of bytes = if slice_index bytes 0 == 91 then (do
  parts ← cut_at 93 (drop 1 bytes)
  at_end parts.1 parts.0) else None

-- the values whose text this is
unfoldable pub values_of : List ℕ → Option (List Value)
values_of bytes = do
  inside ← inside_of bytes
  if length inside == 0 then Some [] else items_of inside
