-- The one text of each value, reply and call. Fields are separated by one space.
use Rattle.std.specs.Prelude.{ℕ, ◌+◌, ◌/◌, ◌%◌, Bool, ◌&&◌, ◌||◌, nat_lt, nat_le, ◌==◌, if◌then◌else◌, List, [], ◌∷◌, ◌++◌, map, Option, None, Some, codes}
use Rattle.std.specs.List.{flat_map, join_with_byte}
use Rattle.std.specs.Fmt.{decimal, signed_decimal}
use Rattle.desk_values.specs.declared.value.Value.{Value}
use Rattle.desk_values.specs.declared.value.Value.TheVariants.{Null, Int, Text, Row, Draw}
use Rattle.desk_values.specs.declared.value.Image.{Image}
use Rattle.desk_values.specs.declared.call.Outcome.{Outcome}
use Rattle.desk_values.specs.declared.call.Outcome.TheVariants.{Rows, Count, Committed, RolledBack, Marked, Connected, Disconnected, Refused}
use Rattle.desk_values.specs.declared.call.Call.{Call}
use Rattle.desk_values.specs.declared.call.Call.TheVariants.{Connect, Sql, Disconnect}
use Rattle.desk_values.specs.declared.call.Reply.{Reply}
use Rattle.desk_values.specs.Fault.{fault_number}

-- the byte stands for itself in a text: a letter, a digit, `_`, `-` or `.`
abbrev pub is_plain : ℕ → Bool
is_plain byte = (nat_le 65 byte && nat_le byte 90) || (nat_le 97 byte && nat_le byte 122) || (nat_le 48 byte && nat_le byte 57) || byte == 95 || byte == 45 || byte == 46

-- an upper-case hexadecimal digit
abbrev pub hex_digit : ℕ → ℕ
hex_digit digit = if nat_lt digit 10 then 48 + digit else 55 + digit

-- every other byte is `%` and two hexadecimal digits
abbrev pub escape : ℕ → List ℕ
escape byte = if is_plain byte then byte ∷ [] else 37 ∷ hex_digit (byte / 16) ∷ hex_digit (byte % 16) ∷ []

abbrev pub escaped : List ℕ → List ℕ
escaped bytes = flat_map escape bytes

-- `t`, then the bytes
abbrev pub txt_text : List ℕ → List ℕ
txt_text bytes = 116 ∷ escaped bytes

-- `-`, `i5`, `tabc`, `r5`, `d0.5`
abbrev pub value_text : Value → List ℕ
value_text Null = 45 ∷ []
value_text (Int n) = 105 ∷ signed_decimal n
value_text (Text text) = txt_text text
value_text (Row n) = 114 ∷ decimal n
value_text (Draw sequence n) = 100 ∷ (decimal sequence ++ 46 ∷ decimal n)

-- `[`, the values joined by `,`, `]`
abbrev pub values_text : List Value → List ℕ
values_text values = 91 ∷ (join_with_byte 44 (map value_text values) ++ 93 ∷ [])

-- one row after the other, or `-`
abbrev pub rows_text : List (List Value) → List ℕ
rows_text [] = 45 ∷ []
rows_text (row ∷ rows) = flat_map values_text (row ∷ rows)

-- the values, or `gone`
abbrev pub left_text : Option (List Value) → List ℕ
left_text None = codes "gone"
left_text (Some values) = values_text values

-- row, table and what is left, with `:` between
abbrev pub image_text : Image → List ℕ
image_text image = decimal image.row ++ 58 ∷ (decimal image.table ++ 58 ∷ left_text image.left)

-- images joined by `;`, or `-`
abbrev pub images_text : List Image → List ℕ
images_text [] = 45 ∷ []
images_text (image ∷ images) = join_with_byte 59 (map image_text (image ∷ images))

abbrev pub call_text : Call → List ℕ
call_text (Connect service) = codes "connect " ++ txt_text service
call_text (Sql text binds) = codes "sql " ++ (txt_text text ++ 32 ∷ values_text binds)
call_text Disconnect = codes "disconnect"

abbrev pub outcome_text : Outcome → List ℕ
outcome_text (Rows rows) = codes "rows " ++ rows_text rows
outcome_text (Count n) = codes "count " ++ decimal n
outcome_text (Committed images) = codes "committed " ++ images_text images
outcome_text RolledBack = codes "rolledback"
outcome_text Marked = codes "marked"
outcome_text Connected = codes "connected"
outcome_text Disconnected = codes "disconnected"
outcome_text (Refused fault) = codes "refused " ++ decimal (fault_number fault)

-- `r5`, or `-`
abbrev pub made_text : Option ℕ → List ℕ
made_text None = 45 ∷ []
made_text (Some row) = 114 ∷ decimal row

-- outcome, draws and made row
abbrev pub reply_text : Reply → List ℕ
reply_text reply = outcome_text reply.outcome ++ 32 ∷ (values_text reply.draws ++ 32 ∷ made_text reply.made)
