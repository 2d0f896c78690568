-- What is spelled as it is written is the text of the call or the reply.
use Rattle.std.proofs.Common.{◌≡◌, ℕ, ◌<◌, ◌^◌, true, false, ltb, eqb, pos, negsuc, List, [], ◌∷◌, ◌++◌, map, Option, Some, None, IsUtf8, append_assoc, append-nil, refl, sym, ap, ◌∙◌, arith}
use Rattle.std.specs.Prelude.{codes, IfSome}
use Rattle.std.specs.Fmt.{decimal}
use Rattle.std.specs.List.{AllByRecursion, flat_map, list_all}
use Rattle.std.proofs.lemmas.Bool.{and_parts, or_parts, not-true, eqb-false, ltb-false}
use Rattle.std.proofs.lemmas.List.Concat.{flat_map-append}
use Rattle.desk_values.specs.Fault.{fault_number}
use Rattle.desk_values.specs.Good.{IsCall, IsGoodDraw, IsGoodImage, IsGoodOutcome, IsGoodReply, IsGoodRow, IsValue, IsValues}
use Rattle.desk_values.specs.declared.value.Value.{Value}
use Rattle.desk_values.specs.declared.value.Value.TheVariants as value
use Rattle.desk_values.specs.declared.value.Image.{Image}
use Rattle.desk_values.specs.declared.call.Call.{Call}
use Rattle.desk_values.specs.declared.call.Call.TheVariants.{Connect, Sql, Disconnect}
use Rattle.desk_values.specs.declared.call.Outcome.{Outcome}
use Rattle.desk_values.specs.declared.call.Outcome.TheVariants as outcome
use Rattle.desk_values.specs.declared.call.Reply.{Reply}
use Rattle.desk_values.proofs.Faults.{fault_number_small}
use Rattle.json.specs.Lex.{tokens}
use Rattle.json.specs.Print.{escape, escape_byte, quoted}
use Rattle.json.specs.Tree as tree
use Rattle.json.proofs.Printed.Decimals.{IsNumber-decimal, IsNumber-signed_decimal}
use Rattle.json.proofs.Printed.Strings.{escape_byte_plain}
use Rattle.json.proofs.Printed.Tokens.{tokens-print}
use Rattle.json.proofs.Printed.Trees.{ArePrintable-json_tokens}
use Rattle.serde_json.specs.Data.{Data}
use Rattle.serde_json.specs.View.{items_of}
use Rattle.serde_json.specs.Written.{compact_text, items_text, outline, items_outline}
use Rattle.serde_json.proofs.Texts.{print-outline}
use Rattle.call_json.specs.Forms.{call_data, call_text, count_data, image_data, left_data, list_data, made_data, object_of_one, object_of_three, outcome_data, reply_data, reply_text, value_data, values_data}
use Rattle.call_json.specs.Spellings.{IsCallJson, IsReplyJson}
use Rattle.call_json.specs.Inside.Spelled.{is_plain, is_stop}
use Rattle.call_json.specs.Inside.Tokens.{data_tokens}
use Rattle.call_json.proofs.CallsRead.{written_call}
use Rattle.call_json.proofs.Depths.{reply_shallow}
use Rattle.call_json.proofs.Written.{call_told, read_again, reply_told}

-- ---- texts

escape_plain : (bytes : List ℕ) → list_all is_plain bytes ≡ true → escape bytes ≡ bytes
escape_plain [] plain = refl
escape_plain (byte ∷ bytes) plain =
    let both = and_parts (is_plain byte) (list_all is_plain bytes) plain in
    let first = or_parts (eqb byte 34) _ (not-true (is_stop byte) both.0) in
    let second = or_parts (eqb byte 92) (ltb byte 32) first.1 in
    ap (λ (front : List ℕ). front ++ escape bytes) (escape_byte_plain byte (eqb-false byte 34 first.0) (eqb-false byte 92 second.0) (ltb-false byte 32 second.1))
    ∙ ap (λ (rest : List ℕ). byte ∷ rest) (escape_plain bytes both.1)

pub plain_is : (content text : List ℕ) → text ≡ content → list_all is_plain content ≡ true → quoted text ≡ 34 ∷ (content ++ 34 ∷ [])
plain_is content text same plain = ap (λ (bytes : List ℕ). 34 ∷ (bytes ++ 34 ∷ [])) (ap escape same ∙ escape_plain content plain)

pub text_is : (bytes opened content rest text : List ℕ) → bytes ≡ 34 ∷ opened → opened ≡ content ++ 34 ∷ rest → quoted text ≡ 34 ∷ (content ++ 34 ∷ []) → bytes ≡ quoted text ++ rest
text_is bytes opened content rest text start end is =
    start ∙ ap (λ (bs : List ℕ). 34 ∷ bs) (end ∙ sym (append_assoc content (34 ∷ []) rest)) ∙ ap (λ (front : List ℕ). front ++ rest) (sym is)

-- ---- lists

-- the text of an item, and a comma
abbrev pub led : {T : Type 0} → (T → Data) → T → List ℕ
led f x = compact_text (f x) ++ 44 ∷ []

module _ {T : Type 0} (f : T → Data) where
  pub items_none : (bytes : List ℕ) (xs : List T) → xs ≡ [] → bytes ≡ flat_map (led f) xs ++ bytes
  items_none bytes xs none = ap (λ (ys : List T). flat_map (led f) ys ++ bytes) (sym none)

  comma_of : (xs : List T) (x : T) → items_text true (items_of (map f (xs ++ x ∷ []))) ≡ 44 ∷ items_text false (items_of (map f (xs ++ x ∷ [])))
  comma_of [] x = refl
  comma_of (first ∷ xs) x = refl

  items_line : (xs : List T) (x : T) → items_text false (items_of (map f (xs ++ x ∷ []))) ≡ flat_map (led f) xs ++ (compact_text (f x) ++ 93 ∷ [])
  items_line [] x = refl
  items_line (first ∷ xs) x =
      let front = compact_text (f first) in
      let last = compact_text (f x) ++ 93 ∷ [] in
      ap (λ (rest : List ℕ). front ++ rest) (comma_of xs x ∙ ap (λ (rest : List ℕ). 44 ∷ rest) (items_line xs x))
      ∙ sym (append_assoc (front ++ 44 ∷ []) (flat_map (led f) xs) last ∙ append_assoc front (44 ∷ []) (flat_map (led f) xs ++ last))

  pub items_more : (bytes rest after more : List ℕ) (xs : List T) (x : T) → bytes ≡ flat_map (led f) xs ++ rest → rest ≡ compact_text (f x) ++ after → after ≡ 44 ∷ more → bytes ≡ flat_map (led f) (xs ++ x ∷ []) ++ more
  items_more bytes rest after more xs x so_far is comma =
      let front = flat_map (led f) xs in
      so_far ∙ ap (λ (bs : List ℕ). front ++ bs) (is ∙ ap (λ (bs : List ℕ). compact_text (f x) ++ bs) comma ∙ sym (append_assoc (compact_text (f x)) (44 ∷ []) more))
      ∙ sym (append_assoc front (compact_text (f x) ++ 44 ∷ []) more)
      ∙ ap (λ (bs : List ℕ). bs ++ more) (sym (flat_map-append (led f) xs (x ∷ []) ∙ ap (λ (bs : List ℕ). front ++ bs) (append-nil (compact_text (f x) ++ 44 ∷ []))))

  pub items_last : (bytes rest after more : List ℕ) (xs : List T) (x : T) → bytes ≡ flat_map (led f) xs ++ rest → rest ≡ compact_text (f x) ++ after → after ≡ 93 ∷ more → bytes ≡ items_text false (items_of (map f (xs ++ x ∷ []))) ++ more
  items_last bytes rest after more xs x so_far is close =
      let front = flat_map (led f) xs in
      so_far ∙ ap (λ (bs : List ℕ). front ++ bs) (is ∙ ap (λ (bs : List ℕ). compact_text (f x) ++ bs) close ∙ sym (append_assoc (compact_text (f x)) (93 ∷ []) more))
      ∙ sym (append_assoc front (compact_text (f x) ++ 93 ∷ []) more)
      ∙ ap (λ (bs : List ℕ). bs ++ more) (sym (items_line xs x))

-- ---- statements

-- {"binds": , the values, ,"sql": , the text, }
pub statement_is : (bytes opened after_binds before_text after_text text : List ℕ) (vs : List Value)
    → bytes ≡ 123 ∷ 34 ∷ 98 ∷ 105 ∷ 110 ∷ 100 ∷ 115 ∷ 34 ∷ 58 ∷ opened → opened ≡ compact_text (values_data vs) ++ after_binds
    → after_binds ≡ 44 ∷ 34 ∷ 115 ∷ 113 ∷ 108 ∷ 34 ∷ 58 ∷ before_text → before_text ≡ quoted text ++ after_text → after_text ≡ 125 ∷ [] → bytes ≡ call_text (Sql text vs)
unfolding escape_byte
statement_is bytes opened after_binds before_text after_text text vs start binds key sql end =
    start ∙ ap (λ (bs : List ℕ). 123 ∷ 34 ∷ 98 ∷ 105 ∷ 110 ∷ 100 ∷ 115 ∷ 34 ∷ 58 ∷ bs) (
    binds ∙ ap (λ (bs : List ℕ). compact_text (values_data vs) ++ bs) (
    key ∙ ap (λ (bs : List ℕ). 44 ∷ 34 ∷ 115 ∷ 113 ∷ 108 ∷ 34 ∷ 58 ∷ bs) (sql ∙ ap (λ (bs : List ℕ). quoted text ++ bs) end)
    )
    )

-- ---- replies

-- one piece behind the other
two : (bytes first second middle rest : List ℕ) → bytes ≡ first ++ middle → middle ≡ second ++ rest → bytes ≡ (first ++ second) ++ rest
two bytes first second middle rest one other = one ∙ ap (λ (bs : List ℕ). first ++ bs) other ∙ sym (append_assoc first second rest)

-- an object of one key, by its text up to the value
abbrev IsHead : List ℕ → List ℕ → Type 0
IsHead key head = (d : Data) → compact_text (object_of_one key d) ≡ head ++ (compact_text d ++ 125 ∷ [])

one_is : (key head bytes opened after rest : List ℕ) (d : Data) → IsHead key head → bytes ≡ head ++ opened → opened ≡ compact_text d ++ after → after ≡ 125 ∷ rest → bytes ≡ compact_text (object_of_one key d) ++ rest
one_is key head bytes opened after rest d text start value end =
    two bytes head (compact_text d ++ 125 ∷ []) opened rest start (two opened (compact_text d) (125 ∷ []) after rest value end)
    ∙ ap (λ (bs : List ℕ). bs ++ rest) (sym (text d))

row_head : IsHead (codes "row") (123 ∷ 34 ∷ 114 ∷ 111 ∷ 119 ∷ 34 ∷ 58 ∷ [])
unfolding escape_byte
row_head d = refl

rows_head : IsHead (codes "rows") (123 ∷ 34 ∷ 114 ∷ 111 ∷ 119 ∷ 115 ∷ 34 ∷ 58 ∷ [])
unfolding escape_byte
rows_head d = refl

count_head : IsHead (codes "count") (123 ∷ 34 ∷ 99 ∷ 111 ∷ 117 ∷ 110 ∷ 116 ∷ 34 ∷ 58 ∷ [])
unfolding escape_byte
count_head d = refl

committed_head : IsHead (codes "committed") (123 ∷ 34 ∷ 99 ∷ 111 ∷ 109 ∷ 109 ∷ 105 ∷ 116 ∷ 116 ∷ 101 ∷ 100 ∷ 34 ∷ 58 ∷ [])
unfolding escape_byte
committed_head d = refl

pub made_is : (bytes opened after rest : List ℕ) (n : ℕ) → bytes ≡ 123 ∷ 34 ∷ 114 ∷ 111 ∷ 119 ∷ 34 ∷ 58 ∷ opened → opened ≡ decimal n ++ after → after ≡ 125 ∷ rest → bytes ≡ compact_text (made_data (Some n)) ++ rest
made_is bytes opened after rest n = one_is (codes "row") (123 ∷ 34 ∷ 114 ∷ 111 ∷ 119 ∷ 34 ∷ 58 ∷ []) bytes opened after rest (count_data n) row_head

pub rows_are : (bytes opened after rest : List ℕ) (rows : List (List Value)) → bytes ≡ 123 ∷ 34 ∷ 114 ∷ 111 ∷ 119 ∷ 115 ∷ 34 ∷ 58 ∷ opened → opened ≡ compact_text (list_data values_data rows) ++ after → after ≡ 125 ∷ rest → bytes ≡ compact_text (outcome_data (outcome.Rows rows)) ++ rest
rows_are bytes opened after rest rows = one_is (codes "rows") (123 ∷ 34 ∷ 114 ∷ 111 ∷ 119 ∷ 115 ∷ 34 ∷ 58 ∷ []) bytes opened after rest (list_data values_data rows) rows_head

pub count_is : (bytes opened after rest : List ℕ) (n : ℕ) → bytes ≡ 123 ∷ 34 ∷ 99 ∷ 111 ∷ 117 ∷ 110 ∷ 116 ∷ 34 ∷ 58 ∷ opened → opened ≡ decimal n ++ after → after ≡ 125 ∷ rest → bytes ≡ compact_text (outcome_data (outcome.Count n)) ++ rest
count_is bytes opened after rest n = one_is (codes "count") (123 ∷ 34 ∷ 99 ∷ 111 ∷ 117 ∷ 110 ∷ 116 ∷ 34 ∷ 58 ∷ []) bytes opened after rest (count_data n) count_head

pub images_are : (bytes opened after rest : List ℕ) (images : List Image) → bytes ≡ 123 ∷ 34 ∷ 99 ∷ 111 ∷ 109 ∷ 109 ∷ 105 ∷ 116 ∷ 116 ∷ 101 ∷ 100 ∷ 34 ∷ 58 ∷ opened → opened ≡ compact_text (list_data image_data images) ++ after → after ≡ 125 ∷ rest → bytes ≡ compact_text (outcome_data (outcome.Committed images)) ++ rest
images_are bytes opened after rest images = one_is (codes "committed") (123 ∷ 34 ∷ 99 ∷ 111 ∷ 109 ∷ 109 ∷ 105 ∷ 116 ∷ 116 ∷ 101 ∷ 100 ∷ 34 ∷ 58 ∷ []) bytes opened after rest (list_data image_data images) committed_head

-- {"now": , what is left, ,"row": , a number, ,"table": , a number, }
abbrev now_head : List ℕ
now_head = 123 ∷ 34 ∷ 110 ∷ 111 ∷ 119 ∷ 34 ∷ 58 ∷ []

abbrev row_key : List ℕ
row_key = 44 ∷ 34 ∷ 114 ∷ 111 ∷ 119 ∷ 34 ∷ 58 ∷ []

abbrev table_key : List ℕ
table_key = 44 ∷ 34 ∷ 116 ∷ 97 ∷ 98 ∷ 108 ∷ 101 ∷ 34 ∷ 58 ∷ []

image_text : (image : Image) → compact_text (image_data image) ≡ now_head ++ (compact_text (left_data image.left) ++ (row_key ++ (decimal image.row ++ (table_key ++ (decimal image.table ++ 125 ∷ [])))))
unfolding escape_byte
image_text image = refl

pub image_is : (bytes opened after_left before_row after_row before_table after_table rest : List ℕ) (image : Image)
    → bytes ≡ 123 ∷ 34 ∷ 110 ∷ 111 ∷ 119 ∷ 34 ∷ 58 ∷ opened → opened ≡ compact_text (left_data image.left) ++ after_left
    → after_left ≡ 44 ∷ 34 ∷ 114 ∷ 111 ∷ 119 ∷ 34 ∷ 58 ∷ before_row → before_row ≡ decimal image.row ++ after_row
    → after_row ≡ 44 ∷ 34 ∷ 116 ∷ 97 ∷ 98 ∷ 108 ∷ 101 ∷ 34 ∷ 58 ∷ before_table → before_table ≡ decimal image.table ++ after_table → after_table ≡ 125 ∷ rest
    → bytes ≡ compact_text (image_data image) ++ rest
image_is bytes opened after_left before_row after_row before_table after_table rest image start left row_is row table_is table end =
    let last = decimal image.table ++ 125 ∷ [] in
    let from_row = decimal image.row ++ (table_key ++ last) in
    let from_left = compact_text (left_data image.left) ++ (row_key ++ from_row) in
    two bytes now_head from_left opened rest start
    (two opened (compact_text (left_data image.left)) (row_key ++ from_row) after_left rest left
    (two after_left row_key from_row before_row rest row_is
    (two before_row (decimal image.row) (table_key ++ last) after_row rest row
    (two after_row table_key last before_table rest table_is
    (two before_table (decimal image.table) (125 ∷ []) after_table rest table end)))))
    ∙ ap (λ (bs : List ℕ). bs ++ rest) (sym (image_text image))

-- {"draws":[],"made": , the row that was made, ,"outcome": , the outcome, }
abbrev text_with : List Value → Option ℕ → Outcome → List ℕ
text_with draws made told = compact_text (object_of_three (codes "draws") (values_data draws) (codes "made") (made_data made) (codes "outcome") (outcome_data told))

pub reply_is : (bytes opened after_made before_outcome after_outcome : List ℕ) (reply : Reply) → reply.draws ≡ []
    → bytes ≡ 123 ∷ 34 ∷ 100 ∷ 114 ∷ 97 ∷ 119 ∷ 115 ∷ 34 ∷ 58 ∷ 91 ∷ 93 ∷ 44 ∷ 34 ∷ 109 ∷ 97 ∷ 100 ∷ 101 ∷ 34 ∷ 58 ∷ opened → opened ≡ compact_text (made_data reply.made) ++ after_made
    → after_made ≡ 44 ∷ 34 ∷ 111 ∷ 117 ∷ 116 ∷ 99 ∷ 111 ∷ 109 ∷ 101 ∷ 34 ∷ 58 ∷ before_outcome → before_outcome ≡ compact_text (outcome_data reply.outcome) ++ after_outcome → after_outcome ≡ 125 ∷ []
    → bytes ≡ reply_text reply
unfolding escape_byte
reply_is bytes opened after_made before_outcome after_outcome reply none start made key told end =
    let text : bytes ≡ text_with [] reply.made reply.outcome =
    start ∙ ap (λ (bs : List ℕ). 123 ∷ 34 ∷ 100 ∷ 114 ∷ 97 ∷ 119 ∷ 115 ∷ 34 ∷ 58 ∷ 91 ∷ 93 ∷ 44 ∷ 34 ∷ 109 ∷ 97 ∷ 100 ∷ 101 ∷ 34 ∷ 58 ∷ bs) (
    made ∙ ap (λ (bs : List ℕ). compact_text (made_data reply.made) ++ bs) (
    key ∙ ap (λ (bs : List ℕ). 44 ∷ 34 ∷ 111 ∷ 117 ∷ 116 ∷ 99 ∷ 111 ∷ 109 ∷ 101 ∷ 34 ∷ 58 ∷ bs) (told ∙ ap (λ (bs : List ℕ). compact_text (outcome_data reply.outcome) ++ bs) end)
    )
    ) in
    text ∙ ap (λ (draws : List Value). text_with draws reply.made reply.outcome) (sym none)

-- ---- read as the call, and as the reply

value_numbers : (v : Value) → IsValue v → tree.HasNumbers (outline (value_data v))
value_numbers value.Null fits = tt
value_numbers (value.Int (pos n)) fits = IsNumber-signed_decimal (pos n) fits.sfits
value_numbers (value.Int (negsuc n)) fits = IsNumber-signed_decimal (negsuc n) fits.sfits
value_numbers (value.Text t) fits = tt
value_numbers (value.Row n) fits = (IsNumber-decimal n fits, tt)
value_numbers (value.Draw q n) fits = let small : q < 2 ^ 32 = fits.0 in (IsNumber-decimal n fits.1, (IsNumber-decimal q (omega arith), tt))

values_numbers : (vs : List Value) → IsValues vs → tree.ItemsHaveNumbers (items_outline (items_of (map value_data vs)))
values_numbers [] fits = tt
values_numbers (v ∷ vs) fits = (value_numbers v fits.0, values_numbers vs fits.1)

call_numbers : (c : Call) → IsCall c → tree.HasNumbers (outline (call_data c))
call_numbers (Connect s) fits = (tt, tt)
call_numbers (Sql t vs) fits = (values_numbers vs fits.2, (tt, tt))
call_numbers Disconnect fits = (tt, tt)

module _ {T : Type 0} (f : T → Data) (Fits : T → Type 0) (each : (x : T) → Fits x → tree.HasNumbers (outline (f x))) where
  each_numbers : (xs : List T) → AllByRecursion Fits xs → tree.ItemsHaveNumbers (items_outline (items_of (map f xs)))
  each_numbers [] fits = tt
  each_numbers (x ∷ xs) fits = (each x fits.0, each_numbers xs fits.1)

row_numbers : (vs : List Value) → IsGoodRow vs → tree.HasNumbers (outline (values_data vs))
row_numbers vs good = values_numbers vs good.1

draw_numbers : (v : Value) → IsGoodDraw v → tree.HasNumbers (outline (value_data v))
draw_numbers value.Null good = absurd good
draw_numbers (value.Int n) good = absurd good
draw_numbers (value.Text t) good = absurd good
draw_numbers (value.Row n) good = absurd good
draw_numbers (value.Draw q n) good = value_numbers (value.Draw q n) good

left_numbers : (left : Option (List Value)) → IfSome left IsGoodRow → tree.HasNumbers (outline (left_data left))
left_numbers None good = tt
left_numbers (Some vs) good = row_numbers vs good

image_numbers : (i : Image) → IsGoodImage i → tree.HasNumbers (outline (image_data i))
image_numbers i good =
    let small : i.table < 32 = good.table in
    (left_numbers i.left good.left, (IsNumber-decimal i.row good.row, (IsNumber-decimal i.table (omega arith), tt)))

made_numbers : (made : Option ℕ) → IfSome made (λ row. row < 2 ^ 64) → tree.HasNumbers (outline (made_data made))
made_numbers None good = tt
made_numbers (Some n) good = (IsNumber-decimal n good, tt)

outcome_numbers : (o : Outcome) → IsGoodOutcome o → tree.HasNumbers (outline (outcome_data o))
outcome_numbers (outcome.Rows rows) good = (each_numbers values_data IsGoodRow row_numbers rows good, tt)
outcome_numbers (outcome.Count n) good = (IsNumber-decimal n good, tt)
outcome_numbers (outcome.Committed images) good = (each_numbers image_data IsGoodImage image_numbers images good.0, tt)
outcome_numbers outcome.RolledBack good = (tt, tt)
outcome_numbers outcome.Marked good = (tt, tt)
outcome_numbers outcome.Connected good = (tt, tt)
outcome_numbers outcome.Disconnected good = (tt, tt)
outcome_numbers (outcome.Refused fault) good = (IsNumber-decimal (fault_number fault) (omega (arith, fault_number_small fault)), tt)

reply_numbers : (r : Reply) → IsGoodReply r → tree.HasNumbers (outline (reply_data r))
reply_numbers r good =
    (each_numbers value_data IsGoodDraw draw_numbers r.draws good.draws, (made_numbers r.made good.made, (outcome_numbers r.outcome good.outcome, tt)))

compact_tokens : (bytes : List ℕ) (d : Data) → bytes ≡ compact_text d → tree.HasNumbers (outline d) → tokens bytes ≡ data_tokens d
compact_tokens bytes d is numbers =
    ap tokens (is ∙ sym (print-outline d)) ∙ tokens-print (data_tokens d) (ArePrintable-json_tokens (outline d) numbers)

pub spelled_call : (bytes : List ℕ) (c : Call) → IsUtf8 bytes → bytes ≡ call_text c → IsCall c → IsCallJson bytes c
spelled_call bytes c utf8 is fits =
    written_call bytes bytes (call_data c) c refl utf8 refl
    (λ shallow. read_again bytes (call_data c) (compact_tokens bytes (call_data c) is (call_numbers c fits)) (call_told c fits) shallow) fits

pub spelled_reply : (bytes : List ℕ) (r : Reply) → IsUtf8 bytes → bytes ≡ reply_text r → IsGoodReply r → IsReplyJson bytes r
spelled_reply bytes r utf8 is good = record {
  limits = good;
  value = record {
    utf8 = utf8;
    value = read_again bytes (reply_data r) (compact_tokens bytes (reply_data r) is (reply_numbers r good)) (reply_told r good) (reply_shallow r);
  };
}
