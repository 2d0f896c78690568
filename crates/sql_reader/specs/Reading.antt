-- How a text is read, as a function: bytes to tokens, and tokens to the tree of a statement, from left to right.
-- Nothing of this has to be believed: the law `statement_as_spelled` says that `statement_of`, the last word here, is
-- `Some` exactly where the text spells that statement, and what a text spells stands in Lexical, Grammar and Spelling.
use Rattle.std.specs.Prelude.{ℕ, zero, suc, ◌+◌, ◌-◌, ◌*◌, ◌^◌, ℤ, pos, Bool, false, ◌&&◌, ◌==◌, nat_lt, nat_le, if◌then◌else◌, List, [], ◌∷◌, length, take, drop, Option, None, Some, codes, true}
use Rattle.std.specs.List.{find, prefix_len, cons_option}
use Rattle.std.specs.Char.{is_ascii_alphabetic, is_ascii_digit}
use Rattle.std.specs.Str.{bytes_eq}
use Rattle.desk_values.specs.declared.keyword.Keyword.{Keyword}
use Rattle.desk_values.specs.Limits.{name_limit}
use Rattle.desk_values.specs.Reading.{◌>>=◌, txt_in}
use Rattle.sql_reader.specs.Limits.{list_limit, nesting_limit}
use Rattle.sql_reader.specs.declared.token.Sign.{Sign}
use Rattle.sql_reader.specs.declared.token.Sign.TheVariants as sign
use Rattle.sql_reader.specs.declared.token.Token.{Token}
use Rattle.sql_reader.specs.declared.token.Token.TheVariants as token
use Rattle.desk_values.specs.Word.{member_with_word}
use Rattle.desk_values.specs.Keyword.{keyword_word, all_keywords, same_keyword}
use Rattle.sql_reader.specs.Words.{sign_text, same_sign, keyword_operator, sign_operator}
use Rattle.sql_reader.specs.Lexical.{is_space, is_part, folded}
use Rattle.sql_tree.specs.declared.tree.Op.{Op}
use Rattle.sql_reader.specs.declared.part.Part.{Part}
use Rattle.sql_reader.specs.declared.part.Part.TheVariants.{Disjunction, Conjunction, Negation, Comparison, Sum, Product, Factor, Primary}
use Rattle.desk_values.specs.declared.keyword.Keyword.TheVariants as word
use Rattle.sql_tree.specs.Plain.{Term, null, int, text, bind, column, rowid, neg, not, bin, is_null, not_null, Name, Total, count, total, least, greatest, Entry, value, drawn, Change, Asked, columns, values, totals, Plan, select, next, insert, update, delete, commit, rollback, set_read_only, savepoint, rollback_to}
use Rattle.sql_reader.specs.Grammar.{line_of, looseness}
use Rattle.sql_tree.specs.declared.tree.Key.{Key}

-- the longer signs come first
abbrev pub all_signs : List Sign
all_signs = sign.NotEqual ∷ sign.LessOrEqual ∷ sign.GreaterOrEqual ∷ sign.Less ∷ sign.Greater ∷ sign.Equal ∷ sign.Open ∷ sign.Close ∷ sign.Comma ∷ sign.Dot ∷ sign.Star ∷ sign.Plus ∷ sign.Minus ∷ sign.Slash ∷ sign.Semicolon ∷ []

-- the word of the language that the bytes are
abbrev pub keyword_at : List ℕ → Option Keyword
keyword_at bytes = member_with_word keyword_word all_keywords bytes

abbrev pub name_or : Option Keyword → List ℕ → Option Token
name_or (Some keyword) bytes = Some (token.Word keyword)
name_or None bytes = if nat_lt name_limit (length bytes) then None else (txt_in bytes >>= λ name. Some (token.Name name))

-- a word of the language or a name
unfoldable pub word_at : List ℕ → Option Token
word_at run = name_or (keyword_at (folded run)) (folded run)

-- the number of the digits behind those of n, if it is in range
abbrev pub value_after : ℕ → List ℕ → Option ℕ
value_after n [] = Some n
value_after n (digit ∷ others) = if is_ascii_digit digit && nat_lt (n * 10 + (digit - 48)) (2 ^ 63) then value_after (n * 10 + (digit - 48)) others else None

unfoldable pub value_at : List ℕ → Option ℤ
value_at run = do
  n ← value_after 0 run
  Some (pos n)

unfoldable pub number_at : List ℕ → Option Token
number_at run = do
  n ← value_at run
  Some (token.Number n)

-- the number of a bind, from 1 to 16
unfoldable pub bind_number : List ℕ → Option ℕ
bind_number [] = None
bind_number (a ∷ []) = if nat_le 49 a && nat_le a 57 then Some (a - 48) else None
bind_number (a ∷ b ∷ []) = if a == 49 && nat_le 48 b && nat_le b 54 then Some (b - 38) else None
bind_number (a ∷ b ∷ c ∷ others) = None

unfoldable pub bind_at : List ℕ → Option Token
bind_at run = do
  n ← bind_number run
  Some (token.Bind n)

-- one more byte before what is read
abbrev pub keep : ℕ → Option (List ℕ × List ℕ) → Option (List ℕ × List ℕ)
keep byte read = do
  x ← read
  Some (byte ∷ x.0, x.1)

-- the bytes of a string behind its first quote, and what comes after the last
unfoldable pub content_at : List ℕ → Option (List ℕ × List ℕ)
content_at [] = None
content_at (a ∷ []) = if a == 39 then Some ([], []) else None
content_at (a ∷ b ∷ bytes) = if a == 39 then (if b == 39 then keep 39 (content_at bytes) else Some ([], b ∷ bytes)) else keep a (content_at (b ∷ bytes))

unfoldable pub string_at : List ℕ → Option (Token × List ℕ)
string_at bytes = do
  x ← content_at bytes
  content ← txt_in x.0
  Some (token.Text content, x.1)

-- the bytes begin so
abbrev pub begins : List ℕ → List ℕ → Bool
begins front bytes = bytes_eq (take (length front) bytes) front

abbrev pub sign_behind : Option Sign → List ℕ → Option (Token × List ℕ)
sign_behind None bytes = None
sign_behind (Some s) bytes = Some (token.Sign s, drop (length (sign_text s)) bytes)

-- the longest sign
unfoldable pub sign_at : List ℕ → Option (Token × List ℕ)
sign_at bytes = if begins (codes "!=") bytes then Some (token.Sign sign.NotEqual, drop 2 bytes) else sign_behind (find (λ s. begins (sign_text s) bytes) all_signs) bytes

-- the letters, digits and `_` at the front, and what comes after them
abbrev pub run_of : List ℕ → List ℕ
run_of bytes = take (prefix_len is_part bytes) bytes

abbrev pub behind_run : List ℕ → List ℕ
behind_run bytes = drop (prefix_len is_part bytes) bytes

abbrev pub with_rest : Option Token → List ℕ → Option (Token × List ℕ)
with_rest read rest = do
  t ← read
  Some (t, rest)

-- one token
unfoldable pub token_at : ℕ → List ℕ → Option (Token × List ℕ)
token_at first others =
    if is_ascii_alphabetic first then with_rest (word_at (run_of (first ∷ others))) (behind_run (first ∷ others))
    else (if is_ascii_digit first then with_rest (number_at (run_of (first ∷ others))) (behind_run (first ∷ others))
    else (if first == 58 then with_rest (bind_at (run_of others)) (behind_run others)
    else (if first == 39 then string_at others else sign_at (first ∷ others))))

-- one space or one token
unfoldable pub step_at : List ℕ → Option (Option Token × List ℕ)
step_at [] = Some (None, [])
step_at (first ∷ others) = if is_space first then Some (None, others) else (token_at first others >>= λ x. Some (Some x.0, x.1))

-- all the bytes, in at most so many steps
unfoldable pub tokens_at : ℕ → List ℕ → Option (List Token)
tokens_at zero [] = Some []
tokens_at zero (first ∷ others) = None
tokens_at (suc n) bytes = do
  x ← step_at bytes
  tokens ← tokens_at n x.1
  Some (cons_option x.0 tokens)

unfoldable pub scanned : List ℕ → Option (List Token)
scanned bytes = tokens_at (length bytes) bytes

-- one way where there is none, the other where there is one
abbrev pub cases : {A B : Type 0} → Option A → B → (A → B) → B
cases None none some = none
cases (Some x) none some = some x

-- what comes after the word, where it is first
unfoldable pub after_word : Keyword → List Token → Option (List Token)
after_word keyword (token.Word found ∷ rest) = if same_keyword found keyword then Some rest else None
after_word keyword other = None

unfoldable pub after_sign : Sign → List Token → Option (List Token)
after_sign s (token.Sign found ∷ rest) = if same_sign found s then Some rest else None
after_sign s other = None

abbrev pub operator_of : Token → Option Op
operator_of (token.Word keyword) = keyword_operator keyword
operator_of (token.Sign s) = sign_operator s
operator_of other = None

abbrev pub operator_among : Part → Op → List Token → Option (Op × List Token)
operator_among part o rest = if looseness (line_of o) == looseness part then Some (o, rest) else None

-- the operator of the part, where one is first, and what comes after it
unfoldable pub operator_at : Part → List Token → Option (Op × List Token)
operator_at part [] = None
operator_at part (t ∷ rest) = operator_of t >>= λ o. operator_among part o rest

-- more operands of a line after what stands left of them
abbrev pub more_at : (List Token → Option (Term Name × List Token)) → Part → ℕ → Term Name → List Token
    → Option (Term Name × List Token)
more_at operand part zero left ts = Some (left, ts)
more_at operand part (suc n) left ts = cases (operator_at part ts) (Some (left, ts)) (λ x. operand x.1 >>= λ right. more_at operand part n (bin x.0 left right.0) right.1)

-- a line of operators, grouped to the left
unfoldable pub chain_at : (List Token → Option (Term Name × List Token)) → Part → List Token → Option (Term Name × List Token)
chain_at operand part ts = do
  left ← operand ts
  more_at operand part (length ts) left.0 left.1

-- NULL or NOT NULL after IS
unfoldable pub null_test : Term Name → List Token → Option (Term Name × List Token)
null_test left ts = cases (after_word word.Not ts) (after_word word.Null ts >>= λ rest. Some (is_null left, rest)) (λ after. after_word word.Null after >>= λ rest. Some (not_null left, rest))

-- A part of an expression, where inner reads what nests in it.
module _ (inner : Part → List Token → Option (Term Name × List Token)) where
  unfoldable pub primary_in : List Token → Option (Term Name × List Token)
  primary_in [] = None
  primary_in (token.Number n ∷ rest) = Some (int n, rest)
  primary_in (token.Text t ∷ rest) = Some (text t, rest)
  primary_in (token.Bind n ∷ rest) = Some (bind n, rest)
  primary_in (token.Name n ∷ rest) = Some (column n, rest)
  primary_in (token.Word word.Null ∷ rest) = Some (null, rest)
  primary_in (token.Word word.Rowid ∷ rest) = Some (rowid, rest)
  primary_in (token.Word other ∷ rest) = None
  primary_in (token.Sign sign.Open ∷ rest) = inner Disjunction rest >>= λ x. after_sign sign.Close x.1 >>= λ after. Some (x.0, after)
  primary_in (token.Sign other ∷ rest) = None

  unfoldable pub factor_in : List Token → Option (Term Name × List Token)
  factor_in ts = cases (after_sign sign.Minus ts) (primary_in ts) (λ rest. inner Factor rest >>= λ x. Some (neg x.0, x.1))

  abbrev pub product_in : List Token → Option (Term Name × List Token)
  product_in ts = chain_at factor_in Product ts

  abbrev pub sum_in : List Token → Option (Term Name × List Token)
  sum_in ts = chain_at product_in Sum ts

  -- a comparison or a test of what stands left
  unfoldable pub compared_in : Term Name → List Token → Option (Term Name × List Token)
  compared_in left ts = cases (operator_at Comparison ts) (cases (after_word word.Is ts) (Some (left, ts)) (λ after. null_test left after)) (λ x. sum_in x.1 >>= λ right. Some (bin x.0 left right.0, right.1))

  unfoldable pub comparison_in : List Token → Option (Term Name × List Token)
  comparison_in ts = sum_in ts >>= λ left. compared_in left.0 left.1

  unfoldable pub negation_in : List Token → Option (Term Name × List Token)
  negation_in ts = cases (after_word word.Not ts) (comparison_in ts) (λ rest. inner Negation rest >>= λ x. Some (not x.0, x.1))

  abbrev pub conjunction_in : List Token → Option (Term Name × List Token)
  conjunction_in ts = chain_at negation_in Conjunction ts

  abbrev pub disjunction_in : List Token → Option (Term Name × List Token)
  disjunction_in ts = chain_at conjunction_in Disjunction ts

  abbrev pub part_in : Part → List Token → Option (Term Name × List Token)
  part_in Disjunction ts = disjunction_in ts
  part_in Conjunction ts = conjunction_in ts
  part_in Negation ts = negation_in ts
  part_in Comparison ts = comparison_in ts
  part_in Sum ts = sum_in ts
  part_in Product ts = product_in ts
  part_in Factor ts = factor_in ts
  part_in Primary ts = primary_in ts

-- what nests at most so deep
unfoldable pub inner_at : ℕ → Part → List Token → Option (Term Name × List Token)
inner_at zero part ts = None
inner_at (suc depth) part ts = part_in (inner_at depth) part ts

unfoldable pub part_at : ℕ → Part → List Token → Option (Term Name × List Token)
part_at depth part ts = part_in (inner_at depth) part ts

-- a whole expression
abbrev pub expression_at : List Token → Option (Term Name × List Token)
expression_at ts = part_at nesting_limit Disjunction ts

-- at most n members with commas between them
unfoldable pub list_at : {A : Type 0} → (List Token → Option (A × List Token)) → ℕ → List Token → Option (List A × List Token)
list_at read zero ts = None
list_at read (suc n) ts = read ts >>= λ x. cases (after_sign sign.Comma x.1) (Some (x.0 ∷ [], x.1)) (λ more. list_at read n more >>= λ xs. Some (x.0 ∷ xs.0, xs.1))

unfoldable pub name_at : List Token → Option (List ℕ × List Token)
name_at (token.Name n ∷ rest) = Some (n, rest)
name_at other = None

-- a name, ASC or DESC behind it
unfoldable pub key_at : List Token → Option (Key Name × List Token)
key_at ts = name_at ts >>= λ x. cases (after_word word.Desc x.1) (cases (after_word word.Asc x.1) (Some (record { column = x.0; desc = false }, x.1)) (λ rest. Some (record { column = x.0; desc = false }, rest))) (λ rest. Some (record { column = x.0; desc = true }, rest))

-- an expression in parentheses
unfoldable pub enclosed_at : List Token → Option (Term Name × List Token)
enclosed_at ts = do
  inside ← after_sign sign.Open ts
  x ← expression_at inside
  rest ← after_sign sign.Close x.1
  Some (x.0, rest)

unfoldable pub counted_at : List Token → Option (List Token)
counted_at ts = do
  a ← after_sign sign.Open ts
  b ← after_sign sign.Star a
  after_sign sign.Close b

abbrev pub made_of : (Term Name → Total Name) → List Token → Option (Total Name × List Token)
made_of make ts = enclosed_at ts >>= λ x. Some (make x.0, x.1)

unfoldable pub aggregate_at : List Token → Option (Total Name × List Token)
aggregate_at (token.Word word.Count ∷ rest) = counted_at rest >>= λ after. Some (count, after)
aggregate_at (token.Word word.Sum ∷ rest) = made_of total rest
aggregate_at (token.Word word.Min ∷ rest) = made_of least rest
aggregate_at (token.Word word.Max ∷ rest) = made_of greatest rest
aggregate_at other = None

-- a draw from a sequence
unfoldable pub draw_at : List Token → Option (List ℕ × List Token)
draw_at ts = do
  x ← name_at ts
  after ← after_sign sign.Dot x.1
  rest ← after_word word.Nextval after
  Some (x.0, rest)

unfoldable pub input_at : List Token → Option (Entry Name × List Token)
input_at ts = cases (draw_at ts) (expression_at ts >>= λ x. Some (value x.0, x.1)) (λ x. Some (drawn x.0, x.1))

unfoldable pub setting_at : List Token → Option (Change Name × List Token)
setting_at ts = do
  x ← name_at ts
  after ← after_sign sign.Equal x.1
  to ← expression_at after
  Some (record { column = x.0; to = to.0 }, to.1)

unfoldable pub where_at : List Token → Option (Option (Term Name) × List Token)
where_at ts = cases (after_word word.Where ts) (Some (None, ts)) (λ after. expression_at after >>= λ x. Some (Some x.0, x.1))

unfoldable pub order_at : List Token → Option (List (Key Name) × List Token)
order_at ts = cases (after_word word.Order ts) (Some ([], ts)) (λ after. after_word word.By after >>= λ keys. list_at key_at list_limit keys)

unfoldable pub for_update_at : List Token → Option (Bool × List Token)
for_update_at ts = cases (after_word word.For ts) (Some (false, ts)) (λ after. after_word word.Update after >>= λ rest. Some (true, rest))

-- FROM and the table
unfoldable pub from_at : List Token → Option (List ℕ × List Token)
from_at ts = after_word word.From ts >>= λ rest. name_at rest

abbrev pub is_aggregate_word : Keyword → Bool
is_aggregate_word word.Count = true
is_aggregate_word word.Sum = true
is_aggregate_word word.Min = true
is_aggregate_word word.Max = true
is_aggregate_word other = false

abbrev pub begins_aggregate : List Token → Bool
begins_aggregate (token.Word keyword ∷ rest) = is_aggregate_word keyword
begins_aggregate other = false

unfoldable pub aggregates_at : List Token → Option (Plan Name × List Token)
aggregates_at ts = do
  items ← list_at aggregate_at list_limit ts
  table ← from_at items.1
  condition ← where_at table.1
  Some (select table.0 (totals items.0) condition.0 [] false, condition.1)

-- what comes after the items of a SELECT of rows
unfoldable pub rows_at : Asked Name → List Token → Option (Plan Name × List Token)
rows_at items ts = do
  table ← from_at ts
  condition ← where_at table.1
  keys ← order_at condition.1
  held ← for_update_at keys.1
  Some (select table.0 items condition.0 keys.0 held.0, held.1)

abbrev pub listed_at : List Token → Option (Plan Name × List Token)
listed_at ts = list_at expression_at list_limit ts >>= λ items. rows_at (values items.0) items.1

-- FROM DUAL
unfoldable pub dual_at : List Token → Option (List Token)
dual_at ts = after_word word.From ts >>= λ rest. after_word word.Dual rest

abbrev pub items_at : List Token → Option (Plan Name × List Token)
items_at ts = cases (after_sign sign.Star ts) (if begins_aggregate ts then aggregates_at ts else listed_at ts) (λ rest. rows_at columns rest)

unfoldable pub select_at : List Token → Option (Plan Name × List Token)
select_at ts = cases (draw_at ts) (items_at ts) (λ x. dual_at x.1 >>= λ rest. Some (next x.0, rest))

unfoldable pub columns_at : List Token → Option (Option (List (List ℕ)) × List Token)
columns_at ts = cases (after_sign sign.Open ts) (Some (None, ts)) (λ inside. list_at name_at list_limit inside >>= λ names. after_sign sign.Close names.1 >>= λ rest. Some (Some names.0, rest))

unfoldable pub inputs_at : List Token → Option (List (Entry Name) × List Token)
inputs_at ts = do
  after ← after_word word.Values ts
  inside ← after_sign sign.Open after
  inputs ← list_at input_at list_limit inside
  rest ← after_sign sign.Close inputs.1
  Some (inputs.0, rest)

unfoldable pub insert_at : List Token → Option (Plan Name × List Token)
insert_at ts = do
  after ← after_word word.Into ts
  table ← name_at after
  names ← columns_at table.1
  inputs ← inputs_at names.1
  Some (insert table.0 names.0 inputs.0, inputs.1)

unfoldable pub update_at : List Token → Option (Plan Name × List Token)
update_at ts = do
  table ← name_at ts
  after ← after_word word.Set table.1
  settings ← list_at setting_at list_limit after
  condition ← where_at settings.1
  Some (update table.0 settings.0 condition.0, condition.1)

unfoldable pub delete_at : List Token → Option (Plan Name × List Token)
delete_at ts = do
  table ← from_at ts
  condition ← where_at table.1
  Some (delete table.0 condition.0, condition.1)

unfoldable pub set_at : List Token → Option (Plan Name × List Token)
set_at ts = do
  a ← after_word word.Transaction ts
  b ← after_word word.Read a
  rest ← after_word word.Only b
  Some (set_read_only, rest)

-- what comes after TO, where SAVEPOINT may be left out
unfoldable pub to_at : List Token → Option (Plan Name × List Token)
to_at ts = do
  x ← name_at (cases (after_word word.Savepoint ts) ts (λ rest. rest))
  Some (rollback_to x.0, x.1)

unfoldable pub rollback_at : List Token → Option (Plan Name × List Token)
rollback_at ts = cases (after_word word.To ts) (Some (rollback, ts)) (λ after. to_at after)

unfoldable pub savepoint_at : List Token → Option (Plan Name × List Token)
savepoint_at ts = do
  x ← name_at ts
  Some (savepoint x.0, x.1)

unfoldable pub body_at : List Token → Option (Plan Name × List Token)
body_at (token.Word word.Select ∷ rest) = select_at rest
body_at (token.Word word.Insert ∷ rest) = insert_at rest
body_at (token.Word word.Update ∷ rest) = update_at rest
body_at (token.Word word.Delete ∷ rest) = delete_at rest
body_at (token.Word word.Commit ∷ rest) = Some (commit, rest)
body_at (token.Word word.Rollback ∷ rest) = rollback_at rest
body_at (token.Word word.Savepoint ∷ rest) = savepoint_at rest
body_at (token.Word word.Set ∷ rest) = set_at rest
body_at other = None

-- nothing, or one semicolon and nothing
abbrev pub without_semicolon : List Token → List Token
without_semicolon ts = cases (after_sign sign.Semicolon ts) ts (λ rest. rest)

abbrev pub only_if_empty : Plan Name → List Token → Option (Plan Name)
only_if_empty statement [] = Some statement
only_if_empty statement (t ∷ rest) = None

unfoldable pub statement_at : List Token → Option (Plan Name)
statement_at ts = body_at ts >>= λ x. only_if_empty x.0 (without_semicolon x.1)

-- bytes, scanned and then read
unfoldable pub statement_of : List ℕ → Option (Plan Name)
statement_of bytes = scanned bytes >>= λ tokens. statement_at tokens
