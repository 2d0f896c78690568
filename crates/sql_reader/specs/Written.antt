-- The text that is written for a statement.
use Rattle.std.specs.Prelude.{ℕ, ◌+◌, Bool, true, false, nat_lt, if◌then◌else◌, List, [], ◌∷◌, ◌++◌, map, Option, None, Some}
use Rattle.std.specs.List.{flat_map, join_with_byte}
use Rattle.std.specs.Char.{to_ascii_uppercase}
use Rattle.std.specs.Fmt.{decimal, signed_decimal}
use Rattle.sql_tree.specs.declared.tree.Key.{Key}
use Rattle.sql_tree.specs.Plain.{Name, Term, null, int, text, bind, column, rowid, neg, not, bin, is_null, not_null, Total, count, total, least, greatest, Entry, value, drawn, Change, Asked, columns, values, totals, Plan, select, next, insert, update, delete, commit, rollback, set_read_only, savepoint, rollback_to}
use Rattle.desk_values.specs.declared.keyword.Keyword.{Keyword}
use Rattle.desk_values.specs.declared.keyword.Keyword.TheVariants as word
use Rattle.sql_reader.specs.declared.token.Sign.TheVariants as sign
use Rattle.sql_reader.specs.declared.token.Token.{Token}
use Rattle.sql_reader.specs.declared.token.Token.TheVariants as token
use Rattle.desk_values.specs.Keyword.{keyword_word}
use Rattle.sql_reader.specs.Words.{sign_text}
use Rattle.sql_reader.specs.Lexical.{quoted}
use Rattle.sql_reader.specs.declared.part.Part.{Part}
use Rattle.sql_reader.specs.declared.part.Part.TheVariants.{Disjunction, Negation, Comparison, Sum, Factor, Primary}
use Rattle.sql_reader.specs.Grammar.{looseness, left_of, right_of, line_of, operator_token}

-- the text of a token: words in capitals, no zeros before a number, never `!=`
abbrev pub token_text : Token → List ℕ
token_text (token.Word keyword) = map to_ascii_uppercase (keyword_word keyword)
token_text (token.Name n) = n
token_text (token.Number n) = signed_decimal n
token_text (token.Text t) = 39 ∷ (flat_map quoted t ++ 39 ∷ [])
token_text (token.Bind n) = 58 ∷ decimal n
token_text (token.Sign s) = sign_text s

-- these tokens, in parentheses where a tighter part is wanted than they are
abbrev pub enclosed : Part → Part → List Token → List Token
enclosed wanted part ts = if nat_lt (looseness wanted) (looseness part) then token.Sign sign.Open ∷ (ts ++ token.Sign sign.Close ∷ [])
    else ts

-- the part that an expression is without parentheses
abbrev pub part_of : Term Name → Part
part_of (neg e) = Factor
part_of (not e) = Negation
part_of (bin o a b) = line_of o
part_of (is_null e) = Comparison
part_of (not_null e) = Comparison
part_of other = Primary

-- an expression without parentheses around it
abbrev pub bare_tokens : Term Name → List Token
bare_tokens null = token.Word word.Null ∷ []
bare_tokens (int n) = token.Number n ∷ []
bare_tokens (text t) = token.Text t ∷ []
bare_tokens (bind n) = token.Bind n ∷ []
bare_tokens (column n) = token.Name n ∷ []
bare_tokens rowid = token.Word word.Rowid ∷ []
bare_tokens (neg e) = token.Sign sign.Minus ∷ enclosed Factor (part_of e) (bare_tokens e)
bare_tokens (not e) = token.Word word.Not ∷ enclosed Negation (part_of e) (bare_tokens e)
bare_tokens (bin o a b) = enclosed (left_of (line_of o)) (part_of a) (bare_tokens a)
    ++ operator_token o ∷ enclosed (right_of (line_of o)) (part_of b) (bare_tokens b)
bare_tokens (is_null e) = enclosed Sum (part_of e) (bare_tokens e) ++ token.Word word.Is ∷ token.Word word.Null ∷ []
bare_tokens (not_null e) = enclosed Sum (part_of e) (bare_tokens e)
    ++ token.Word word.Is ∷ token.Word word.Not ∷ token.Word word.Null ∷ []

-- an expression where the grammar wants that part
abbrev pub expression_tokens : Part → Term Name → List Token
expression_tokens wanted e = enclosed wanted (part_of e) (bare_tokens e)

-- a whole expression
abbrev pub whole : Term Name → List Token
whole e = expression_tokens Disjunction e

-- members with commas between them
abbrev pub joined : {A : Type 0} → (A → List Token) → List A → List Token
joined member [] = []
joined member (x ∷ xs) = member x ++ flat_map (λ y. token.Sign sign.Comma ∷ member y) xs

-- a word and an expression in parentheses
abbrev pub called : Token → Term Name → List Token
called word e = word ∷ token.Sign sign.Open ∷ (whole e ++ token.Sign sign.Close ∷ [])

-- an aggregate
abbrev pub aggregate_tokens : Total Name → List Token
aggregate_tokens count = token.Word word.Count ∷ token.Sign sign.Open ∷ token.Sign sign.Star ∷ token.Sign sign.Close ∷ []
aggregate_tokens (total e) = called (token.Word word.Sum) e
aggregate_tokens (least e) = called (token.Word word.Min) e
aggregate_tokens (greatest e) = called (token.Word word.Max) e

-- a value of an INSERT
abbrev pub given_tokens : Entry Name → List Token
given_tokens (value e) = whole e
given_tokens (drawn n) = token.Name n ∷ token.Sign sign.Dot ∷ token.Word word.Nextval ∷ []

-- a column and its new value
abbrev pub assignment_tokens : Change Name → List Token
assignment_tokens a = token.Name a.column ∷ token.Sign sign.Equal ∷ whole a.to

-- a column to order by; ASC is left out
abbrev pub key_tokens : Key Name → List Token
key_tokens key = token.Name key.column ∷ (if key.desc then token.Word word.Desc ∷ [] else [])

-- a name
abbrev pub name_tokens : List ℕ → List Token
name_tokens n = token.Name n ∷ []

-- what a SELECT asks for
abbrev pub selection_tokens : Asked Name → List Token
selection_tokens columns = token.Sign sign.Star ∷ []
selection_tokens (values es) = joined whole es
selection_tokens (totals as_) = joined aggregate_tokens as_

-- which rows: nothing for all of them
abbrev pub where_tokens : Option (Term Name) → List Token
where_tokens None = []
where_tokens (Some e) = token.Word word.Where ∷ whole e

-- the order: nothing where no key is given
abbrev pub order_tokens : List (Key Name) → List Token
order_tokens [] = []
order_tokens (key ∷ keys) = token.Word word.Order ∷ token.Word word.By ∷ joined key_tokens (key ∷ keys)

-- whether the rows are held
abbrev pub for_update_tokens : Bool → List Token
for_update_tokens true = token.Word word.For ∷ token.Word word.Update ∷ []
for_update_tokens false = []

-- the columns that an INSERT gives: nothing for all of them
abbrev pub columns_tokens : Option (List (List ℕ)) → List Token
columns_tokens None = []
columns_tokens (Some names) = token.Sign sign.Open ∷ (joined name_tokens names ++ token.Sign sign.Close ∷ [])

-- the values of an INSERT in parentheses
abbrev pub inputs_tokens : List (Entry Name) → List Token
inputs_tokens inputs = token.Word word.Values ∷ token.Sign sign.Open ∷ (joined given_tokens inputs ++ token.Sign sign.Close ∷ [])

-- the first word of a statement
abbrev pub first_word : Plan Name → Keyword
first_word (select table items condition keys held) = word.Select
first_word (next n) = word.Select
first_word (insert table names inputs) = word.Insert
first_word (update table settings condition) = word.Update
first_word (delete table condition) = word.Delete
first_word commit = word.Commit
first_word rollback = word.Rollback
first_word set_read_only = word.Set
first_word (savepoint n) = word.Savepoint
first_word (rollback_to n) = word.Rollback

-- the tokens after the first word
abbrev pub further_tokens : Plan Name → List Token
further_tokens (select table items condition keys held) = selection_tokens items
    ++ token.Word word.From ∷ token.Name table ∷ (where_tokens condition ++ (order_tokens keys ++ for_update_tokens held))
further_tokens (next n) =
    token.Name n ∷ token.Sign sign.Dot ∷ token.Word word.Nextval ∷ token.Word word.From ∷ token.Word word.Dual ∷ []
further_tokens (insert table names inputs) = token.Word word.Into ∷ token.Name table ∷ (columns_tokens names ++ inputs_tokens inputs)
further_tokens (update table settings condition) =
    token.Name table ∷ token.Word word.Set ∷ (joined assignment_tokens settings ++ where_tokens condition)
further_tokens (delete table condition) = token.Word word.From ∷ token.Name table ∷ where_tokens condition
further_tokens commit = []
further_tokens rollback = []
further_tokens set_read_only = token.Word word.Transaction ∷ token.Word word.Read ∷ token.Word word.Only ∷ []
further_tokens (savepoint n) = token.Name n ∷ []
further_tokens (rollback_to n) = token.Word word.To ∷ token.Name n ∷ []

-- the tokens that are written for a statement
abbrev pub statement_tokens : Plan Name → List Token
statement_tokens statement = token.Word (first_word statement) ∷ further_tokens statement

-- 1 for a parenthesis that opens
abbrev pub opening : Token → ℕ
opening (token.Sign sign.Open) = 1
opening other = 0

-- how many parentheses open in these tokens
abbrev pub opened : List Token → ℕ
opened [] = 0
opened (t ∷ ts) = opening t + opened ts

-- the written text: the tokens, parted by single spaces
unfoldable pub written : Plan Name → List ℕ
written statement = join_with_byte 32 (map token_text (statement_tokens statement))
