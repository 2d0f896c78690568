-- What is written is the statement, and its bytes are the tokens.
use Rattle.std.proofs.Common.{◌≡◌, ◌≢◌, ℕ, ◌<◌, ◌≤◌, ◌^◌, true, false, List, [], ◌∷◌, ◌++◌, length, refl, sym, ap, subst, ◌∙◌, arith, zero, suc, ◌+◌, Bool, lit≤, ◌-◌, map, Option}
use Rattle.std.specs.Prelude.{pos, nat_lt, if◌then◌else◌, Result, Ok, Err, IfOk}
use Rattle.std.specs.List.{list_all, AllByRecursion, join_with_byte, flat_map}
use Rattle.std.specs.Int.{IsInRange}
use Rattle.std.specs.Char.{is_ascii_digit, is_ascii_alphabetic, to_ascii_lowercase, digit_value, to_ascii_uppercase}
use Rattle.std.specs.Str.Parse.{digits_value, AllDigits, IsNumeral}
use Rattle.std.specs.Fmt.{decimal}
use Rattle.std.proofs.lemmas.Bool.{and_from, and_parts, ltb-true, ltb-false}
use Rattle.std.proofs.lemmas.Bool.Decides.{nat_tests}
use Rattle.std.proofs.lemmas.Fmt.{decimal_is_IsNumeral}
use Rattle.std.proofs.lemmas.Str.Parse.{digit_from_value}
use Rattle.desk_values.specs.declared.keyword.Keyword.{Keyword}
use Rattle.desk_values.specs.declared.keyword.Keyword.TheVariants as word
use Rattle.sql_reader.specs.declared.token.Sign.{Sign}
use Rattle.sql_reader.specs.declared.token.Sign.TheVariants as sign
use Rattle.sql_reader.specs.declared.token.Token.{Token}
use Rattle.sql_reader.specs.declared.token.Token.TheVariants as token
use Rattle.desk_values.specs.Keyword.{keyword_word}
use Rattle.sql_reader.specs.Lexical as l
use Rattle.sql_reader.specs.Lexical.{is_part, is_word, is_numeral, folded, lengthens, EndsBefore, Lexeme, Tokens, mark}
use Rattle.sql_reader.specs.Written.{token_text, part_of, bare_tokens, expression_tokens, whole, joined, first_word, further_tokens, written, called, aggregate_tokens, given_tokens, assignment_tokens, key_tokens, name_tokens, selection_tokens, where_tokens, order_tokens, for_update_tokens, columns_tokens, inputs_tokens, statement_tokens}
use Rattle.sql_reader.specs.Inside.{spaced, spaced_all}
use Rattle.sql_reader.proofs.Scanning.{length_folded}
use Rattle.sql_tree.specs.declared.tree.Op.{Op}
use Rattle.sql_reader.specs.declared.part.Part.{Part}
use Rattle.sql_reader.specs.declared.part.Part.TheVariants.{Disjunction, Conjunction, Negation, Comparison, Sum, Product, Factor, Primary}
use Rattle.sql_tree.specs.Plain.{Term, bin, Name, Plan, Total, Entry, Change, Asked, totals, select}
use Rattle.sql_reader.specs.Grammar.{looseness, left_of, right_of, line_of, operator_token, Parses, conjunction, or_, negation, and_, comparison, not_, sum_, compare_, is_null_, not_null_, product, add_, factor, multiply_, primary, minus_, number, string, null_, bind_, name, rowid_, parentheses, IsExpression, Joined, IsList, IsName, IsKey, IsAggregate, IsInput, IsSetting, IsWhere, IsOrder, IsForUpdate, IsSelection, IsColumns, IsBody, IsStatementOf}
use Rattle.sql_reader.specs.Words.{sign_text}
use Rattle.sql_reader.proofs.Firsts.{same_part}
use Rattle.std.proofs.lemmas.List.{append-nil}
use Rattle.std.proofs.lemmas.List.Folds.{flat_map-map}
use Rattle.std.proofs.lemmas.Str.Ascii.{lowercase-lowercase}
use Rattle.sql_tree.specs.declared.tree.Key.{Key}
use Rattle.sql_reader.specs.Grammar as g
use Rattle.sql_reader.specs.Spelling.{Spells, IsStatement}

-- ---- The texts of tokens, with spaces before them, are those tokens.

-- the token has a text
abbrev pub IsToken : Token → Type 0
IsToken t = (text : List ℕ) × Lexeme text t

abbrev pub AreTokens : List Token → Type 0
AreTokens ts = AllByRecursion IsToken ts

pub scanned_are : {bytes : List ℕ} {ts : List Token} → Tokens bytes ts → AreTokens ts
scanned_are l.end = tt
scanned_are (l.space h g) = scanned_are g
scanned_are (l.then {text = text} lexeme ends g) = ((text, lexeme), scanned_are g)

pub are_both : (ts us : List Token) → AreTokens ts → AreTokens us → AreTokens (ts ++ us)
are_both [] us a b = b
are_both (t ∷ ts) us a b = (a.0, are_both ts us a.1 b)

pub are_left : (ts us : List Token) → AreTokens (ts ++ us) → AreTokens ts
are_left [] us a = tt
are_left (t ∷ ts) us a = (a.0, are_left ts us a.1)

pub are_right : (ts us : List Token) → AreTokens (ts ++ us) → AreTokens us
are_right [] us a = a
are_right (t ∷ ts) us a = are_right ts us a.1

-- ---- the text of one token

word_text : (k : Keyword) → Lexeme (token_text (token.Word k)) (token.Word k)
word_text word.And = l.word refl refl
word_text other = l.word refl refl

folded_twice : (bytes : List ℕ) → folded (folded bytes) ≡ folded bytes
folded_twice [] = refl
folded_twice (b ∷ bytes) = rw (lowercase-lowercase b) (ap (λ (x : List ℕ). to_ascii_lowercase b ∷ x) (folded_twice bytes))

lower_part : (b : ℕ) → is_part b ≡ true → is_part (to_ascii_lowercase b) ≡ true
lower_part b h = grind (arith, nat_tests)

lower_letter : (b : ℕ) → is_ascii_alphabetic b ≡ true → is_ascii_alphabetic (to_ascii_lowercase b) ≡ true
lower_letter b h = grind (arith, nat_tests)

folded_parts : (bytes : List ℕ) → list_all is_part bytes ≡ true → list_all is_part (folded bytes) ≡ true
folded_parts [] h = refl
folded_parts (b ∷ bytes) h = (let p = and_parts (is_part b) (list_all is_part bytes) h in and_from _ _ (lower_part b p.0) (folded_parts bytes p.1))

folded_word : (bytes : List ℕ) → is_word bytes ≡ true → is_word (folded bytes) ≡ true
folded_word [] h = h
folded_word (b ∷ bytes) h = (let p = and_parts (is_ascii_alphabetic b) (list_all is_part bytes) h in and_from _ _ (lower_letter b p.0) (folded_parts bytes p.1))

name_text : (bytes : List ℕ) → is_word bytes ≡ true → ((k : Keyword) → folded bytes ≢ keyword_word k) → length bytes ≤ 30 → Lexeme (folded bytes) (token.Name (folded bytes))
name_text bytes w other short =
    let again = folded_twice bytes in
    let none : (k : Keyword) → folded (folded bytes) ≢ keyword_word k = λ k e. other k (sym again ∙ e) in
    let short_too : length (folded bytes) ≤ 30 = omega (arith, length_folded bytes) in
    subst (λ (n : List ℕ). Lexeme (folded bytes) (token.Name n)) again (l.name (folded_word bytes w) none short_too)

digit_in : (c : ℕ) → IsInRange 48 57 c → is_ascii_digit c ≡ true
digit_in c h = (let low = h.0 in let high = h.1 in grind (arith, nat_tests))

digit_again : (c : ℕ) → digit_value c < 10 → is_ascii_digit c ≡ true
digit_again c h = digit_in c (digit_from_value c h)

all_digits : (ds : List ℕ) → AllDigits 10 ds → list_all is_ascii_digit ds ≡ true
all_digits [] h = refl
all_digits (d ∷ ds) h = and_from _ _ (digit_again d h.0) (all_digits ds h.1)

numeral_again : (ds : List ℕ) → IsNumeral 10 ds → is_numeral ds ≡ true
numeral_again [] h = absurd (omega (arith, h.0))
numeral_again (d ∷ ds) h = all_digits (d ∷ ds) h.1

number_text : (n : ℕ) → n < 2 ^ 63 → Lexeme (decimal n) (token.Number (pos n))
number_text n small =
    let d = decimal_is_IsNumeral n (omega arith) in
    let value : digits_value 10 (decimal n) < 2 ^ 63 = rw d.1 small in
    subst (λ (m : ℕ). Lexeme (decimal n) (token.Number (pos m))) d.1 (l.number (numeral_again (decimal n) d.0) value)

pub text_again : {text : List ℕ} {t : Token} → Lexeme text t → Lexeme (token_text t) t
text_again (l.word {keyword = k} w e) = word_text k
text_again (l.name {bytes = bytes} w other short) = name_text bytes w other short
text_again (l.number {bytes = bytes} w small) = number_text (digits_value 10 bytes) small
text_again (l.string is) = l.string is
text_again (l.bind low high) = l.bind low high
text_again l.mark = l.mark
text_again l.other_not_equal = l.mark

-- ---- spaces between

no_space_sign : (s : Sign) → lengthens s 32 ≡ false
no_space_sign sign.Open = refl
no_space_sign other = refl

space_ends : (t : Token) (rest : List ℕ) → EndsBefore t (32 ∷ rest)
space_ends (token.Sign s) rest = no_space_sign s
space_ends (token.Text bytes) rest = refl
space_ends (token.Word k) rest = refl
space_ends (token.Name n) rest = refl
space_ends (token.Number n) rest = refl
space_ends (token.Bind n) rest = refl

all_ends : (t : Token) (ts : List Token) → EndsBefore t (spaced_all ts)
unfolding spaced
all_ends t [] = tt
all_ends t (u ∷ ts) = space_ends t (token_text u ++ spaced_all ts)

pub spaced_are : (ts : List Token) → AreTokens ts → Tokens (spaced_all ts) ts
unfolding spaced
spaced_are [] a = l.end
spaced_are (t ∷ ts) a = l.space refl (l.then (text_again a.0.1) (all_ends t ts) (spaced_are ts a.1))

pub text_is : (t : Token) (ts : List Token) → AreTokens (t ∷ ts) → Tokens (token_text t ++ spaced_all ts) (t ∷ ts)
text_is t ts a = l.then (text_again a.0.1) (all_ends t ts) (spaced_are ts a.1)

-- ---- What is written for an expression is the expression.

-- more may nest
weaken : {part : Part} {d : ℕ} {ts : List Token} {e : Term Name} → Parses part d ts e → Parses part (suc d) ts e
weaken (conjunction r) = conjunction (weaken r)
weaken (or_ l p q) = or_ l (weaken p) (weaken q)
weaken (negation r) = negation (weaken r)
weaken (and_ l p q) = and_ l (weaken p) (weaken q)
weaken (comparison r) = comparison (weaken r)
weaken (not_ r) = not_ (weaken r)
weaken (sum_ r) = sum_ (weaken r)
weaken (compare_ l p q) = compare_ l (weaken p) (weaken q)
weaken (is_null_ r) = is_null_ (weaken r)
weaken (not_null_ r) = not_null_ (weaken r)
weaken (product r) = product (weaken r)
weaken (add_ l p q) = add_ l (weaken p) (weaken q)
weaken (factor r) = factor (weaken r)
weaken (multiply_ l p q) = multiply_ l (weaken p) (weaken q)
weaken (primary r) = primary (weaken r)
weaken (minus_ r) = minus_ (weaken r)
weaken number = number
weaken string = string
weaken null_ = null_
weaken bind_ = bind_
weaken name = name
weaken rowid_ = rowid_
weaken (parentheses r) = parentheses (weaken r)

pub at_most : (part : Part) → looseness part ≤ 7
at_most Primary = omega arith
at_most other = omega arith

-- a tighter part is also a looser one
raise : (n : ℕ) (p q : Part) {d : ℕ} {ts : List Token} {e : Term Name} → looseness p + n ≡ looseness q → Parses p d ts e → Parses q d ts e
raise zero p q {d} {ts} {e} h r = subst (λ (x : Part). Parses x d ts e) (same_part p q (omega arith)) r
raise (suc n) Primary q h r = raise n Factor q (omega arith) (primary r)
raise (suc n) Factor q h r = raise n Product q (omega arith) (factor r)
raise (suc n) Product q h r = raise n Sum q (omega arith) (product r)
raise (suc n) Sum q h r = raise n Comparison q (omega arith) (sum_ r)
raise (suc n) Comparison q h r = raise n Negation q (omega arith) (comparison r)
raise (suc n) Negation q h r = raise n Conjunction q (omega arith) (negation r)
raise (suc n) Conjunction q h r = raise n Disjunction q (omega arith) (conjunction r)
raise (suc n) Disjunction q h r = absurd (omega (arith, at_most q))

lift : (p q : Part) {d : ℕ} {ts : List Token} {e : Term Name} → looseness p ≤ looseness q → Parses p d ts e → Parses q d ts e
lift p q h r = raise (looseness q - looseness p) p q (omega arith) r

-- the expression is read without parentheses, where the part is loose enough, or one level less deep
data Rewritten (part : Part) (d : ℕ) (e : Term Name) : Type 0 where
  direct : looseness (part_of e) ≤ looseness part → Parses (part_of e) d (bare_tokens e) e → Rewritten part d e
  nested : {inner : ℕ} → d ≡ suc inner → Parses (part_of e) inner (bare_tokens e) e → Rewritten part d e

enclose : (part : Part) (d : ℕ) (e : Term Name) → Parses (part_of e) d (bare_tokens e) e → Parses part (suc d) (token.Sign sign.Open ∷ (bare_tokens e ++ token.Sign sign.Close ∷ [])) e
enclose part d e r = lift Primary part (omega arith) (parentheses (lift (part_of e) Disjunction (at_most (part_of e)) r))

enclosed_reads : (part : Part) (d : ℕ) (e : Term Name) (b : Bool) → nat_lt (looseness part) (looseness (part_of e)) ≡ b → Rewritten part d e → Parses part d (if b then token.Sign sign.Open ∷ (bare_tokens e ++ token.Sign sign.Close ∷ []) else bare_tokens e) e
enclosed_reads part d e true h (direct le r) = absurd (omega (arith, ltb-true _ _ h))
enclosed_reads part d e false h (direct le r) = lift (part_of e) part le r
enclosed_reads part d e true h (nested deeper r) = subst (λ (x : ℕ). Parses part x (token.Sign sign.Open ∷ (bare_tokens e ++ token.Sign sign.Close ∷ [])) e) (sym deeper) (enclose part _ e r)
enclosed_reads part d e false h (nested deeper r) = subst (λ (x : ℕ). Parses part x (bare_tokens e) e) (sym deeper) (lift (part_of e) part (ltb-false _ _ h) (weaken r))

reads_again : (part : Part) (d : ℕ) (e : Term Name) → Rewritten part d e → Parses part d (expression_tokens part e) e
reads_again part d e w = enclosed_reads part d e (nat_lt (looseness part) (looseness (part_of e))) refl w

looser : (p q : Part) (d : ℕ) (e : Term Name) → looseness p ≤ looseness q → Rewritten p d e → Rewritten q d e
looser p q d e h (direct le r) = direct (omega arith) r
looser p q d e h (nested deeper r) = nested deeper r

-- an operator between its operands
abbrev Around : Op → ℕ → Term Name → Term Name → Part → Type 0
Around o d a b line = Parses line d (expression_tokens (left_of line) a ++ operator_token o ∷ expression_tokens (right_of line) b) (bin o a b)

operated : (o : Op) (d : ℕ) (a b : Term Name) (line : Part) → line_of o ≡ line → Around o d a b line → Rewritten line d (bin o a b)
operated o d a b line l r = direct (omega (arith, ap looseness l)) (subst (Around o d a b) (sym l) r)

unwrapped : (d : ℕ) (e : Term Name) → Rewritten Disjunction d e → Rewritten Primary (suc d) e
unwrapped d e (direct le r) = nested refl r
unwrapped d e (nested deeper r) = nested refl (subst (λ (x : ℕ). Parses (part_of e) x (bare_tokens e) e) (sym deeper) (weaken r))

rewritten : {part : Part} {d : ℕ} {ts : List Token} {e : Term Name} → Parses part d ts e → Rewritten part d e
rewritten (conjunction {d = d} {e = e} r) = looser Conjunction Disjunction d e (lit≤ tt) (rewritten r)
rewritten (or_ {d = d} {o = o} {a = a} {b = b} l p q) = operated o d a b Disjunction l (or_ l (reads_again Disjunction d a (rewritten p)) (reads_again Conjunction d b (rewritten q)))
rewritten (negation {d = d} {e = e} r) = looser Negation Conjunction d e (lit≤ tt) (rewritten r)
rewritten (and_ {d = d} {o = o} {a = a} {b = b} l p q) = operated o d a b Conjunction l (and_ l (reads_again Conjunction d a (rewritten p)) (reads_again Negation d b (rewritten q)))
rewritten (comparison {d = d} {e = e} r) = looser Comparison Negation d e (lit≤ tt) (rewritten r)
rewritten (not_ {d = d} {e = e} r) = direct (lit≤ tt) (not_ (reads_again Negation d e (rewritten r)))
rewritten (sum_ {d = d} {e = e} r) = looser Sum Comparison d e (lit≤ tt) (rewritten r)
rewritten (compare_ {d = d} {o = o} {a = a} {b = b} l p q) = operated o d a b Comparison l (compare_ l (reads_again Sum d a (rewritten p)) (reads_again Sum d b (rewritten q)))
rewritten (is_null_ {d = d} {e = e} r) = direct (lit≤ tt) (is_null_ (reads_again Sum d e (rewritten r)))
rewritten (not_null_ {d = d} {e = e} r) = direct (lit≤ tt) (not_null_ (reads_again Sum d e (rewritten r)))
rewritten (product {d = d} {e = e} r) = looser Product Sum d e (lit≤ tt) (rewritten r)
rewritten (add_ {d = d} {o = o} {a = a} {b = b} l p q) = operated o d a b Sum l (add_ l (reads_again Sum d a (rewritten p)) (reads_again Product d b (rewritten q)))
rewritten (factor {d = d} {e = e} r) = looser Factor Product d e (lit≤ tt) (rewritten r)
rewritten (multiply_ {d = d} {o = o} {a = a} {b = b} l p q) = operated o d a b Product l (multiply_ l (reads_again Product d a (rewritten p)) (reads_again Factor d b (rewritten q)))
rewritten (primary {d = d} {e = e} r) = looser Primary Factor d e (lit≤ tt) (rewritten r)
rewritten (minus_ {d = d} {e = e} r) = direct (lit≤ tt) (minus_ (reads_again Factor d e (rewritten r)))
rewritten number = direct (lit≤ tt) number
rewritten string = direct (lit≤ tt) string
rewritten null_ = direct (lit≤ tt) null_
rewritten bind_ = direct (lit≤ tt) bind_
rewritten name = direct (lit≤ tt) name
rewritten rowid_ = direct (lit≤ tt) rowid_
rewritten (parentheses {d = d} {e = e} r) = unwrapped d e (rewritten r)

pub whole_again : {ts : List Token} {e : Term Name} → IsExpression ts e → IsExpression (whole e) e
whole_again {ts} {e} r = reads_again Disjunction 32 e (rewritten r)

-- ---- the tokens that are written have texts

pub open_is : IsToken (token.Sign sign.Open)
open_is = (sign_text sign.Open, mark)

pub close_is : IsToken (token.Sign sign.Close)
close_is = (sign_text sign.Close, mark)

enclosed_if : (b : Bool) (ts : List Token) → AreTokens ts → AreTokens (if b then token.Sign sign.Open ∷ (ts ++ token.Sign sign.Close ∷ []) else ts)
enclosed_if true ts a = (open_is, are_both ts (token.Sign sign.Close ∷ []) a (close_is, tt))
enclosed_if false ts a = a

enclosed_are : (part : Part) (e : Term Name) → AreTokens (bare_tokens e) → AreTokens (expression_tokens part e)
enclosed_are part e a = enclosed_if (nat_lt (looseness part) (looseness (part_of e))) (bare_tokens e) a

around_are : (ts us : List Token) (o : Op) (p q : Part) (a b : Term Name) → AreTokens (ts ++ operator_token o ∷ us) → (AreTokens ts → AreTokens (bare_tokens a)) → (AreTokens us → AreTokens (bare_tokens b)) → AreTokens (expression_tokens p a ++ operator_token o ∷ expression_tokens q b)
around_are ts us o p q a b all f g =
    let right = are_right ts (operator_token o ∷ us) all in
    are_both (expression_tokens p a) (operator_token o ∷ expression_tokens q b) (enclosed_are p a (f (are_left ts (operator_token o ∷ us) all))) (right.0, enclosed_are q b (g right.1))

bare_are : {part : Part} {d : ℕ} {ts : List Token} {e : Term Name} → Parses part d ts e → AreTokens ts → AreTokens (bare_tokens e)
bare_are (conjunction r) a = bare_are r a
bare_are (or_ {ts = ts} {us = us} {o = o} {a = x} {b = y} l p q) a = around_are ts us o (left_of (line_of o)) (right_of (line_of o)) x y a (bare_are p) (bare_are q)
bare_are (negation r) a = bare_are r a
bare_are (and_ {ts = ts} {us = us} {o = o} {a = x} {b = y} l p q) a = around_are ts us o (left_of (line_of o)) (right_of (line_of o)) x y a (bare_are p) (bare_are q)
bare_are (comparison r) a = bare_are r a
bare_are (not_ {e = e} r) a = (a.0, enclosed_are Negation e (bare_are r a.1))
bare_are (sum_ r) a = bare_are r a
bare_are (compare_ {ts = ts} {us = us} {o = o} {a = x} {b = y} l p q) a = around_are ts us o (left_of (line_of o)) (right_of (line_of o)) x y a (bare_are p) (bare_are q)
bare_are (is_null_ {ts = ts} {e = e} r) a = are_both (expression_tokens Sum e) (token.Word word.Is ∷ token.Word word.Null ∷ []) (enclosed_are Sum e (bare_are r (are_left ts (token.Word word.Is ∷ token.Word word.Null ∷ []) a))) (are_right ts (token.Word word.Is ∷ token.Word word.Null ∷ []) a)
bare_are (not_null_ {ts = ts} {e = e} r) a = are_both (expression_tokens Sum e) (token.Word word.Is ∷ token.Word word.Not ∷ token.Word word.Null ∷ []) (enclosed_are Sum e (bare_are r (are_left ts (token.Word word.Is ∷ token.Word word.Not ∷ token.Word word.Null ∷ []) a))) (are_right ts (token.Word word.Is ∷ token.Word word.Not ∷ token.Word word.Null ∷ []) a)
bare_are (product r) a = bare_are r a
bare_are (add_ {ts = ts} {us = us} {o = o} {a = x} {b = y} l p q) a = around_are ts us o (left_of (line_of o)) (right_of (line_of o)) x y a (bare_are p) (bare_are q)
bare_are (factor r) a = bare_are r a
bare_are (multiply_ {ts = ts} {us = us} {o = o} {a = x} {b = y} l p q) a = around_are ts us o (left_of (line_of o)) (right_of (line_of o)) x y a (bare_are p) (bare_are q)
bare_are (primary r) a = bare_are r a
bare_are (minus_ {e = e} r) a = (a.0, enclosed_are Factor e (bare_are r a.1))
bare_are number a = a
bare_are string a = a
bare_are null_ a = a
bare_are bind_ a = a
bare_are name a = a
bare_are rowid_ a = a
bare_are (parentheses {ts = ts} r) a = bare_are r (are_left ts (token.Sign sign.Close ∷ []) a.1)

pub whole_are : {ts : List Token} {e : Term Name} → IsExpression ts e → AreTokens ts → AreTokens (whole e)
whole_are {ts} {e} r a = enclosed_are Disjunction e (bare_are r a)

-- ---- Members with commas between them, and tokens with spaces between them.

pub joined_map : {A B : Type 0} (f : B → List Token) (g : A → B) (xs : List A) → joined f (map g xs) ≡ joined (λ x. f (g x)) xs
joined_map f g [] = refl
joined_map f g (x ∷ xs) = ap (λ (ts : List Token). f (g x) ++ ts) (flat_map-map (λ y. token.Sign sign.Comma ∷ f y) g xs)

-- one space between any two tokens is one space before each but the first
pub spaced_join : (t : Token) (ts : List Token) → join_with_byte 32 (map token_text (t ∷ ts)) ≡ token_text t ++ spaced_all ts
unfolding spaced
spaced_join t [] = sym (append-nil (token_text t))
spaced_join t (u ∷ ts) = ap (λ (bs : List ℕ). token_text t ++ 32 ∷ bs) (spaced_join u ts)

pub written_is : (s : Plan Name) → written s ≡ map to_ascii_uppercase (keyword_word (first_word s)) ++ spaced_all (further_tokens s)
unfolding written
written_is s = spaced_join (token.Word (first_word s)) (further_tokens s)

-- ---- What is written for a statement is the statement.

-- what is written for x is x, and its tokens have texts where those that were read have
record Again {A : Type 0} (Is : List Token → A → Type 0) (tokens : A → List Token) (ts : List Token) (x : A) : Type 0 where
  reads : Is (tokens x) x
  are : AreTokens ts → AreTokens (tokens x)

abbrev AgainOf : {A : Type 0} → (List Token → A → Type 0) → (A → List Token) → Type 0
AgainOf {A} Is tokens = (ts : List Token) (x : A) → Is ts x → Again Is tokens ts x

abbrev comma_is : IsToken (token.Sign sign.Comma)
comma_is = (sign_text sign.Comma, mark)

-- ---- lists

pub further : {A : Type 0} {Is : List Token → A → Type 0} (tokens : A → List Token) {ts : List Token} {xs : List A} → Joined Is ts xs → flat_map (λ y. token.Sign sign.Comma ∷ tokens y) xs ≡ token.Sign sign.Comma ∷ joined tokens xs
further tokens (g.last r) = refl
further tokens (g.more r j) = refl

module _ {A : Type 0} (Is : List Token → A → Type 0) (tokens : A → List Token) (again : AgainOf Is tokens) where
  joined_again : {ts : List Token} {xs : List A} → Joined Is ts xs → Joined Is (joined tokens xs) xs
  joined_again (g.last {ts = ts} {x = x} r) = subst (λ (z : List Token). Joined Is z (x ∷ [])) (sym (append-nil (tokens x))) (g.last (again ts x r).reads)
  joined_again (g.more {ts = ts} {us = us} {x = x} {xs = xs} r j) = subst (λ (z : List Token). Joined Is (tokens x ++ z) (x ∷ xs)) (sym (further tokens j)) (g.more (again ts x r).reads (joined_again j))

  joined_are : {ts : List Token} {xs : List A} → Joined Is ts xs → AreTokens ts → AreTokens (joined tokens xs)
  joined_are (g.last {ts = ts} {x = x} r) a = are_both (tokens x) [] ((again ts x r).are a) tt
  joined_are (g.more {ts = ts} {us = us} {x = x} {xs = xs} r j) a =
      are_both (tokens x) (flat_map (λ y. token.Sign sign.Comma ∷ tokens y) xs) ((again ts x r).are (are_left ts (token.Sign sign.Comma ∷ us) a)) (subst AreTokens (sym (further tokens j)) (comma_is, joined_are j (are_right ts (token.Sign sign.Comma ∷ us) a).1))

  list_again : (ts : List Token) (xs : List A) → IsList Is ts xs → Again (IsList Is) (joined tokens) ts xs
  list_again ts xs l = record { reads = (joined_again l.0, l.1); are = joined_are l.0 }

-- ---- members

whole_of : AgainOf IsExpression whole
whole_of ts e r = record { reads = whole_again r; are = whole_are r }

name_of : {ts : List Token} {n : List ℕ} → IsName ts n → Again IsName name_tokens ts n
name_of g.name = record { reads = g.name; are = λ a. a }

key_of : {ts : List Token} {k : Key Name} → IsKey ts k → Again IsKey key_tokens ts k
key_of g.plain = record { reads = g.plain; are = λ a. a }
key_of g.ascending = record { reads = g.plain; are = λ a. (a.0, tt) }
key_of g.descending = record { reads = g.descending; are = λ a. a }

called_are : (k : Keyword) (ts : List Token) (e : Term Name) → IsExpression ts e → AreTokens (token.Word k ∷ token.Sign sign.Open ∷ (ts ++ token.Sign sign.Close ∷ [])) → AreTokens (called (token.Word k) e)
called_are k ts e r a = (a.0, (a.1.0, are_both (whole e) (token.Sign sign.Close ∷ []) (whole_are r (are_left ts (token.Sign sign.Close ∷ []) a.1.1)) (close_is, tt)))

total_of : {ts : List Token} {x : Total Name} → IsAggregate ts x → Again IsAggregate aggregate_tokens ts x
total_of g.count_ = record { reads = g.count_; are = λ a. a }
total_of (g.sum_ {ts = ts} {e = e} r) = record { reads = g.sum_ (whole_again r); are = called_are word.Sum ts e r }
total_of (g.min_ {ts = ts} {e = e} r) = record { reads = g.min_ (whole_again r); are = called_are word.Min ts e r }
total_of (g.max_ {ts = ts} {e = e} r) = record { reads = g.max_ (whole_again r); are = called_are word.Max ts e r }

input_of : {ts : List Token} {x : Entry Name} → IsInput ts x → Again IsInput given_tokens ts x
input_of (g.value_ r) = record { reads = g.value_ (whole_again r); are = whole_are r }
input_of g.next_ = record { reads = g.next_; are = λ a. a }

setting_of : {ts : List Token} {x : Change Name} → IsSetting ts x → Again IsSetting assignment_tokens ts x
setting_of (g.set_ r) = record { reads = g.set_ (whole_again r); are = λ a. (a.0, (a.1.0, whole_are r a.1.1)) }

-- ---- clauses

where_of : {ts : List Token} {x : Option (Term Name)} → IsWhere ts x → Again IsWhere where_tokens ts x
where_of g.all_ = record { reads = g.all_; are = λ a. a }
where_of (g.where_ r) = record { reads = g.where_ (whole_again r); are = λ a. (a.0, whole_are r a.1) }

ordered : (k : Key Name) (keys : List (Key Name)) (ts : List Token) → IsList IsKey ts (k ∷ keys) → Again IsOrder order_tokens (token.Word word.Order ∷ token.Word word.By ∷ ts) (k ∷ keys)
ordered k keys ts l =
    let r = list_again IsKey key_tokens (λ us x h. key_of h) ts (k ∷ keys) l in
    record { reads = g.by_keys r.reads; are = λ a. (a.0, (a.1.0, r.are a.1.1)) }

order_keys : {ts : List Token} {keys : List (Key Name)} → Joined IsKey ts keys → length keys ≤ 16 → Again IsOrder order_tokens (token.Word word.Order ∷ token.Word word.By ∷ ts) keys
order_keys (g.last {ts = ts} {x = x} r) n = ordered x [] ts (g.last r, n)
order_keys (g.more {ts = ts} {us = us} {x = x} {xs = xs} r j) n = ordered x xs (ts ++ token.Sign sign.Comma ∷ us) (g.more r j, n)

order_of : {ts : List Token} {x : List (Key Name)} → IsOrder ts x → Again IsOrder order_tokens ts x
order_of g.by_row = record { reads = g.by_row; are = λ a. a }
order_of (g.by_keys l) = order_keys l.0 l.1

for_update_of : {ts : List Token} {x : Bool} → IsForUpdate ts x → Again IsForUpdate for_update_tokens ts x
for_update_of g.free = record { reads = g.free; are = λ a. a }
for_update_of g.held = record { reads = g.held; are = λ a. a }

asked_of : {ts : List Token} {x : Asked Name} → IsSelection ts x → Again IsSelection selection_tokens ts x
asked_of g.star = record { reads = g.star; are = λ a. a }
asked_of (g.list {ts = ts} {es = es} l) = (let r = list_again IsExpression whole whole_of ts es l in record { reads = g.list r.reads; are = r.are })

columns_of : {ts : List Token} {x : Option (List (List ℕ))} → IsColumns ts x → Again IsColumns columns_tokens ts x
columns_of g.all_ = record { reads = g.all_; are = λ a. a }
columns_of (g.some_ {ts = ts} {names = names} l) =
    let r = list_again IsName name_tokens (λ us x h. name_of h) ts names l in
    record { reads = g.some_ r.reads; are = λ a. (a.0, are_both (joined name_tokens names) (token.Sign sign.Close ∷ []) (r.are (are_left ts (token.Sign sign.Close ∷ []) a.1)) (close_is, tt)) }

-- ---- statements

body_of : {ts : List Token} {s : Plan Name} → IsBody ts s → Again IsBody statement_tokens ts s
body_of (g.select_ {ts = ts} {ws = ws} {os = os} {fs = fs} {items = items} {table = table} {condition = condition} {keys = keys} {for_update = held} i w o f) =
    let si = asked_of i in
    let sw = where_of w in
    let so = order_of o in
    let sf = for_update_of f in
    record {
      reads = g.select_ si.reads sw.reads so.reads sf.reads;
      are = λ a. (let more = are_right ts (token.Word word.From ∷ token.Name table ∷ (ws ++ (os ++ fs))) a.1 in (
        a.0,
        are_both (selection_tokens items) (token.Word word.From ∷ token.Name table ∷ (where_tokens condition ++ (order_tokens keys ++ for_update_tokens held))) (si.are (are_left ts (token.Word word.From ∷ token.Name table ∷ (ws ++ (os ++ fs))) a.1))
            (more.0, (more.1.0, are_both (where_tokens condition) (order_tokens keys ++ for_update_tokens held) (sw.are (are_left ws (os ++ fs) more.1.1)) (are_both (order_tokens keys) (for_update_tokens held) (so.are (are_left os fs (are_right ws (os ++ fs) more.1.1))) (sf.are (are_right os fs (are_right ws (os ++ fs) more.1.1)))))),
      ));
    }
body_of (g.aggregate_ {ts = ts} {ws = ws} {items = items} {table = table} {condition = condition} l w) =
    let sl = list_again IsAggregate aggregate_tokens (λ us x h. total_of h) ts items l in
    let sw = where_of w in
    record {
      reads = subst (λ (z : List Token). IsBody (token.Word word.Select ∷ (joined aggregate_tokens items ++ token.Word word.From ∷ token.Name table ∷ z)) (select table (totals items) condition [] false)) (sym (append-nil (where_tokens condition))) (g.aggregate_ sl.reads sw.reads);
      are = λ a. (let more = are_right ts (token.Word word.From ∷ token.Name table ∷ ws) a.1 in (
        a.0,
        are_both (joined aggregate_tokens items) (token.Word word.From ∷ token.Name table ∷ (where_tokens condition ++ [])) (sl.are (are_left ts (token.Word word.From ∷ token.Name table ∷ ws) a.1))
            (more.0, (more.1.0, are_both (where_tokens condition) [] (sw.are more.1.1) tt)),
      ));
    }
body_of g.draw_ = record { reads = g.draw_; are = λ a. a }
body_of (g.insert_ {cs = cs} {is = is} {table = table} {names = names} {inputs = inputs} c l) =
    let sc = columns_of c in
    let sl = list_again IsInput given_tokens (λ us x h. input_of h) is inputs l in
    record {
      reads = g.insert_ sc.reads sl.reads;
      are = λ a. (let more = are_right cs (token.Word word.Values ∷ token.Sign sign.Open ∷ (is ++ token.Sign sign.Close ∷ [])) a.1.1.1 in (
        a.0,
        (
          a.1.0,
          (
            a.1.1.0,
            are_both (columns_tokens names) (inputs_tokens inputs) (sc.are (are_left cs (token.Word word.Values ∷ token.Sign sign.Open ∷ (is ++ token.Sign sign.Close ∷ [])) a.1.1.1))
                (more.0, (more.1.0, are_both (joined given_tokens inputs) (token.Sign sign.Close ∷ []) (sl.are (are_left is (token.Sign sign.Close ∷ []) more.1.1)) (close_is, tt))),
          ),
        ),
      ));
    }
body_of (g.update_ {ss = ss} {ws = ws} {table = table} {settings = settings} {condition = condition} l w) =
    let sl = list_again IsSetting assignment_tokens (λ us x h. setting_of h) ss settings l in
    let sw = where_of w in
    record {
      reads = g.update_ sl.reads sw.reads;
      are = λ a. (a.0, (a.1.0, (a.1.1.0, are_both (joined assignment_tokens settings) (where_tokens condition) (sl.are (are_left ss ws a.1.1.1)) (sw.are (are_right ss ws a.1.1.1)))));
    }
body_of (g.delete_ w) = (let sw = where_of w in record { reads = g.delete_ sw.reads; are = λ a. (a.0, (a.1.0, (a.1.1.0, sw.are a.1.1.1))) })
body_of g.commit_ = record { reads = g.commit_; are = λ a. a }
body_of g.rollback_ = record { reads = g.rollback_; are = λ a. a }
body_of g.set_read_only_ = record { reads = g.set_read_only_; are = λ a. a }
body_of g.savepoint_ = record { reads = g.savepoint_; are = λ a. a }
body_of g.rollback_to_ = record { reads = g.rollback_to_; are = λ a. a }
body_of g.rollback_to_savepoint_ = record { reads = g.rollback_to_; are = λ a. (a.0, (a.1.0, a.1.1.1)) }

statement_of : {ts : List Token} {s : Plan Name} → IsStatementOf ts s → Again IsBody statement_tokens ts s
statement_of (g.bare b) = body_of b
statement_of (g.ended {ts = ts} b) = (let r = body_of b in record { reads = r.reads; are = λ a. r.are (are_left ts (token.Sign sign.Semicolon ∷ []) a) })

pub written_spells : (s : Plan Name) → IsStatement s → Spells (written s) s
unfolding written
written_spells s h =
    let r = statement_of h.1.2 in
    (statement_tokens s, subst (λ (bytes : List ℕ). Tokens bytes (statement_tokens s)) (sym (spaced_join (token.Word (first_word s)) (further_tokens s))) (text_is (token.Word (first_word s)) (further_tokens s) (r.are (scanned_are h.1.1))), g.bare r.reads)

pub writes_it : {E : Type 0} (s : Plan Name) (r : Result (List ℕ) E) → IsStatement s → IfOk r (λ bytes. bytes ≡ written s) → IfOk r (λ bytes. Spells bytes s)
writes_it s (Ok bytes) h e = subst (λ (b : List ℕ). Spells b s) (sym e) (written_spells s h)
writes_it s (Err x) h e = tt
