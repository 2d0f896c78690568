-- No tokens of a statement have fewer parentheses than those that are written.
use Rattle.std.proofs.Common.{◌≡◌, ℕ, ◌+◌, ◌≤◌, Bool, true, false, List, [], ◌∷◌, ◌++◌, Option, refl, ap, ◌∙◌, arith, lit≤}
use Rattle.sql_tree.specs.declared.tree.Op.{Op}
use Rattle.sql_reader.specs.declared.part.Part.{Part}
use Rattle.sql_reader.specs.declared.part.Part.TheVariants.{Disjunction, Conjunction, Negation, Comparison, Sum, Product, Factor, Primary}
use Rattle.desk_values.specs.declared.keyword.Keyword.{Keyword}
use Rattle.desk_values.specs.declared.keyword.Keyword.TheVariants as word
use Rattle.sql_reader.specs.declared.token.Sign.TheVariants as sign
use Rattle.sql_reader.specs.declared.token.Token.{Token}
use Rattle.sql_reader.specs.declared.token.Token.TheVariants as token
use Rattle.sql_tree.specs.Plain.{Term, null, int, text, bind, column, rowid, neg, not, bin, is_null, not_null, Name, Total, Entry, Change, Asked, Plan}
use Rattle.sql_reader.specs.Grammar.{looseness, right_of, line_of, operator_token, Parses, conjunction, or_, negation, and_, comparison, not_, sum_, compare_, is_null_, not_null_, product, add_, factor, multiply_, primary, minus_, number, string, null_, bind_, name, rowid_, parentheses, IsExpression, left_of, Joined, IsName, IsKey, IsAggregate, IsInput, IsSetting, IsWhere, IsOrder, IsForUpdate, IsSelection, IsColumns, IsBody, IsStatementOf}
use Rattle.std.specs.Prelude.{nat_lt, if◌then◌else◌}
use Rattle.std.specs.List.{flat_map}
use Rattle.std.proofs.lemmas.Bool.{ltb-false, le-ltb}
use Rattle.sql_tree.specs.declared.tree.Op.TheVariants as op
use Rattle.sql_tree.specs.declared.tree.Key.{Key}
use Rattle.sql_reader.specs.Grammar as g
use Rattle.sql_reader.specs.Written.{part_of, bare_tokens, expression_tokens, whole, joined, called, aggregate_tokens, given_tokens, assignment_tokens, key_tokens, name_tokens, selection_tokens, where_tokens, order_tokens, for_update_tokens, columns_tokens, inputs_tokens, statement_tokens, opening, opened}
use Rattle.sql_reader.proofs.Rewritten.{at_most, further}

opened_both : (ts us : List Token) → opened (ts ++ us) ≡ opened ts + opened us
opened_both [] us = omega arith
opened_both (t ∷ ts) us = omega (arith, opened_both ts us)

-- one more where the part is too loose
abbrev extra : Bool → ℕ
extra true = 1
extra false = 0

abbrev needs : Part → Term Name → Bool
needs part e = nat_lt (looseness part) (looseness (part_of e))

opened_enclosed : (b : Bool) (ts : List Token) → opened (if b then token.Sign sign.Open ∷ (ts ++ token.Sign sign.Close ∷ []) else ts) ≡ opened ts + extra b
opened_enclosed true ts = omega (arith, opened_both ts (token.Sign sign.Close ∷ []))
opened_enclosed false ts = omega arith

opened_written : (part : Part) (e : Term Name) → opened (expression_tokens part e) ≡ opened (bare_tokens e) + extra (needs part e)
opened_written part e = opened_enclosed (needs part e) (bare_tokens e)

extra_less : (a b : Bool) → (b ≡ false → a ≡ false) → extra a ≤ extra b
extra_less true true h = omega arith
extra_less false b h = omega arith
extra_less true false h = (let e = h refl in absurd cc)

extra_one : (b : Bool) → extra b ≤ 1
extra_one true = omega arith
extra_one false = omega arith

looser_needs : (p q : Part) (e : Term Name) → looseness p ≤ looseness q → needs p e ≡ false → needs q e ≡ false
looser_needs p q e le h = le-ltb _ _ (omega (arith, ltb-false _ _ h))

up : (p q : Part) (e : Term Name) (ts : List Token) → looseness p ≤ looseness q → opened (expression_tokens p e) ≤ opened ts → opened (expression_tokens q e) ≤ opened ts
up p q e ts le h = omega (arith, opened_written p e, opened_written q e, extra_less (needs q e) (needs p e) (looser_needs p q e le))

operator_opens : (o : Op) → opening (operator_token o) ≡ 0
operator_opens op.Or = refl
operator_opens other = refl

at_home : (part : Part) (e : Term Name) → looseness (part_of e) ≤ looseness part → needs part e ≡ false
at_home part e le = le-ltb _ _ le

bare_is : (part : Part) (e : Term Name) → looseness (part_of e) ≤ looseness part → opened (expression_tokens part e) ≡ opened (bare_tokens e)
bare_is part e le = omega (arith, opened_written part e, ap extra (at_home part e le))

operated : (line p q : Part) (o : Op) (a b : Term Name) (ts us : List Token) → line_of o ≡ line → left_of line ≡ p → right_of line ≡ q → opened (expression_tokens p a) ≤ opened ts → opened (expression_tokens q b) ≤ opened us → opened (expression_tokens line (bin o a b)) ≤ opened (ts ++ operator_token o ∷ us)
operated line p q o a b ts us l lp lq f h =
    let left : left_of (line_of o) ≡ p = ap left_of l ∙ lp in
    let right : right_of (line_of o) ≡ q = ap right_of l ∙ lq in
    let none : opening (operator_token o) ≡ 0 = operator_opens o in
    let ea : opened (expression_tokens (left_of (line_of o)) a) ≡ opened (expression_tokens p a) = ap (λ (x : Part). opened (expression_tokens x a)) left in
    let eb : opened (expression_tokens (right_of (line_of o)) b) ≡ opened (expression_tokens q b) = ap (λ (x : Part). opened (expression_tokens x b)) right in
    let le : looseness (line_of o) ≤ looseness line = omega (arith, ap looseness l) in
    omega (arith, bare_is line (bin o a b) le, opened_both ts (operator_token o ∷ us), opened_both (expression_tokens (left_of (line_of o)) a) (operator_token o ∷ expression_tokens (right_of (line_of o)) b), none, ea, eb, f, h)

in_parentheses : (e : Term Name) (ts : List Token) → opened (expression_tokens Disjunction e) ≤ opened ts → opened (expression_tokens Primary e) ≤ opened (token.Sign sign.Open ∷ (ts ++ token.Sign sign.Close ∷ []))
in_parentheses e ts h = omega (arith, opened_written Primary e, extra_one (needs Primary e), bare_is Disjunction e (at_most (part_of e)), opened_both ts (token.Sign sign.Close ∷ []))

prefixed : (part : Part) (e made : Term Name) (t : Token) (ts : List Token) → bare_tokens made ≡ t ∷ expression_tokens part e → part_of made ≡ part → opened (expression_tokens part e) ≤ opened ts → opened (expression_tokens part made) ≤ opened (t ∷ ts)
prefixed part e made t ts b p h = omega (arith, bare_is part made (omega (arith, ap looseness p)), ap opened b)

tested : (e made : Term Name) (ts word : List Token) → bare_tokens made ≡ expression_tokens Sum e ++ word → part_of made ≡ Comparison → opened (expression_tokens Sum e) ≤ opened ts → opened (expression_tokens Comparison made) ≤ opened (ts ++ word)
tested e made ts word b p h = omega (arith, bare_is Comparison made (omega (arith, ap looseness p)), ap opened b, opened_both ts word, opened_both (expression_tokens Sum e) word)

single : (e : Term Name) (t : Token) → bare_tokens e ≡ t ∷ [] → part_of e ≡ Primary → opened (expression_tokens Primary e) ≤ opened (t ∷ [])
single e t b p = omega (arith, bare_is Primary e (omega (arith, ap looseness p)), ap opened b)

fewest : {part : Part} {d : ℕ} {ts : List Token} {e : Term Name} → Parses part d ts e → opened (expression_tokens part e) ≤ opened ts
fewest (conjunction {ts = ts} {e = e} r) = up Conjunction Disjunction e ts (lit≤ tt) (fewest r)
fewest (or_ {ts = ts} {us = us} {o = o} {a = a} {b = b} l p q) = operated Disjunction Disjunction Conjunction o a b ts us l refl refl (fewest p) (fewest q)
fewest (negation {ts = ts} {e = e} r) = up Negation Conjunction e ts (lit≤ tt) (fewest r)
fewest (and_ {ts = ts} {us = us} {o = o} {a = a} {b = b} l p q) = operated Conjunction Conjunction Negation o a b ts us l refl refl (fewest p) (fewest q)
fewest (comparison {ts = ts} {e = e} r) = up Comparison Negation e ts (lit≤ tt) (fewest r)
fewest (not_ {ts = ts} {e = e} r) = prefixed Negation e (not e) (token.Word word.Not) ts refl refl (fewest r)
fewest (sum_ {ts = ts} {e = e} r) = up Sum Comparison e ts (lit≤ tt) (fewest r)
fewest (compare_ {ts = ts} {us = us} {o = o} {a = a} {b = b} l p q) = operated Comparison Sum Sum o a b ts us l refl refl (fewest p) (fewest q)
fewest (is_null_ {ts = ts} {e = e} r) = tested e (is_null e) ts (token.Word word.Is ∷ token.Word word.Null ∷ []) refl refl (fewest r)
fewest (not_null_ {ts = ts} {e = e} r) = tested e (not_null e) ts (token.Word word.Is ∷ token.Word word.Not ∷ token.Word word.Null ∷ []) refl refl (fewest r)
fewest (product {ts = ts} {e = e} r) = up Product Sum e ts (lit≤ tt) (fewest r)
fewest (add_ {ts = ts} {us = us} {o = o} {a = a} {b = b} l p q) = operated Sum Sum Product o a b ts us l refl refl (fewest p) (fewest q)
fewest (factor {ts = ts} {e = e} r) = up Factor Product e ts (lit≤ tt) (fewest r)
fewest (multiply_ {ts = ts} {us = us} {o = o} {a = a} {b = b} l p q) = operated Product Product Factor o a b ts us l refl refl (fewest p) (fewest q)
fewest (primary {ts = ts} {e = e} r) = up Primary Factor e ts (lit≤ tt) (fewest r)
fewest (minus_ {ts = ts} {e = e} r) = prefixed Factor e (neg e) (token.Sign sign.Minus) ts refl refl (fewest r)
fewest (number {n = n}) = single (int n) (token.Number n) refl refl
fewest (string {t = t}) = single (text t) (token.Text t) refl refl
fewest null_ = single null (token.Word word.Null) refl refl
fewest (bind_ {n = n}) = single (bind n) (token.Bind n) refl refl
fewest (name {n = n}) = single (column n) (token.Name n) refl refl
fewest rowid_ = single rowid (token.Word word.Rowid) refl refl
fewest (parentheses {ts = ts} {e = e} r) = in_parentheses e ts (fewest r)

-- ---- lists and clauses

abbrev Few : {A : Type 0} → (List Token → A → Type 0) → (A → List Token) → Type 0
Few {A} Is tokens = (ts : List Token) (x : A) → Is ts x → opened (tokens x) ≤ opened ts

module _ {A : Type 0} (Is : List Token → A → Type 0) (tokens : A → List Token) (few : Few Is tokens) where
  list_few : {ts : List Token} {xs : List A} → Joined Is ts xs → opened (joined tokens xs) ≤ opened ts
  list_few (g.last {ts = ts} {x = x} r) = omega (arith, few ts x r, opened_both (tokens x) [])
  list_few (g.more {ts = ts} {us = us} {x = x} {xs = xs} r j) = omega (arith, few ts x r, list_few j, opened_both ts (token.Sign sign.Comma ∷ us), opened_both (tokens x) (flat_map (λ y. token.Sign sign.Comma ∷ tokens y) xs), ap opened (further tokens j))

whole_few : Few IsExpression whole
whole_few ts e r = fewest r

name_few : {ts : List Token} {n : List ℕ} → IsName ts n → opened (name_tokens n) ≤ opened ts
name_few g.name = omega arith

key_few : {ts : List Token} {k : Key Name} → IsKey ts k → opened (key_tokens k) ≤ opened ts
key_few g.plain = omega arith
key_few g.ascending = omega arith
key_few g.descending = omega arith

call_few : (k : Keyword) (ts : List Token) (e : Term Name) → IsExpression ts e → opened (called (token.Word k) e) ≤ opened (token.Word k ∷ token.Sign sign.Open ∷ (ts ++ token.Sign sign.Close ∷ []))
call_few k ts e r = omega (arith, fewest r, opened_both ts (token.Sign sign.Close ∷ []), opened_both (whole e) (token.Sign sign.Close ∷ []))

aggregate_few : {ts : List Token} {x : Total Name} → IsAggregate ts x → opened (aggregate_tokens x) ≤ opened ts
aggregate_few g.count_ = omega arith
aggregate_few (g.sum_ {ts = ts} {e = e} r) = call_few word.Sum ts e r
aggregate_few (g.min_ {ts = ts} {e = e} r) = call_few word.Min ts e r
aggregate_few (g.max_ {ts = ts} {e = e} r) = call_few word.Max ts e r

input_few : {ts : List Token} {x : Entry Name} → IsInput ts x → opened (given_tokens x) ≤ opened ts
input_few (g.value_ r) = fewest r
input_few g.next_ = omega arith

setting_few : {ts : List Token} {x : Change Name} → IsSetting ts x → opened (assignment_tokens x) ≤ opened ts
setting_few (g.set_ r) = omega (arith, fewest r)

where_few : {ts : List Token} {x : Option (Term Name)} → IsWhere ts x → opened (where_tokens x) ≤ opened ts
where_few g.all_ = omega arith
where_few (g.where_ r) = omega (arith, fewest r)

keys_few : {ts : List Token} {keys : List (Key Name)} → Joined IsKey ts keys → opened (order_tokens keys) ≤ opened (joined key_tokens keys)
keys_few (g.last r) = omega arith
keys_few (g.more r j) = omega arith

order_few : {ts : List Token} {x : List (Key Name)} → IsOrder ts x → opened (order_tokens x) ≤ opened ts
order_few g.by_row = omega arith
order_few (g.by_keys l) = omega (arith, keys_few l.0, list_few IsKey key_tokens (λ us x h. key_few h) l.0)

for_update_few : {ts : List Token} {x : Bool} → IsForUpdate ts x → opened (for_update_tokens x) ≤ opened ts
for_update_few g.free = omega arith
for_update_few g.held = omega arith

selection_few : {ts : List Token} {x : Asked Name} → IsSelection ts x → opened (selection_tokens x) ≤ opened ts
selection_few g.star = omega arith
selection_few (g.list l) = list_few IsExpression whole whole_few l.0

columns_few : {ts : List Token} {x : Option (List (List ℕ))} → IsColumns ts x → opened (columns_tokens x) ≤ opened ts
columns_few g.all_ = omega arith
columns_few (g.some_ {ts = ts} {names = names} l) = omega (arith, list_few IsName name_tokens (λ us x h. name_few h) l.0, opened_both ts (token.Sign sign.Close ∷ []), opened_both (joined name_tokens names) (token.Sign sign.Close ∷ []))

body_few : {ts : List Token} {s : Plan Name} → IsBody ts s → opened (statement_tokens s) ≤ opened ts
body_few (g.select_ {ts = ts} {ws = ws} {os = os} {fs = fs} {items = items} {table = table} {condition = condition} {keys = keys} {for_update = held} i w o f) =
    omega (
      arith,
      selection_few i,
      where_few w,
      order_few o,
      for_update_few f,
      opened_both ts (token.Word word.From ∷ token.Name table ∷ (ws ++ (os ++ fs))),
      opened_both ws (os ++ fs),
      opened_both os fs,
      opened_both (selection_tokens items) (token.Word word.From ∷ token.Name table ∷ (where_tokens condition ++ (order_tokens keys ++ for_update_tokens held))),
      opened_both (where_tokens condition) (order_tokens keys ++ for_update_tokens held),
      opened_both (order_tokens keys) (for_update_tokens held),
    )
body_few (g.aggregate_ {ts = ts} {ws = ws} {items = items} {table = table} {condition = condition} l w) =
    omega (
      arith,
      list_few IsAggregate aggregate_tokens (λ us x h. aggregate_few h) l.0,
      where_few w,
      opened_both ts (token.Word word.From ∷ token.Name table ∷ ws),
      opened_both (joined aggregate_tokens items) (token.Word word.From ∷ token.Name table ∷ (where_tokens condition ++ [])),
      opened_both (where_tokens condition) [],
    )
body_few g.draw_ = omega arith
body_few (g.insert_ {cs = cs} {is = is} {table = table} {names = names} {inputs = inputs} c l) =
    omega (
      arith,
      columns_few c,
      list_few IsInput given_tokens (λ us x h. input_few h) l.0,
      opened_both cs (token.Word word.Values ∷ token.Sign sign.Open ∷ (is ++ token.Sign sign.Close ∷ [])),
      opened_both is (token.Sign sign.Close ∷ []),
      opened_both (columns_tokens names) (inputs_tokens inputs),
      opened_both (joined given_tokens inputs) (token.Sign sign.Close ∷ []),
    )
body_few (g.update_ {ss = ss} {ws = ws} {table = table} {settings = settings} {condition = condition} l w) =
    omega (arith, list_few IsSetting assignment_tokens (λ us x h. setting_few h) l.0, where_few w, opened_both ss ws, opened_both (joined assignment_tokens settings) (where_tokens condition))
body_few (g.delete_ w) = omega (arith, where_few w)
body_few g.commit_ = omega arith
body_few g.rollback_ = omega arith
body_few g.set_read_only_ = omega arith
body_few g.savepoint_ = omega arith
body_few g.rollback_to_ = omega arith
body_few g.rollback_to_savepoint_ = omega arith

pub statement_few : {ts : List Token} {s : Plan Name} → IsStatementOf ts s → opened (statement_tokens s) ≤ opened ts
statement_few (g.bare b) = body_few b
statement_few (g.ended {ts = ts} b) = omega (arith, body_few b, opened_both ts (token.Sign sign.Semicolon ∷ []))
