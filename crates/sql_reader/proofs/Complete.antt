-- What is of the grammar is read.
use Rattle.std.proofs.Common.{◌≡◌, ℕ, zero, suc, ◌<◌, ◌≤◌, Bool, true, List, [], ◌∷◌, ◌++◌, length, Some, refl, sym, ap, ◌∙◌, arith, append_assoc, length-append, lit<, false, Option, None, subst}
use Rattle.std.specs.Prelude.{Result, Ok, Err, IfOk}
use Rattle.sql_tree.specs.declared.tree.Op.{Op}
use Rattle.sql_reader.specs.declared.part.Part.{Part}
use Rattle.sql_reader.specs.declared.part.Part.TheVariants.{Disjunction, Conjunction, Negation, Comparison, Sum, Product, Factor, Primary}
use Rattle.desk_values.specs.declared.keyword.Keyword.TheVariants as word
use Rattle.sql_reader.specs.declared.token.Sign.TheVariants as sign
use Rattle.sql_reader.specs.declared.token.Token.{Token}
use Rattle.sql_reader.specs.declared.token.Token.TheVariants as token
use Rattle.sql_tree.specs.Plain.{Term, neg, not, bin, is_null, not_null, Name, Total, Entry, Change, Asked, columns, values, totals, Plan, select, next, insert, update, delete, rollback, savepoint, rollback_to, plan_of}
use Rattle.sql_reader.specs.Grammar.{looseness, line_of, operator_token, Parses, conjunction, or_, negation, and_, comparison, not_, sum_, compare_, is_null_, not_null_, product, add_, factor, multiply_, primary, minus_, number, string, null_, bind_, name, rowid_, parentheses, IsExpression, Joined, IsList, IsName, IsKey, IsAggregate, IsInput, IsSetting, IsWhere, IsOrder, IsForUpdate, IsSelection, IsColumns, IsBody, IsStatementOf}
use Rattle.sql_reader.specs.Reading.{after_word, operator_at, more_at, chain_at, null_test, primary_in, factor_in, compared_in, comparison_in, negation_in, inner_at, part_at, expression_at, after_sign, list_at, name_at, key_at, enclosed_at, counted_at, aggregate_at, draw_at, input_at, setting_at, where_at, order_at, for_update_at, from_at, is_aggregate_word, begins_aggregate, aggregates_at, rows_at, listed_at, dual_at, items_at, select_at, columns_at, inputs_at, insert_at, update_at, delete_at, set_at, to_at, rollback_at, savepoint_at, body_at, without_semicolon, only_if_empty, statement_at, statement_of, scanned}
use Rattle.sql_reader.proofs.Firsts.{after_word_self, after_sign_self, operator_complete, operator_none, rank, rank_operator, no_is, begins_primary, begins_factor, begins_negation, no_minus, no_not, factor_from_primary, negation_from_factor}
use Rattle.std.specs.List.{list_all}
use Rattle.std.proofs.lemmas.Bool.{and_from, and_parts}
use Rattle.sql_tree.specs.declared.tree.Op.TheVariants as op
use Rattle.sql_tree.specs.declared.tree.Key.{Key}
use Rattle.sql_reader.specs.Grammar as g
use Rattle.std.proofs.lemmas.List.{append-nil}
use Rattle.std.proofs.lemmas.Option.{same_Some}
use Rattle.desk_values.specs.declared.keyword.Keyword.{Keyword}
use Rattle.desk_values.specs.Keyword.{same_keyword}
use Rattle.sql_reader.specs.declared.error.SqlErr.{SqlErr}
use Rattle.sql_tree.specs.declared.tree.Statement.{Statement}
use Rattle.sql_reader.specs.Spelling.{Spells, IsStatement, Returns}
use Rattle.sql_reader.proofs.Options.{bind_then}
use Rattle.sql_reader.proofs.Scanning.{scan_sound, scan_complete}
use Rattle.sql_reader.proofs.Sound.{statement_sound}

-- ---- What is an expression is read as one.

-- ---- the first token of an expression

abbrev pub begins_part : Part → Token → Bool
begins_part Primary t = begins_primary t
begins_part Factor t = begins_factor t
begins_part Product t = begins_factor t
begins_part Sum t = begins_factor t
begins_part Comparison t = begins_factor t
begins_part Negation t = begins_negation t
begins_part Conjunction t = begins_negation t
begins_part Disjunction t = begins_negation t

pub record Begins (part : Part) (ts : List Token) : Type 0 where
  pub first : Token
  pub others : List Token
  pub is : ts ≡ first ∷ others
  pub fits : begins_part part first ≡ true

begins_more : (part : Part) (ts us : List Token) → Begins part ts → Begins part (ts ++ us)
begins_more part ts us b = record { first = b.first; others = b.others ++ us; is = ap (λ (x : List Token). x ++ us) b.is; fits = b.fits }

looser : (part below : Part) (ts : List Token) → ((t : Token) → begins_part below t ≡ true → begins_part part t ≡ true) → Begins below ts → Begins part ts
looser part below ts rule b = record { first = b.first; others = b.others; is = b.is; fits = rule b.first b.fits }

single : (part : Part) (t : Token) (ts : List Token) → begins_part part t ≡ true → Begins part (t ∷ ts)
single part t ts h = record { first = t; others = ts; is = refl; fits = h }

pub begins : {part : Part} {d : ℕ} {ts : List Token} {e : Term Name} → Parses part d ts e → Begins part ts
begins (conjunction {ts = ts} r) = looser Disjunction Conjunction ts (λ t h. h) (begins r)
begins (or_ {ts = ts} {us = us} {o = o} line l r) = begins_more Disjunction ts (operator_token o ∷ us) (begins l)
begins (negation {ts = ts} r) = looser Conjunction Negation ts (λ t h. h) (begins r)
begins (and_ {ts = ts} {us = us} {o = o} line l r) = begins_more Conjunction ts (operator_token o ∷ us) (begins l)
begins (comparison {ts = ts} r) = looser Negation Comparison ts (λ t h. negation_from_factor t h) (begins r)
begins (not_ {ts = ts} r) = single Negation (token.Word word.Not) ts refl
begins (sum_ {ts = ts} r) = looser Comparison Sum ts (λ t h. h) (begins r)
begins (compare_ {ts = ts} {us = us} {o = o} line l r) = begins_more Comparison ts (operator_token o ∷ us) (looser Comparison Sum ts (λ t h. h) (begins l))
begins (is_null_ {ts = ts} r) = begins_more Comparison ts (token.Word word.Is ∷ token.Word word.Null ∷ []) (looser Comparison Sum ts (λ t h. h) (begins r))
begins (not_null_ {ts = ts} r) = begins_more Comparison ts (token.Word word.Is ∷ token.Word word.Not ∷ token.Word word.Null ∷ []) (looser Comparison Sum ts (λ t h. h) (begins r))
begins (product {ts = ts} r) = looser Sum Product ts (λ t h. h) (begins r)
begins (add_ {ts = ts} {us = us} {o = o} line l r) = begins_more Sum ts (operator_token o ∷ us) (begins l)
begins (factor {ts = ts} r) = looser Product Factor ts (λ t h. h) (begins r)
begins (multiply_ {ts = ts} {us = us} {o = o} line l r) = begins_more Product ts (operator_token o ∷ us) (begins l)
begins (primary {ts = ts} r) = looser Factor Primary ts (λ t h. factor_from_primary t h) (begins r)
begins (minus_ {ts = ts} r) = single Factor (token.Sign sign.Minus) ts refl
begins (number {n = n}) = single Primary (token.Number n) [] refl
begins (string {t = t}) = single Primary (token.Text t) [] refl
begins null_ = single Primary (token.Word word.Null) [] refl
begins (bind_ {n = n}) = single Primary (token.Bind n) [] refl
begins (name {n = n}) = single Primary (token.Name n) [] refl
begins rowid_ = single Primary (token.Word word.Rowid) [] refl
begins (parentheses {ts = ts} r) = single Primary (token.Sign sign.Open) (ts ++ token.Sign sign.Close ∷ []) refl

-- ---- what is read

-- the part is read where nothing that binds as tightly follows
abbrev Plain : Part → ℕ → List Token → Term Name → Type 0
Plain part d ts e = (rest : List Token) → looseness part < rank rest → part_at d part (ts ++ rest) ≡ Some (e, rest)

-- a line was read so far
record Line (line below : Part) (d : ℕ) (ts : List Token) (e : Term Name) (rest : List Token) : Type 0 where
  fuel : ℕ
  enough : length rest ≤ fuel
  read : part_at d line (ts ++ rest) ≡ more_at (part_at d below) line fuel e rest

abbrev Chained : Part → Part → ℕ → List Token → Term Name → Type 0
Chained line below d ts e = (rest : List Token) → looseness below < rank rest → Line line below d ts e rest

-- a line reads its operands, and then more of them
abbrev IsLine : Part → Part → Type 0
IsLine line below = (d : ℕ) (ts : List Token) → part_at d line ts ≡ chain_at (part_at d below) line ts

disjunction_line : IsLine Disjunction Conjunction
unfolding part_at
disjunction_line d ts = refl

conjunction_line : IsLine Conjunction Negation
unfolding part_at
conjunction_line d ts = refl

sum_line : IsLine Sum Product
unfolding part_at
sum_line d ts = refl

product_line : IsLine Product Factor
unfolding part_at
product_line d ts = refl

module _ (line below : Part) (is_line : IsLine line below) (tighter : looseness below < looseness line) where
  chain_starts : (d : ℕ) (ts rest : List Token) (e : Term Name) → part_at d below (ts ++ rest) ≡ Some (e, rest) → chain_at (part_at d below) line (ts ++ rest) ≡ more_at (part_at d below) line (length (ts ++ rest)) e rest
  unfolding chain_at
  chain_starts d ts rest e h = rw h refl

  starts : (d : ℕ) (ts : List Token) (e : Term Name) → Plain below d ts e → Chained line below d ts e
  starts d ts e p rest h = record { fuel = length (ts ++ rest); enough = omega (arith, length-append ts rest); read = is_line d (ts ++ rest) ∙ chain_starts d ts rest e (p rest h) }

  one_more : (d n : ℕ) (o : Op) (a b : Term Name) (us rest : List Token) → line_of o ≡ line → part_at d below (us ++ rest) ≡ Some (b, rest) → more_at (part_at d below) line (suc n) a (operator_token o ∷ (us ++ rest)) ≡ more_at (part_at d below) line n (bin o a b) rest
  one_more d n o a b us rest l h = rw (operator_complete line o (us ++ rest) l, h) refl

  linked : (d : ℕ) (ts us : List Token) (o : Op) (a b : Term Name) (rest : List Token) → line_of o ≡ line → (n : ℕ) → length (operator_token o ∷ (us ++ rest)) ≤ n → part_at d line (ts ++ (operator_token o ∷ (us ++ rest))) ≡ more_at (part_at d below) line n a (operator_token o ∷ (us ++ rest)) → part_at d below (us ++ rest) ≡ Some (b, rest) → Line line below d (ts ++ operator_token o ∷ us) (bin o a b) rest
  linked d ts us o a b rest l zero enough read h = absurd (omega arith)
  linked d ts us o a b rest l (suc n) enough read h = record {
    fuel = n;
    enough = omega (arith, length-append us rest);
    read = ap (λ (x : List Token). part_at d line x) (append_assoc ts (operator_token o ∷ us) rest) ∙ read ∙ one_more d n o a b us rest l h;
  }

  links : (d : ℕ) (ts us : List Token) (o : Op) (a b : Term Name) → line_of o ≡ line → Chained line below d ts a → Plain below d us b → Chained line below d (ts ++ operator_token o ∷ us) (bin o a b)
  links d ts us o a b l c p rest h =
      let k = c (operator_token o ∷ (us ++ rest)) (rw (rank_operator o (us ++ rest), l) tighter) in
      linked d ts us o a b rest l k.fuel k.enough k.read (p rest h)

  no_more : (d n : ℕ) (e : Term Name) (rest : List Token) → looseness line < rank rest → more_at (part_at d below) line n e rest ≡ Some (e, rest)
  no_more d zero e rest h = refl
  no_more d (suc n) e rest h = rw (operator_none line rest h) refl

  ends : (d : ℕ) (ts : List Token) (e : Term Name) → Chained line below d ts e → Plain line d ts e
  ends d ts e c rest h = (let k = c rest (omega arith) in k.read ∙ no_more d k.fuel e rest h)

-- ---- the other parts

factor_primary : (d : ℕ) (t : Token) (more : List Token) → begins_primary t ≡ true → part_at d Factor (t ∷ more) ≡ part_at d Primary (t ∷ more)
unfolding part_at factor_in
factor_primary d t more h = rw (no_minus t more h) refl

negation_comparison : (d : ℕ) (t : Token) (more : List Token) → begins_factor t ≡ true → part_at d Negation (t ∷ more) ≡ part_at d Comparison (t ∷ more)
unfolding part_at negation_in
negation_comparison d t more h = rw (no_not t more h) refl

minus_complete : (d : ℕ) (more : List Token) (e : Term Name) (rest : List Token) → part_at d Factor more ≡ Some (e, rest) → part_at (suc d) Factor (token.Sign sign.Minus ∷ more) ≡ Some (neg e, rest)
unfolding part_at factor_in inner_at
minus_complete d more e rest h = rw (after_sign_self sign.Minus more, h) refl

not_complete : (d : ℕ) (more : List Token) (e : Term Name) (rest : List Token) → part_at d Negation more ≡ Some (e, rest) → part_at (suc d) Negation (token.Word word.Not ∷ more) ≡ Some (not e, rest)
unfolding part_at negation_in inner_at
not_complete d more e rest h = rw (after_word_self word.Not more, h) refl

parentheses_complete : (d : ℕ) (more : List Token) (e : Term Name) (rest : List Token) → part_at d Disjunction more ≡ Some (e, token.Sign sign.Close ∷ rest) → part_at (suc d) Primary (token.Sign sign.Open ∷ more) ≡ Some (e, rest)
unfolding part_at primary_in inner_at
parentheses_complete d more e rest h = rw (h, after_sign_self sign.Close rest) refl

compared : (d : ℕ) (ts : List Token) (a : Term Name) (after : List Token) → part_at d Sum ts ≡ Some (a, after) → part_at d Comparison ts ≡ compared_in (inner_at d) a after
unfolding part_at comparison_in
compared d ts a after h = rw h refl

sum_alone : (d : ℕ) (a : Term Name) (rest : List Token) → 4 < rank rest → compared_in (inner_at d) a rest ≡ Some (a, rest)
unfolding compared_in
sum_alone d a rest h = rw (operator_none Comparison rest h, no_is rest h) refl

sum_compared : (d : ℕ) (a : Term Name) (o : Op) (us : List Token) (b : Term Name) (rest : List Token) → line_of o ≡ Comparison → part_at d Sum us ≡ Some (b, rest) → compared_in (inner_at d) a (operator_token o ∷ us) ≡ Some (bin o a b, rest)
unfolding compared_in part_at
sum_compared d a o us b rest l h = rw (operator_complete Comparison o us l, h) refl

sum_is_null : (d : ℕ) (a : Term Name) (rest : List Token) → compared_in (inner_at d) a (token.Word word.Is ∷ token.Word word.Null ∷ rest) ≡ Some (is_null a, rest)
unfolding compared_in null_test operator_at after_word
sum_is_null d a rest = refl

sum_not_null : (d : ℕ) (a : Term Name) (rest : List Token) → compared_in (inner_at d) a (token.Word word.Is ∷ token.Word word.Not ∷ token.Word word.Null ∷ rest) ≡ Some (not_null a, rest)
unfolding compared_in null_test operator_at after_word
sum_not_null d a rest = refl

at_first : (d : ℕ) (part below : Part) (ts rest : List Token) (e : Term Name) (b : Begins below ts) → ((more : List Token) → part_at d part (b.first ∷ more) ≡ part_at d below (b.first ∷ more)) → part_at d below (ts ++ rest) ≡ Some (e, rest) → part_at d part (ts ++ rest) ≡ Some (e, rest)
at_first d part below ts rest e b rule h =
    let is : ts ++ rest ≡ b.first ∷ (b.others ++ rest) = ap (λ (x : List Token). x ++ rest) b.is in
    ap (λ (x : List Token). part_at d part x) is ∙ rule (b.others ++ rest) ∙ sym (ap (λ (x : List Token). part_at d below x) is) ∙ h

factor_plain : (d : ℕ) (ts : List Token) (e : Term Name) → Begins Primary ts → Plain Primary d ts e → Plain Factor d ts e
factor_plain d ts e b p rest h = at_first d Factor Primary ts rest e b (λ more. factor_primary d b.first more b.fits) (p rest (omega arith))

negation_plain : (d : ℕ) (ts : List Token) (e : Term Name) → Begins Comparison ts → Plain Comparison d ts e → Plain Negation d ts e
negation_plain d ts e b p rest h = at_first d Negation Comparison ts rest e b (λ more. negation_comparison d b.first more b.fits) (p rest (omega arith))

comparison_plain : (d : ℕ) (ts : List Token) (e : Term Name) → Plain Sum d ts e → Plain Comparison d ts e
comparison_plain d ts e p rest h = compared d (ts ++ rest) e rest (p rest (omega arith)) ∙ sum_alone d e rest h

compare_plain : (d : ℕ) (ts us : List Token) (o : Op) (a b : Term Name) → line_of o ≡ Comparison → Plain Sum d ts a → Plain Sum d us b → Plain Comparison d (ts ++ operator_token o ∷ us) (bin o a b)
compare_plain d ts us o a b l p q rest h =
    let follows : looseness Sum < rank (operator_token o ∷ (us ++ rest)) = rw (rank_operator o (us ++ rest), l) (lit< tt) in
    ap (λ (x : List Token). part_at d Comparison x) (append_assoc ts (operator_token o ∷ us) rest) ∙ compared d (ts ++ operator_token o ∷ (us ++ rest)) a (operator_token o ∷ (us ++ rest)) (p (operator_token o ∷ (us ++ rest)) follows) ∙ sum_compared d a o (us ++ rest) b rest l (q rest (omega arith))

null_plain : (d : ℕ) (ts : List Token) (a : Term Name) → Plain Sum d ts a → Plain Comparison d (ts ++ token.Word word.Is ∷ token.Word word.Null ∷ []) (is_null a)
null_plain d ts a p rest h =
    ap (λ (x : List Token). part_at d Comparison x) (append_assoc ts (token.Word word.Is ∷ token.Word word.Null ∷ []) rest) ∙ compared d (ts ++ token.Word word.Is ∷ token.Word word.Null ∷ rest) a (token.Word word.Is ∷ token.Word word.Null ∷ rest) (p (token.Word word.Is ∷ token.Word word.Null ∷ rest) (lit< tt)) ∙ sum_is_null d a rest

not_null_plain : (d : ℕ) (ts : List Token) (a : Term Name) → Plain Sum d ts a → Plain Comparison d (ts ++ token.Word word.Is ∷ token.Word word.Not ∷ token.Word word.Null ∷ []) (not_null a)
not_null_plain d ts a p rest h =
    ap (λ (x : List Token). part_at d Comparison x) (append_assoc ts (token.Word word.Is ∷ token.Word word.Not ∷ token.Word word.Null ∷ []) rest) ∙ compared d (ts ++ token.Word word.Is ∷ token.Word word.Not ∷ token.Word word.Null ∷ rest) a (token.Word word.Is ∷ token.Word word.Not ∷ token.Word word.Null ∷ rest) (p (token.Word word.Is ∷ token.Word word.Not ∷ token.Word word.Null ∷ rest) (lit< tt)) ∙ sum_not_null d a rest

parentheses_plain : (d : ℕ) (ts : List Token) (e : Term Name) → Plain Disjunction d ts e → Plain Primary (suc d) (token.Sign sign.Open ∷ (ts ++ token.Sign sign.Close ∷ [])) e
parentheses_plain d ts e p rest h = parentheses_complete d ((ts ++ token.Sign sign.Close ∷ []) ++ rest) e rest (ap (λ (x : List Token). part_at d Disjunction x) (append_assoc ts (token.Sign sign.Close ∷ []) rest) ∙ p (token.Sign sign.Close ∷ rest) (lit< tt))

-- what is proved of each part
abbrev Complete : Part → ℕ → List Token → Term Name → Type 0
Complete Disjunction d ts e = Chained Disjunction Conjunction d ts e
Complete Conjunction d ts e = Chained Conjunction Negation d ts e
Complete Negation d ts e = Plain Negation d ts e
Complete Comparison d ts e = Plain Comparison d ts e
Complete Sum d ts e = Chained Sum Product d ts e
Complete Product d ts e = Chained Product Factor d ts e
Complete Factor d ts e = Plain Factor d ts e
Complete Primary d ts e = Plain Primary d ts e

sum_ends : (d : ℕ) (ts : List Token) (e : Term Name) → Chained Sum Product d ts e → Plain Sum d ts e
sum_ends d ts e c = ends Sum Product sum_line (lit< tt) d ts e c

disjunction_ends : (d : ℕ) (ts : List Token) (e : Term Name) → Chained Disjunction Conjunction d ts e → Plain Disjunction d ts e
disjunction_ends d ts e c = ends Disjunction Conjunction disjunction_line (lit< tt) d ts e c

complete : {part : Part} {d : ℕ} {ts : List Token} {e : Term Name} → Parses part d ts e → Complete part d ts e
unfolding part_at primary_in
complete (conjunction {d = d} {ts = ts} {e = e} r) = starts Disjunction Conjunction disjunction_line (lit< tt) d ts e (ends Conjunction Negation conjunction_line (lit< tt) d ts e (complete r))
complete (or_ {d = d} {ts = ts} {us = us} {o = o} {a = a} {b = b} l p q) = links Disjunction Conjunction disjunction_line (lit< tt) d ts us o a b l (complete p) (ends Conjunction Negation conjunction_line (lit< tt) d us b (complete q))
complete (negation {d = d} {ts = ts} {e = e} r) = starts Conjunction Negation conjunction_line (lit< tt) d ts e (complete r)
complete (and_ {d = d} {ts = ts} {us = us} {o = o} {a = a} {b = b} l p q) = links Conjunction Negation conjunction_line (lit< tt) d ts us o a b l (complete p) (complete q)
complete (comparison {d = d} {ts = ts} {e = e} r) = negation_plain d ts e (begins r) (complete r)
complete (not_ {d = d} {ts = ts} {e = e} r) = λ rest h. not_complete d (ts ++ rest) e rest (complete r rest h)
complete (sum_ {d = d} {ts = ts} {e = e} r) = comparison_plain d ts e (sum_ends d ts e (complete r))
complete (compare_ {d = d} {ts = ts} {us = us} {o = o} {a = a} {b = b} l p q) = compare_plain d ts us o a b l (sum_ends d ts a (complete p)) (sum_ends d us b (complete q))
complete (is_null_ {d = d} {ts = ts} {e = e} r) = null_plain d ts e (sum_ends d ts e (complete r))
complete (not_null_ {d = d} {ts = ts} {e = e} r) = not_null_plain d ts e (sum_ends d ts e (complete r))
complete (product {d = d} {ts = ts} {e = e} r) = starts Sum Product sum_line (lit< tt) d ts e (ends Product Factor product_line (lit< tt) d ts e (complete r))
complete (add_ {d = d} {ts = ts} {us = us} {o = o} {a = a} {b = b} l p q) = links Sum Product sum_line (lit< tt) d ts us o a b l (complete p) (ends Product Factor product_line (lit< tt) d us b (complete q))
complete (factor {d = d} {ts = ts} {e = e} r) = starts Product Factor product_line (lit< tt) d ts e (complete r)
complete (multiply_ {d = d} {ts = ts} {us = us} {o = o} {a = a} {b = b} l p q) = links Product Factor product_line (lit< tt) d ts us o a b l (complete p) (complete q)
complete (primary {d = d} {ts = ts} {e = e} r) = factor_plain d ts e (begins r) (complete r)
complete (minus_ {d = d} {ts = ts} {e = e} r) = λ rest h. minus_complete d (ts ++ rest) e rest (complete r rest h)
complete number = λ rest h. refl
complete string = λ rest h. refl
complete null_ = λ rest h. refl
complete bind_ = λ rest h. refl
complete name = λ rest h. refl
complete rowid_ = λ rest h. refl
complete (parentheses {d = d} {ts = ts} {e = e} r) = parentheses_plain d ts e (disjunction_ends d ts e (complete r))

pub expression_complete : (ts : List Token) (e : Term Name) (rest : List Token) → IsExpression ts e → 7 < rank rest → expression_at (ts ++ rest) ≡ Some (e, rest)
expression_complete ts e rest r h = disjunction_ends 32 ts e (complete r) rest h

-- ---- What is a statement is read as one.

-- ---- what may follow

-- none of these goes on a clause
pub record Ends (rest : List Token) : Type 0 where
  pub free : 7 < rank rest
  pub no_comma : after_sign sign.Comma rest ≡ None
  pub no_dot : after_sign sign.Dot rest ≡ None
  pub no_asc : after_word word.Asc rest ≡ None
  pub no_desc : after_word word.Desc rest ≡ None

-- the same of a member, which a comma may follow
pub record Stops (rest : List Token) : Type 0 where
  pub free : 7 < rank rest
  pub no_dot : after_sign sign.Dot rest ≡ None
  pub no_asc : after_word word.Asc rest ≡ None
  pub no_desc : after_word word.Desc rest ≡ None

stops : (rest : List Token) → Ends rest → Stops rest
stops rest e = record { free = e.free; no_dot = e.no_dot; no_asc = e.no_asc; no_desc = e.no_desc }

stops_comma : (rest : List Token) → Stops (token.Sign sign.Comma ∷ rest)
unfolding after_word after_sign
stops_comma rest = record { free = lit< tt; no_dot = refl; no_asc = refl; no_desc = refl }

pub ends_close : (rest : List Token) → Ends (token.Sign sign.Close ∷ rest)
unfolding after_word after_sign
ends_close rest = record { free = lit< tt; no_comma = refl; no_dot = refl; no_asc = refl; no_desc = refl }

pub ends_word : (k : Keyword) (rest : List Token) → same_keyword k word.Asc ≡ false → same_keyword k word.Desc ≡ false → 7 < rank (token.Word k ∷ rest) → Ends (token.Word k ∷ rest)
unfolding after_word after_sign
ends_word k rest a d free = record { free = free; no_comma = refl; no_dot = refl; no_asc = rw a refl; no_desc = rw d refl }

-- the end of a statement
pub data Final : List Token → Type 0 where
  nothing : Final []
  semicolon : Final (token.Sign sign.Semicolon ∷ [])

pub ends_final : {rest : List Token} → Final rest → Ends rest
unfolding after_word after_sign
ends_final nothing = record { free = lit< tt; no_comma = refl; no_dot = refl; no_asc = refl; no_desc = refl }
ends_final semicolon = record { free = lit< tt; no_comma = refl; no_dot = refl; no_asc = refl; no_desc = refl }

pub no_word_final : (k : Keyword) {rest : List Token} → Final rest → after_word k rest ≡ None
unfolding after_word
no_word_final k nothing = refl
no_word_final k semicolon = refl

-- ---- members

abbrev pub CompleteOf : {A : Type 0} → (List Token → Option (A × List Token)) → (List Token → A → Type 0) → Type 0
CompleteOf {A} read Is = (ts : List Token) (x : A) (rest : List Token) → Is ts x → Stops rest → read (ts ++ rest) ≡ Some (x, rest)

pub expression_again : CompleteOf expression_at IsExpression
expression_again ts e rest r h = expression_complete ts e rest r h.free

pub name_at_name : (n : List ℕ) (rest : List Token) → name_at (token.Name n ∷ rest) ≡ Some (n, rest)
unfolding name_at
name_at_name n rest = refl

name_one : {ts : List Token} {n : List ℕ} → IsName ts n → (rest : List Token) → name_at (ts ++ rest) ≡ Some (n, rest)
name_one (g.name {n = n}) rest = name_at_name n rest

pub name_again : CompleteOf name_at IsName
name_again ts n rest r h = name_one r rest

ascending_key : {n : List ℕ} (rest : List Token) → key_at (token.Name n ∷ token.Word word.Asc ∷ rest) ≡ Some (record { column = n; desc = false }, rest)
unfolding key_at name_at after_word
ascending_key rest = refl

key_one : {ts : List Token} {k : Key Name} → IsKey ts k → (rest : List Token) → Stops rest → key_at (ts ++ rest) ≡ Some (k, rest)
unfolding key_at name_at
key_one g.plain rest h = rw (h.no_desc, h.no_asc) refl
key_one g.ascending rest h = ascending_key rest
key_one g.descending rest h = rw (after_word_self word.Desc rest) refl

key_again : CompleteOf key_at IsKey
key_again ts k rest r h = key_one r rest h

enclosed_again : (ts : List Token) (e : Term Name) (rest : List Token) → IsExpression ts e → enclosed_at (token.Sign sign.Open ∷ ((ts ++ token.Sign sign.Close ∷ []) ++ rest)) ≡ Some (e, rest)
unfolding enclosed_at
enclosed_again ts e rest r =
    let inside : (ts ++ token.Sign sign.Close ∷ []) ++ rest ≡ ts ++ token.Sign sign.Close ∷ rest = append_assoc ts (token.Sign sign.Close ∷ []) rest in
    rw (after_sign_self sign.Open ((ts ++ token.Sign sign.Close ∷ []) ++ rest), inside, expression_complete ts e (token.Sign sign.Close ∷ rest) r (lit< tt), after_sign_self sign.Close rest) refl

aggregate_one : {ts : List Token} {a : Total Name} → IsAggregate ts a → (rest : List Token) → aggregate_at (ts ++ rest) ≡ Some (a, rest)
unfolding aggregate_at counted_at after_sign
aggregate_one g.count_ rest = refl
aggregate_one (g.sum_ {ts = ts} {e = e} r) rest = rw (enclosed_again ts e rest r) refl
aggregate_one (g.min_ {ts = ts} {e = e} r) rest = rw (enclosed_again ts e rest r) refl
aggregate_one (g.max_ {ts = ts} {e = e} r) rest = rw (enclosed_again ts e rest r) refl

pub aggregate_again : CompleteOf aggregate_at IsAggregate
aggregate_again ts a rest r h = aggregate_one r rest

-- ---- an expression has no point

abbrev pub not_dot : Token → Bool
not_dot (token.Sign sign.Dot) = false
not_dot other = true

both : (ts us : List Token) → list_all not_dot ts ≡ true → list_all not_dot us ≡ true → list_all not_dot (ts ++ us) ≡ true
both [] us a b = b
both (t ∷ ts) us a b = (let p = and_parts (not_dot t) (list_all not_dot ts) a in and_from _ _ p.0 (both ts us p.1 b))

operator_no_dot : (o : Op) → not_dot (operator_token o) ≡ true
operator_no_dot op.Or = refl
operator_no_dot other = refl

around : (ts us : List Token) (o : Op) → list_all not_dot ts ≡ true → list_all not_dot us ≡ true → list_all not_dot (ts ++ operator_token o ∷ us) ≡ true
around ts us o a b = both ts (operator_token o ∷ us) a (and_from _ _ (operator_no_dot o) b)

no_dots : {part : Part} {d : ℕ} {ts : List Token} {e : Term Name} → Parses part d ts e → list_all not_dot ts ≡ true
no_dots (g.conjunction r) = no_dots r
no_dots (g.or_ {ts = ts} {us = us} {o = o} l p q) = around ts us o (no_dots p) (no_dots q)
no_dots (g.negation r) = no_dots r
no_dots (g.and_ {ts = ts} {us = us} {o = o} l p q) = around ts us o (no_dots p) (no_dots q)
no_dots (g.comparison r) = no_dots r
no_dots (g.not_ r) = no_dots r
no_dots (g.sum_ r) = no_dots r
no_dots (g.compare_ {ts = ts} {us = us} {o = o} l p q) = around ts us o (no_dots p) (no_dots q)
no_dots (g.is_null_ {ts = ts} r) = both ts (token.Word word.Is ∷ token.Word word.Null ∷ []) (no_dots r) refl
no_dots (g.not_null_ {ts = ts} r) = both ts (token.Word word.Is ∷ token.Word word.Not ∷ token.Word word.Null ∷ []) (no_dots r) refl
no_dots (g.product r) = no_dots r
no_dots (g.add_ {ts = ts} {us = us} {o = o} l p q) = around ts us o (no_dots p) (no_dots q)
no_dots (g.factor r) = no_dots r
no_dots (g.multiply_ {ts = ts} {us = us} {o = o} l p q) = around ts us o (no_dots p) (no_dots q)
no_dots (g.primary r) = no_dots r
no_dots (g.minus_ r) = no_dots r
no_dots g.number = refl
no_dots g.string = refl
no_dots g.null_ = refl
no_dots g.bind_ = refl
no_dots g.name = refl
no_dots g.rowid_ = refl
no_dots (g.parentheses {ts = ts} r) = both ts (token.Sign sign.Close ∷ []) (no_dots r) refl

dot_none : (us rest : List Token) → list_all not_dot us ≡ true → after_sign sign.Dot rest ≡ None → after_sign sign.Dot (us ++ rest) ≡ None
unfolding after_sign
dot_none [] rest h e = e
dot_none (token.Sign sign.Dot ∷ us) rest h e = absurd cc
dot_none (token.Sign s ∷ us) rest h e = refl
dot_none (other ∷ us) rest h e = refl

no_draw_at : (t : Token) (us rest : List Token) → list_all not_dot (t ∷ us) ≡ true → after_sign sign.Dot rest ≡ None → draw_at ((t ∷ us) ++ rest) ≡ None
unfolding draw_at name_at
no_draw_at (token.Name n) us rest h e = rw (dot_none us rest h e) refl
no_draw_at other us rest h e = refl

pub no_draw : (ts : List Token) (e : Term Name) (rest : List Token) → IsExpression ts e → after_sign sign.Dot rest ≡ None → draw_at (ts ++ rest) ≡ None
no_draw ts e rest r h =
    let b = begins r in
    let dots : list_all not_dot (b.first ∷ b.others) ≡ true = subst (λ (z : List Token). list_all not_dot z ≡ true) b.is (no_dots r) in
    ap (λ (z : List Token). draw_at (z ++ rest)) b.is ∙ no_draw_at b.first b.others rest dots h

pub draw_one : (n : List ℕ) (rest : List Token) → draw_at (token.Name n ∷ token.Sign sign.Dot ∷ token.Word word.Nextval ∷ rest) ≡ Some (n, rest)
unfolding draw_at name_at after_sign after_word
draw_one n rest = refl

input_one : {ts : List Token} {i : Entry Name} → IsInput ts i → (rest : List Token) → Stops rest → input_at (ts ++ rest) ≡ Some (i, rest)
unfolding input_at
input_one (g.value_ {ts = ts} {e = e} r) rest h = rw (no_draw ts e rest r h.no_dot, expression_again ts e rest r h) refl
input_one (g.next_ {n = n}) rest h = rw (draw_one n rest) refl

pub input_again : CompleteOf input_at IsInput
input_again ts i rest r h = input_one r rest h

setting_one : {ts : List Token} {s : Change Name} → IsSetting ts s → (rest : List Token) → Stops rest → setting_at (ts ++ rest) ≡ Some (s, rest)
unfolding setting_at name_at
setting_one (g.set_ {n = n} {ts = ts} {e = e} r) rest h = rw (after_sign_self sign.Equal (ts ++ rest), expression_again ts e rest r h) refl

pub setting_again : CompleteOf setting_at IsSetting
setting_again ts s rest r h = setting_one r rest h

-- ---- lists

module _ {A : Type 0} (read : List Token → Option (A × List Token)) (Is : List Token → A → Type 0) (again : CompleteOf read Is) where
  last_member : (n : ℕ) (ts : List Token) (x : A) (rest : List Token) → read ts ≡ Some (x, rest) → after_sign sign.Comma rest ≡ None → list_at read (suc n) ts ≡ Some (x ∷ [], rest)
  unfolding list_at
  last_member n ts x rest e f = rw (e, f) refl

  one_member : (n : ℕ) (ts : List Token) (x : A) (more : List Token) (xs : List A) (rest : List Token) → read ts ≡ Some (x, token.Sign sign.Comma ∷ more) → list_at read n more ≡ Some (xs, rest) → list_at read (suc n) ts ≡ Some (x ∷ xs, rest)
  unfolding list_at
  one_member n ts x more xs rest e f = rw (e, after_sign_self sign.Comma more, f) refl

  members_again : {ts : List Token} {xs : List A} → Joined Is ts xs → (n : ℕ) → length xs ≤ n → (rest : List Token) → Ends rest → list_at read n (ts ++ rest) ≡ Some (xs, rest)
  members_again (g.last r) zero le rest h = absurd (omega arith)
  members_again (g.last {ts = ts} {x = x} r) (suc n) le rest h = last_member n (ts ++ rest) x rest (again ts x rest r (stops rest h)) h.no_comma
  members_again (g.more r j) zero le rest h = absurd (omega arith)
  members_again (g.more {ts = ts} {us = us} {x = x} {xs = xs} r j) (suc n) le rest h =
      one_member n ((ts ++ token.Sign sign.Comma ∷ us) ++ rest) x (us ++ rest) xs rest (ap read (append_assoc ts (token.Sign sign.Comma ∷ us) rest) ∙ again ts x (token.Sign sign.Comma ∷ (us ++ rest)) r (stops_comma (us ++ rest))) (members_again j n (omega arith) rest h)

  pub list_again : (ts : List Token) (xs : List A) (rest : List Token) → IsList Is ts xs → Ends rest → list_at read 16 (ts ++ rest) ≡ Some (xs, rest)
  list_again ts xs rest l h = members_again l.0 16 l.1 rest h

-- ---- clauses

pub where_one : {ws : List Token} {c : Option (Term Name)} → IsWhere ws c → (rest : List Token) → Ends rest → after_word word.Where rest ≡ None → where_at (ws ++ rest) ≡ Some (c, rest)
unfolding where_at
where_one g.all_ rest h none = rw none refl
where_one (g.where_ {ts = ts} {e = e} r) rest h none = rw (after_word_self word.Where (ts ++ rest), expression_again ts e rest r (stops rest h)) refl

pub order_one : {os : List Token} {keys : List (Key Name)} → IsOrder os keys → (rest : List Token) → Ends rest → after_word word.Order rest ≡ None → order_at (os ++ rest) ≡ Some (keys, rest)
unfolding order_at
order_one g.by_row rest h none = rw none refl
order_one (g.by_keys {ts = ts} {keys = keys} l) rest h none = rw (after_word_self word.Order (token.Word word.By ∷ (ts ++ rest)), after_word_self word.By (ts ++ rest)) (list_again key_at IsKey key_again ts keys rest l h)

pub for_update_one : {fs : List Token} {b : Bool} → IsForUpdate fs b → (rest : List Token) → after_word word.For rest ≡ None → for_update_at (fs ++ rest) ≡ Some (b, rest)
unfolding for_update_at
for_update_one g.free rest none = rw none refl
for_update_one g.held rest none = rw (after_word_self word.For (token.Word word.Update ∷ rest), after_word_self word.Update rest) refl

-- what follows a clause
pub held_ends : {fs : List Token} {b : Bool} → IsForUpdate fs b → {rest : List Token} → Final rest → Ends (fs ++ rest)
held_ends g.free f = ends_final f
held_ends g.held {rest} f = ends_word word.For (token.Word word.Update ∷ rest) refl refl (lit< tt)

pub held_no_word : (k : Keyword) → same_keyword word.For k ≡ false → {fs : List Token} {b : Bool} → IsForUpdate fs b → {rest : List Token} → Final rest → after_word k (fs ++ rest) ≡ None
unfolding after_word
held_no_word k e g.free f = no_word_final k f
held_no_word k e g.held f = rw e refl

pub order_ends : {os : List Token} {keys : List (Key Name)} → IsOrder os keys → (rest : List Token) → Ends rest → Ends (os ++ rest)
order_ends g.by_row rest h = h
order_ends (g.by_keys {ts = ts} l) rest h = ends_word word.Order (token.Word word.By ∷ (ts ++ rest)) refl refl (lit< tt)

pub order_no_where : {os : List Token} {keys : List (Key Name)} → IsOrder os keys → (rest : List Token) → after_word word.Where rest ≡ None → after_word word.Where (os ++ rest) ≡ None
unfolding after_word
order_no_where g.by_row rest h = h
order_no_where (g.by_keys l) rest h = refl

pub from_one : (n : List ℕ) (rest : List Token) → from_at (token.Word word.From ∷ token.Name n ∷ rest) ≡ Some (n, rest)
unfolding from_at name_at
from_one n rest = rw (after_word_self word.From (token.Name n ∷ rest)) refl

-- ---- What is a whole statement is read as one.

rows_again : (items : Asked Name) (table : List ℕ) (ws os fs : List Token) (condition : Option (Term Name)) (keys : List (Key Name)) (held : Bool) (rest : List Token) → IsWhere ws condition → IsOrder os keys → IsForUpdate fs held → Final rest → rows_at items (token.Word word.From ∷ token.Name table ∷ (ws ++ (os ++ (fs ++ rest)))) ≡ Some (select table items condition keys held, rest)
unfolding rows_at
rows_again items table ws os fs condition keys held rest w o f final =
    let he = held_ends f final in
    let oe = order_ends o (fs ++ rest) he in
    rw (from_one table (ws ++ (os ++ (fs ++ rest))), where_one w (os ++ (fs ++ rest)) oe (order_no_where o (fs ++ rest) (held_no_word word.Where refl f final)), order_one o (fs ++ rest) he (held_no_word word.Order refl f final), for_update_one f rest (no_word_final word.For final)) refl

aggregates_again : (ts ws : List Token) (items : List (Total Name)) (table : List ℕ) (condition : Option (Term Name)) (rest : List Token) → IsList IsAggregate ts items → IsWhere ws condition → Final rest → aggregates_at (ts ++ token.Word word.From ∷ token.Name table ∷ (ws ++ rest)) ≡ Some (select table (totals items) condition [] false, rest)
unfolding aggregates_at
aggregates_again ts ws items table condition rest l w final =
    rw (list_again aggregate_at IsAggregate aggregate_again ts items (token.Word word.From ∷ token.Name table ∷ (ws ++ rest)) l (ends_word word.From (token.Name table ∷ (ws ++ rest)) refl refl (lit< tt)), from_one table (ws ++ rest), where_one w rest (ends_final final) (no_word_final word.Where final)) refl

listed_again : (ts more : List Token) (es : List (Term Name)) (s : Plan Name) (rest : List Token) → IsList IsExpression ts es → Ends more → rows_at (values es) more ≡ Some (s, rest) → listed_at (ts ++ more) ≡ Some (s, rest)
listed_again ts more es s rest l h e = rw (list_again expression_at IsExpression expression_again ts es more l h, e) refl

-- ---- how items begin

no_star : (t : Token) (rest : List Token) → begins_negation t ≡ true → after_sign sign.Star (t ∷ rest) ≡ None
unfolding after_sign
no_star (token.Sign sign.Star) rest h = absurd cc
no_star (token.Sign s) rest h = refl
no_star other rest h = refl

no_aggregate : (t : Token) (rest : List Token) → begins_negation t ≡ true → begins_aggregate (t ∷ rest) ≡ false
no_aggregate (token.Word word.Count) rest h = absurd cc
no_aggregate (token.Word word.Sum) rest h = absurd cc
no_aggregate (token.Word word.Min) rest h = absurd cc
no_aggregate (token.Word word.Max) rest h = absurd cc
no_aggregate (token.Word k) rest h = refl
no_aggregate other rest h = refl

begins_list : {ts : List Token} {es : List (Term Name)} → Joined IsExpression ts es → Begins Disjunction ts
begins_list (g.last r) = begins r
begins_list (g.more {ts = ts} {us = us} r j) = (let b = begins r in record { first = b.first; others = b.others ++ token.Sign sign.Comma ∷ us; is = ap (λ (z : List Token). z ++ token.Sign sign.Comma ∷ us) b.is; fits = b.fits })

comma_no_dot : (rest : List Token) → after_sign sign.Dot (token.Sign sign.Comma ∷ rest) ≡ None
unfolding after_sign
comma_no_dot rest = refl

no_draw_list : {ts : List Token} {es : List (Term Name)} → Joined IsExpression ts es → (rest : List Token) → after_sign sign.Dot rest ≡ None → draw_at (ts ++ rest) ≡ None
no_draw_list (g.last {ts = ts} {x = e} r) rest h = no_draw ts e rest r h
no_draw_list (g.more {ts = ts} {us = us} {x = e} r j) rest h = ap draw_at (append_assoc ts (token.Sign sign.Comma ∷ us) rest) ∙ no_draw ts e (token.Sign sign.Comma ∷ (us ++ rest)) r (comma_no_dot (us ++ rest))

items_listed : (ts more : List Token) (es : List (Term Name)) → IsList IsExpression ts es → items_at (ts ++ more) ≡ listed_at (ts ++ more)
items_listed ts more es l =
    let b = begins_list l.0 in
    let is : ts ++ more ≡ b.first ∷ (b.others ++ more) = ap (λ (z : List Token). z ++ more) b.is in
    let star : after_sign sign.Star (ts ++ more) ≡ None = ap (after_sign sign.Star) is ∙ no_star b.first (b.others ++ more) b.fits in
    let agg : begins_aggregate (ts ++ more) ≡ false = ap begins_aggregate is ∙ no_aggregate b.first (b.others ++ more) b.fits in
    rw (star, agg) refl

select_drawless : (ts : List Token) → draw_at ts ≡ None → select_at ts ≡ items_at ts
unfolding select_at
select_drawless ts h = rw h refl

-- totals begin with their words
record BeginsAggregate (ts : List Token) : Type 0 where
  keyword : Keyword
  others : List Token
  is : ts ≡ token.Word keyword ∷ others
  fits : is_aggregate_word keyword ≡ true

aggregate_begins : {ts : List Token} {a : Total Name} → IsAggregate ts a → BeginsAggregate ts
aggregate_begins g.count_ = record { keyword = word.Count; others = token.Sign sign.Open ∷ token.Sign sign.Star ∷ token.Sign sign.Close ∷ []; is = refl; fits = refl }
aggregate_begins (g.sum_ {ts = ts} r) = record { keyword = word.Sum; others = token.Sign sign.Open ∷ (ts ++ token.Sign sign.Close ∷ []); is = refl; fits = refl }
aggregate_begins (g.min_ {ts = ts} r) = record { keyword = word.Min; others = token.Sign sign.Open ∷ (ts ++ token.Sign sign.Close ∷ []); is = refl; fits = refl }
aggregate_begins (g.max_ {ts = ts} r) = record { keyword = word.Max; others = token.Sign sign.Open ∷ (ts ++ token.Sign sign.Close ∷ []); is = refl; fits = refl }

aggregates_begin : {ts : List Token} {xs : List (Total Name)} → Joined IsAggregate ts xs → BeginsAggregate ts
aggregates_begin (g.last r) = aggregate_begins r
aggregates_begin (g.more {ts = ts} {us = us} r j) = (let b = aggregate_begins r in record { keyword = b.keyword; others = b.others ++ token.Sign sign.Comma ∷ us; is = ap (λ (z : List Token). z ++ token.Sign sign.Comma ∷ us) b.is; fits = b.fits })

items_aggregate_at : (k : Keyword) (rest : List Token) → is_aggregate_word k ≡ true → items_at (token.Word k ∷ rest) ≡ aggregates_at (token.Word k ∷ rest)
unfolding after_sign
items_aggregate_at k rest h = rw h refl

no_draw_word : (k : Keyword) (rest : List Token) → draw_at (token.Word k ∷ rest) ≡ None
unfolding draw_at name_at
no_draw_word k rest = refl

no_draw_star : (rest : List Token) → draw_at (token.Sign sign.Star ∷ rest) ≡ None
unfolding draw_at name_at
no_draw_star rest = refl

select_aggregates : (ts more : List Token) (xs : List (Total Name)) → IsList IsAggregate ts xs → select_at (ts ++ more) ≡ aggregates_at (ts ++ more)
select_aggregates ts more xs l =
    let b = aggregates_begin l.0 in
    let is : ts ++ more ≡ token.Word b.keyword ∷ (b.others ++ more) = ap (λ (z : List Token). z ++ more) b.is in
    ap select_at is ∙ select_drawless (token.Word b.keyword ∷ (b.others ++ more)) (no_draw_word b.keyword (b.others ++ more)) ∙ items_aggregate_at b.keyword (b.others ++ more) b.fits ∙ ap aggregates_at (sym is)

select_star : (more : List Token) → select_at (token.Sign sign.Star ∷ more) ≡ rows_at columns more
unfolding after_sign
select_star more = select_drawless (token.Sign sign.Star ∷ more) (no_draw_star more)

select_listed : (ts more : List Token) (es : List (Term Name)) → IsList IsExpression ts es → after_sign sign.Dot more ≡ None → select_at (ts ++ more) ≡ listed_at (ts ++ more)
select_listed ts more es l h = select_drawless (ts ++ more) (no_draw_list l.0 more h) ∙ items_listed ts more es l

from_no_dot : (rest : List Token) → after_sign sign.Dot (token.Word word.From ∷ rest) ≡ None
unfolding after_sign
from_no_dot rest = refl

selection_again : {ts : List Token} {items : Asked Name} → IsSelection ts items → (table : List ℕ) (ws os fs : List Token) (condition : Option (Term Name)) (keys : List (Key Name)) (held : Bool) (rest : List Token) → IsWhere ws condition → IsOrder os keys → IsForUpdate fs held → Final rest → select_at (ts ++ token.Word word.From ∷ token.Name table ∷ (ws ++ (os ++ (fs ++ rest)))) ≡ Some (select table items condition keys held, rest)
selection_again g.star table ws os fs condition keys held rest w o f final = select_star (token.Word word.From ∷ token.Name table ∷ (ws ++ (os ++ (fs ++ rest)))) ∙ rows_again columns table ws os fs condition keys held rest w o f final
selection_again (g.list {ts = ts} {es = es} l) table ws os fs condition keys held rest w o f final =
    let more : List Token = token.Word word.From ∷ token.Name table ∷ (ws ++ (os ++ (fs ++ rest))) in
    select_listed ts more es l (from_no_dot (token.Name table ∷ (ws ++ (os ++ (fs ++ rest))))) ∙ listed_again ts more es (select table (values es) condition keys held) rest l (ends_word word.From (token.Name table ∷ (ws ++ (os ++ (fs ++ rest)))) refl refl (lit< tt)) (rows_again (values es) table ws os fs condition keys held rest w o f final)

-- ---- INSERT

no_open_values : (rest : List Token) → after_sign sign.Open (token.Word word.Values ∷ rest) ≡ None
unfolding after_sign
no_open_values rest = refl

columns_again : {cs : List Token} {names : Option (List (List ℕ))} → IsColumns cs names → (rest : List Token) → columns_at (cs ++ token.Word word.Values ∷ rest) ≡ Some (names, token.Word word.Values ∷ rest)
unfolding columns_at
columns_again g.all_ rest = rw (no_open_values rest) refl
columns_again (g.some_ {ts = ts} {names = names} l) rest =
    let inside : (ts ++ token.Sign sign.Close ∷ []) ++ token.Word word.Values ∷ rest ≡ ts ++ token.Sign sign.Close ∷ token.Word word.Values ∷ rest = append_assoc ts (token.Sign sign.Close ∷ []) (token.Word word.Values ∷ rest) in
    rw (after_sign_self sign.Open ((ts ++ token.Sign sign.Close ∷ []) ++ token.Word word.Values ∷ rest), inside, list_again name_at IsName name_again ts names (token.Sign sign.Close ∷ token.Word word.Values ∷ rest) l (ends_close (token.Word word.Values ∷ rest)), after_sign_self sign.Close (token.Word word.Values ∷ rest)) refl

inputs_again : (is : List Token) (inputs : List (Entry Name)) (rest : List Token) → IsList IsInput is inputs → inputs_at (token.Word word.Values ∷ token.Sign sign.Open ∷ (is ++ token.Sign sign.Close ∷ rest)) ≡ Some (inputs, rest)
unfolding inputs_at
inputs_again is inputs rest l = rw (after_word_self word.Values (token.Sign sign.Open ∷ (is ++ token.Sign sign.Close ∷ rest)), after_sign_self sign.Open (is ++ token.Sign sign.Close ∷ rest), list_again input_at IsInput input_again is inputs (token.Sign sign.Close ∷ rest) l (ends_close rest), after_sign_self sign.Close rest) refl

insert_again : (table : List ℕ) (cs is : List Token) (names : Option (List (List ℕ))) (inputs : List (Entry Name)) (rest : List Token) → IsColumns cs names → IsList IsInput is inputs → insert_at (token.Word word.Into ∷ token.Name table ∷ (cs ++ token.Word word.Values ∷ token.Sign sign.Open ∷ (is ++ token.Sign sign.Close ∷ rest))) ≡ Some (insert table names inputs, rest)
unfolding insert_at
insert_again table cs is names inputs rest c l = rw (after_word_self word.Into (token.Name table ∷ (cs ++ token.Word word.Values ∷ token.Sign sign.Open ∷ (is ++ token.Sign sign.Close ∷ rest))), name_at_name table (cs ++ token.Word word.Values ∷ token.Sign sign.Open ∷ (is ++ token.Sign sign.Close ∷ rest)), columns_again c (token.Sign sign.Open ∷ (is ++ token.Sign sign.Close ∷ rest)), inputs_again is inputs rest l) refl

-- ---- the other statements

settings_end : {ws : List Token} {c : Option (Term Name)} → IsWhere ws c → {rest : List Token} → Final rest → Ends (ws ++ rest)
settings_end g.all_ f = ends_final f
settings_end (g.where_ {ts = ts} r) {rest} f = ends_word word.Where (ts ++ rest) refl refl (lit< tt)

update_again : (table : List ℕ) (ss ws : List Token) (settings : List (Change Name)) (condition : Option (Term Name)) (rest : List Token) → IsList IsSetting ss settings → IsWhere ws condition → Final rest → update_at (token.Name table ∷ token.Word word.Set ∷ (ss ++ (ws ++ rest))) ≡ Some (update table settings condition, rest)
unfolding update_at
update_again table ss ws settings condition rest l w final = rw (name_at_name table (token.Word word.Set ∷ (ss ++ (ws ++ rest))), after_word_self word.Set (ss ++ (ws ++ rest)), list_again setting_at IsSetting setting_again ss settings (ws ++ rest) l (settings_end w final), where_one w rest (ends_final final) (no_word_final word.Where final)) refl

delete_again : (table : List ℕ) (ws : List Token) (condition : Option (Term Name)) (rest : List Token) → IsWhere ws condition → Final rest → delete_at (token.Word word.From ∷ token.Name table ∷ (ws ++ rest)) ≡ Some (delete table condition, rest)
unfolding delete_at
delete_again table ws condition rest w final = rw (from_one table (ws ++ rest), where_one w rest (ends_final final) (no_word_final word.Where final)) refl

select_draw : (n : List ℕ) (rest : List Token) → select_at (token.Name n ∷ token.Sign sign.Dot ∷ token.Word word.Nextval ∷ token.Word word.From ∷ token.Word word.Dual ∷ rest) ≡ Some (next n, rest)
unfolding select_at dual_at
select_draw n rest = rw (draw_one n (token.Word word.From ∷ token.Word word.Dual ∷ rest), after_word_self word.From (token.Word word.Dual ∷ rest), after_word_self word.Dual rest) refl

rollback_again : {rest : List Token} → Final rest → rollback_at rest ≡ Some (rollback, rest)
unfolding rollback_at
rollback_again {rest} final = rw (no_word_final word.To final) refl

savepoint_again : (n : List ℕ) (rest : List Token) → savepoint_at (token.Name n ∷ rest) ≡ Some (savepoint n, rest)
unfolding savepoint_at
savepoint_again n rest = rw (name_at_name n rest) refl

to_again : (n : List ℕ) (rest : List Token) → rollback_at (token.Word word.To ∷ token.Name n ∷ rest) ≡ Some (rollback_to n, rest)
unfolding rollback_at to_at after_word
to_again n rest = rw (name_at_name n rest) refl

to_savepoint_again : (n : List ℕ) (rest : List Token)
    → rollback_at (token.Word word.To ∷ token.Word word.Savepoint ∷ token.Name n ∷ rest) ≡ Some (rollback_to n, rest)
unfolding rollback_at to_at after_word
to_savepoint_again n rest = rw (name_at_name n rest) refl

body_again : {ts : List Token} {s : Plan Name} → IsBody ts s → {rest : List Token} → Final rest → body_at (ts ++ rest) ≡ Some (s, rest)
unfolding body_at set_at after_word
body_again (g.select_ {ts = ts} {ws = ws} {os = os} {fs = fs} {items = items} {table = table} {condition = condition} {keys = keys} {for_update = held} i w o f) {rest} final =
    let regroup : (ts ++ token.Word word.From ∷ token.Name table ∷ (ws ++ (os ++ fs))) ++ rest ≡ ts ++ token.Word word.From ∷ token.Name table ∷ (ws ++ (os ++ (fs ++ rest))) = simp append_assoc in
    ap select_at regroup ∙ selection_again i table ws os fs condition keys held rest w o f final
body_again (g.aggregate_ {ts = ts} {ws = ws} {items = items} {table = table} {condition = condition} l w) {rest} final =
    let regroup : (ts ++ token.Word word.From ∷ token.Name table ∷ ws) ++ rest ≡ ts ++ token.Word word.From ∷ token.Name table ∷ (ws ++ rest) = simp append_assoc in
    ap select_at regroup ∙ select_aggregates ts (token.Word word.From ∷ token.Name table ∷ (ws ++ rest)) items l ∙ aggregates_again ts ws items table condition rest l w final
body_again (g.draw_ {n = n}) {rest} final = select_draw n rest
body_again (g.insert_ {cs = cs} {is = is} {table = table} {names = names} {inputs = inputs} c l) {rest} final =
    let regroup : (cs ++ token.Word word.Values ∷ token.Sign sign.Open ∷ (is ++ token.Sign sign.Close ∷ [])) ++ rest ≡ cs ++ token.Word word.Values ∷ token.Sign sign.Open ∷ (is ++ token.Sign sign.Close ∷ rest) = simp append_assoc in
    ap (λ (z : List Token). insert_at (token.Word word.Into ∷ token.Name table ∷ z)) regroup ∙ insert_again table cs is names inputs rest c l
body_again (g.update_ {ss = ss} {ws = ws} {table = table} {settings = settings} {condition = condition} l w) {rest} final =
    ap (λ (z : List Token). update_at (token.Name table ∷ token.Word word.Set ∷ z)) (append_assoc ss ws rest) ∙ update_again table ss ws settings condition rest l w final
body_again (g.delete_ {ws = ws} {table = table} {condition = condition} w) {rest} final = delete_again table ws condition rest w final
body_again g.commit_ final = refl
body_again g.rollback_ final = rollback_again final
body_again g.set_read_only_ final = refl
body_again (g.savepoint_ {n = n}) {rest} final = savepoint_again n rest
body_again (g.rollback_to_ {n = n}) {rest} final = to_again n rest
body_again (g.rollback_to_savepoint_ {n = n}) {rest} final = to_savepoint_again n rest

finishes : (ts : List Token) (s : Plan Name) (rest : List Token) → body_at ts ≡ Some (s, rest) → only_if_empty s (without_semicolon rest) ≡ Some s → statement_at ts ≡ Some s
unfolding statement_at
finishes ts s rest e h = rw e h

bare_end : (s : Plan Name) → only_if_empty s (without_semicolon []) ≡ Some s
unfolding after_sign
bare_end s = refl

semicolon_end : (s : Plan Name) → only_if_empty s (without_semicolon (token.Sign sign.Semicolon ∷ [])) ≡ Some s
unfolding after_sign
semicolon_end s = refl

pub statement_complete : {ts : List Token} {s : Plan Name} → IsStatementOf ts s → statement_at ts ≡ Some s
statement_complete (g.bare {ts = ts} {s = s} b) = finishes ts s [] (ap body_at (sym (append-nil ts)) ∙ body_again b nothing) (bare_end s)
statement_complete (g.ended {ts = ts} {s = s} b) = finishes (ts ++ token.Sign sign.Semicolon ∷ []) s (token.Sign sign.Semicolon ∷ []) (body_again b semicolon) (semicolon_end s)

-- ---- texts

pub read_sound : (bytes : List ℕ) (s : Plan Name) → statement_of bytes ≡ Some s → Spells bytes s
unfolding statement_of
read_sound bytes s h = bind_then (scanned bytes) (λ tokens. statement_at tokens) s h (λ tokens et e1. (tokens, scan_sound bytes tokens et, statement_sound tokens s e1))

pub read_complete : (bytes : List ℕ) (s : Plan Name) → Spells bytes s → statement_of bytes ≡ Some s
unfolding statement_of
read_complete bytes s h = rw (scan_complete bytes h.0 h.1) (statement_complete h.2)

-- a bytes spells one statement
pub spells_one : (bytes : List ℕ) (a b : Plan Name) → Spells bytes a → Spells bytes b → a ≡ b
spells_one bytes a b p q = same_Some a b (sym (read_complete bytes a p) ∙ read_complete bytes b q)

pub ok_spells : (bytes : List ℕ) (r : Result (Statement (List ℕ)) SqlErr) → Returns plan_of r (statement_of bytes) → IfOk r (λ s. Spells bytes (plan_of s))
ok_spells bytes (Ok s) h = read_sound bytes (plan_of s) h
ok_spells bytes (Err e) h = tt

pub only_spelled : (bytes : List ℕ) (r : Result (Statement (List ℕ)) SqlErr) → Returns plan_of r (statement_of bytes) → (s : Plan Name) → Spells bytes s → Returns plan_of r (Some s)
only_spelled bytes r h s spells = subst (λ (o : Option (Plan Name)). Returns plan_of r o) (read_complete bytes s spells) h

pub ok_written : (bytes : List ℕ) (r : Result (Statement (List ℕ)) SqlErr) → Returns plan_of r (statement_of bytes) → IfOk r (λ s. IsStatement (plan_of s))
ok_written bytes (Ok s) h = (bytes, read_sound bytes (plan_of s) h)
ok_written bytes (Err e) h = tt
