-- What is read is of the grammar.
use Rattle.std.proofs.Common.{◌≡◌, ℕ, zero, suc, List, [], ◌∷◌, ◌++◌, length, Option, Some, refl, sym, ap, subst, ◌∙◌, inl, inr, append_assoc, ◌≤◌, true, false, None, arith, cond}
use Rattle.std.proofs.lemmas.List.{append-nil}
use Rattle.std.proofs.lemmas.Option.{same_Some}
use Rattle.sql_tree.specs.declared.tree.Op.{Op}
use Rattle.sql_reader.specs.declared.part.Part.{Part}
use Rattle.sql_reader.specs.declared.part.Part.TheVariants.{Disjunction, Conjunction, Negation, Comparison, Sum, Product, Factor, Primary}
use Rattle.desk_values.specs.declared.keyword.Keyword.TheVariants as word
use Rattle.sql_reader.specs.declared.token.Sign.TheVariants as sign
use Rattle.sql_reader.specs.declared.token.Token.{Token}
use Rattle.sql_reader.specs.declared.token.Token.TheVariants as token
use Rattle.sql_tree.specs.Plain.{Term, null, int, text, bind, column, rowid, neg, not, bin, is_null, not_null, Name, Total, count, total, least, greatest, value, drawn, Change, Entry, Asked, columns, values, totals, Plan, select, next, insert, update, delete, commit, rollback, set_read_only, savepoint, rollback_to}
use Rattle.sql_reader.specs.Grammar.{line_of, operator_token, Parses, conjunction, or_, negation, and_, comparison, not_, sum_, compare_, is_null_, not_null_, product, add_, factor, multiply_, primary, minus_, number, string, null_, bind_, name, rowid_, parentheses, IsExpression, Joined, IsList, IsName, IsKey, IsAggregate, IsInput, IsSetting, IsWhere, IsOrder, IsForUpdate, IsSelection, IsColumns, IsBody, IsStatementOf}
use Rattle.desk_values.specs.Reading.{◌>>=◌}
use Rattle.sql_reader.specs.Reading.{cases, after_word, after_sign, operator_at, more_at, chain_at, null_test, primary_in, factor_in, product_in, sum_in, compared_in, comparison_in, negation_in, conjunction_in, disjunction_in, part_in, inner_at, part_at, expression_at, list_at, name_at, key_at, enclosed_at, counted_at, made_of, aggregate_at, draw_at, input_at, setting_at, where_at, order_at, for_update_at, from_at, begins_aggregate, aggregates_at, rows_at, listed_at, dual_at, items_at, select_at, columns_at, inputs_at, insert_at, update_at, delete_at, set_at, to_at, rollback_at, savepoint_at, body_at, without_semicolon, only_if_empty, statement_at}
use Rattle.sql_reader.proofs.Options.{bind_then, some, nothing_is, cases_are}
use Rattle.sql_reader.proofs.Firsts.{after_word_is, after_sign_is, operator_sound}
use Rattle.sql_tree.specs.declared.tree.Key.{Key}
use Rattle.desk_values.specs.declared.keyword.Keyword.{Keyword}
use Rattle.sql_reader.specs.Grammar as g
use Rattle.desk_values.proofs.Options.{chosen}

-- ---- What is read as an expression is one.

-- the tokens begin with ones that are the part
pub record Front (part : Part) (depth : ℕ) (ts : List Token) (e : Term Name) (rest : List Token) : Type 0 where
  pub taken : List Token
  pub parts : ts ≡ taken ++ rest
  pub reads : Parses part depth taken e

abbrev Got : Part → ℕ → List Token → Term Name × List Token → Type 0
Got part depth ts x = Front part depth ts x.0 x.1

abbrev Sound : (List Token → Option (Term Name × List Token)) → Part → ℕ → Type 0
Sound read part depth = (ts : List Token) (e : Term Name) (rest : List Token) → read ts ≡ Some (e, rest) → Front part depth ts e rest

abbrev pair : Term Name → List Token → Term Name × List Token
pair e rest = (e, rest)

-- the value that was returned
is_got : {part : Part} {depth : ℕ} {ts : List Token} (a : Term Name) (b : List Token) (e : Term Name) (rest : List Token) → some (pair a b) ≡ some (pair e rest) → Front part depth ts a b → Front part depth ts e rest
is_got {part} {depth} {ts} a b e rest h f = subst (Got part depth ts) (same_Some (pair a b) (pair e rest) h) f

-- ---- a line of operators

abbrev Links : Part → Part → ℕ → Type 0
Links line below depth = (ts us : List Token) (o : Op) (a b : Term Name) → line_of o ≡ line → Parses line depth ts a → Parses below depth us b → Parses line depth (ts ++ operator_token o ∷ us) (bin o a b)

-- the tokens after what was read on the left
record Further (line : Part) (depth : ℕ) (before ts : List Token) (e : Term Name) (rest : List Token) : Type 0 where
  taken : List Token
  parts : ts ≡ taken ++ rest
  reads : Parses line depth (before ++ taken) e

module _ (line below : Part) (depth : ℕ) (operand : List Token → Option (Term Name × List Token)) (sound : Sound operand below depth) (links : Links line below depth) where
  stops : (before : List Token) (left : Term Name) (ts : List Token) (e : Term Name) (rest : List Token) → Parses line depth before left → some (pair left ts) ≡ some (pair e rest) → Further line depth before ts e rest
  stops before left ts e rest r h =
      subst (λ (x : Term Name × List Token). Further line depth before ts x.0 x.1) (same_Some (pair left ts) (pair e rest) h) (record { taken = []; parts = refl; reads = subst (λ (b : List Token). Parses line depth b left) (sym (append-nil before)) r })

  goes_on : (before : List Token) (o : Op) (ts behind : List Token) (right : Term Name) (after : List Token) (e : Term Name) (rest : List Token) → ts ≡ operator_token o ∷ behind → (f : Front below depth behind right after) → Further line depth (before ++ operator_token o ∷ f.taken) after e rest → Further line depth before ts e rest
  goes_on before o ts behind right after e rest is f g = record {
    taken = operator_token o ∷ (f.taken ++ g.taken);
    parts = is ∙ ap (λ (x : List Token). operator_token o ∷ x) (f.parts ∙ ap (λ (x : List Token). f.taken ++ x) g.parts ∙ sym (append_assoc f.taken g.taken rest));
    reads = subst (λ (x : List Token). Parses line depth x e) (append_assoc before (operator_token o ∷ f.taken) g.taken) g.reads;
  }

  more_sound : (n : ℕ) (before : List Token) (left : Term Name) (ts : List Token) (e : Term Name) (rest : List Token) → Parses line depth before left → more_at operand line n left ts ≡ Some (e, rest) → Further line depth before ts e rest
  more_sound zero before left ts e rest r h = stops before left ts e rest r h
  more_sound (suc n) before left ts e rest r h =
      elim (cases_are (operator_at line ts) (Some (left, ts)) (λ x. operand x.1 >>= λ right. more_at operand line n (bin x.0 left right.0) right.1) (Some (e, rest)) h) [
        | inl g ↦ stops before left ts e rest r g.1
        | inr g ↦ bind_then (operand g.0.1) (λ right. more_at operand line n (bin g.0.0 left right.0) right.1) (e, rest) g.2 (λ right er e1.
            let o = operator_sound line ts g.0.0 g.0.1 g.1 in
            let f = sound g.0.1 right.0 right.1 er in
            goes_on before g.0.0 ts g.0.1 right.0 right.1 e rest o.is f (more_sound n (before ++ operator_token g.0.0 ∷ f.taken) (bin g.0.0 left right.0) right.1 e rest (links before f.taken g.0.0 left right.0 o.line r f.reads) e1))
      ]

  chain_sound : ((ts : List Token) (e : Term Name) → Parses below depth ts e → Parses line depth ts e) → Sound (chain_at operand line) line depth
  unfolding chain_at
  chain_sound single ts e rest h =
      bind_then (operand ts) (λ left. more_at operand line (length ts) left.0 left.1) (e, rest) h (λ left el e1.
      let f = sound ts left.0 left.1 el in
      let g = more_sound (length ts) f.taken left.0 left.1 e rest (single f.taken left.0 f.reads) e1 in
      record { taken = f.taken ++ g.taken; parts = f.parts ∙ ap (λ (x : List Token). f.taken ++ x) g.parts ∙ sym (append_assoc f.taken g.taken rest); reads = g.reads })

-- ---- what nests

-- one level deeper
record Nested (part : Part) (depth : ℕ) (ts : List Token) (e : Term Name) (rest : List Token) : Type 0 where
  inner : ℕ
  deeper : depth ≡ suc inner
  front : Front part inner ts e rest

module _ (depth : ℕ) (inner : Part → List Token → Option (Term Name × List Token)) (nests : (part : Part) (ts : List Token) (e : Term Name) (rest : List Token) → inner part ts ≡ Some (e, rest) → Nested part depth ts e rest) where
  token_front : (t : Token) (a : Term Name) (more : List Token) (e : Term Name) (rest : List Token) → Parses Primary depth (t ∷ []) a → some (pair a more) ≡ some (pair e rest) → Front Primary depth (t ∷ more) e rest
  token_front t a more e rest r h = is_got a more e rest h (record { taken = t ∷ []; parts = refl; reads = r })

  in_parentheses : (more : List Token) (a : Term Name) (after rest : List Token) → Nested Disjunction depth more a after → after ≡ token.Sign sign.Close ∷ rest → Front Primary depth (token.Sign sign.Open ∷ more) a rest
  in_parentheses more a after rest n c = record {
    taken = token.Sign sign.Open ∷ (n.front.taken ++ token.Sign sign.Close ∷ []);
    parts = ap (λ (x : List Token). token.Sign sign.Open ∷ x) (n.front.parts ∙ ap (λ (x : List Token). n.front.taken ++ x) c ∙ sym (append_assoc n.front.taken (token.Sign sign.Close ∷ []) rest));
    reads = subst (λ (d : ℕ). Parses Primary d (token.Sign sign.Open ∷ (n.front.taken ++ token.Sign sign.Close ∷ [])) a) (sym n.deeper) (parentheses n.front.reads);
  }

  primary_sound : Sound (primary_in inner) Primary depth
  unfolding primary_in
  primary_sound [] e rest h = nothing_is (e, rest) h
  primary_sound (token.Number n ∷ more) e rest h = token_front (token.Number n) (int n) more e rest number h
  primary_sound (token.Text t ∷ more) e rest h = token_front (token.Text t) (text t) more e rest string h
  primary_sound (token.Bind n ∷ more) e rest h = token_front (token.Bind n) (bind n) more e rest bind_ h
  primary_sound (token.Name n ∷ more) e rest h = token_front (token.Name n) (column n) more e rest name h
  primary_sound (token.Word word.Null ∷ more) e rest h = token_front (token.Word word.Null) null more e rest null_ h
  primary_sound (token.Word word.Rowid ∷ more) e rest h = token_front (token.Word word.Rowid) rowid more e rest rowid_ h
  primary_sound (token.Word other ∷ more) e rest h = nothing_is (e, rest) h
  primary_sound (token.Sign sign.Open ∷ more) e rest h =
      bind_then (inner Disjunction more) (λ x. after_sign sign.Close x.1 >>= λ after. Some (x.0, after)) (e, rest) h (λ x ex e1.
      bind_then (after_sign sign.Close x.1) (λ after. Some (x.0, after)) (e, rest) e1 (λ after ea e2.
      is_got x.0 after e rest e2 (in_parentheses more x.0 x.1 after (nests Disjunction more x.0 x.1 ex) (after_sign_is sign.Close x.1 after ea))))
  primary_sound (token.Sign other ∷ more) e rest h = nothing_is (e, rest) h

  prefixed : (part under : Part) (t : Token) (make : Term Name → Term Name) (ts more : List Token) (a : Term Name) (rest : List Token) → ((d : ℕ) (us : List Token) (b : Term Name) → Parses under d us b → Parses part (suc d) (t ∷ us) (make b)) → ts ≡ t ∷ more → Nested under depth more a rest → Front part depth ts (make a) rest
  prefixed part under t make ts more a rest rule is n = record {
    taken = t ∷ n.front.taken;
    parts = is ∙ ap (λ (x : List Token). t ∷ x) n.front.parts;
    reads = subst (λ (d : ℕ). Parses part d (t ∷ n.front.taken) (make a)) (sym n.deeper) (rule n.inner n.front.taken a n.front.reads);
  }

  under : (part below : Part) (ts : List Token) (e : Term Name) (rest : List Token) → ((us : List Token) (b : Term Name) → Parses below depth us b → Parses part depth us b) → Front below depth ts e rest → Front part depth ts e rest
  under part below ts e rest rule f = record { taken = f.taken; parts = f.parts; reads = rule f.taken e f.reads }

  factor_sound : Sound (factor_in inner) Factor depth
  unfolding factor_in
  factor_sound ts e rest h =
      elim (cases_are (after_sign sign.Minus ts) (primary_in inner ts) (λ more. inner Factor more >>= λ x. Some (neg x.0, x.1)) (Some (e, rest)) h) [
        | inl g ↦ under Factor Primary ts e rest (λ us b r. primary r) (primary_sound ts e rest g.1)
        | inr g ↦ bind_then (inner Factor g.0) (λ x. Some (neg x.0, x.1)) (e, rest) g.2 (λ x ex e1.
            is_got (neg x.0) x.1 e rest e1 (prefixed Factor Factor (token.Sign sign.Minus) neg ts g.0 x.0 x.1 (λ d us b r. minus_ r) (after_sign_is sign.Minus ts g.0 g.1) (nests Factor g.0 x.0 x.1 ex)))
      ]

  product_sound : Sound (product_in inner) Product depth
  product_sound = chain_sound Product Factor depth (factor_in inner) factor_sound (λ ts us o a b l r q. multiply_ l r q) (λ ts e r. factor r)

  sum_sound : Sound (sum_in inner) Sum depth
  sum_sound = chain_sound Sum Product depth (product_in inner) product_sound (λ ts us o a b l r q. add_ l r q) (λ ts e r. product r)

  -- what is tested for NULL
  tested : (left : Term Name) (before ts after : List Token) (word : List Token) (a : Term Name) (rest : List Token) → ts ≡ word ++ rest → Parses Comparison depth (before ++ word) a → (us : List Token) → us ≡ before ++ ts → Front Comparison depth us a rest
  tested left before ts after word a rest is r us all = record { taken = before ++ word; parts = all ∙ ap (λ (x : List Token). before ++ x) is ∙ sym (append_assoc before word rest); reads = r }

  null_sound : (left : Term Name) (before us ts behind : List Token) (e : Term Name) (rest : List Token) → Parses Sum depth before left → us ≡ before ++ ts → ts ≡ token.Word word.Is ∷ behind → null_test left behind ≡ Some (e, rest) → Front Comparison depth us e rest
  unfolding null_test
  null_sound left before us ts behind e rest r all is h =
      elim (cases_are (after_word word.Not behind) (after_word word.Null behind >>= λ q. Some (is_null left, q)) (λ after. after_word word.Null after >>= λ q. Some (not_null left, q)) (Some (e, rest)) h) [
        | inl g ↦ bind_then (after_word word.Null behind) (λ q. Some (is_null left, q)) (e, rest) g.1 (λ q eq e1.
            is_got (is_null left) q e rest e1 (tested left before ts behind (token.Word word.Is ∷ token.Word word.Null ∷ []) (is_null left) q (is ∙ ap (λ (x : List Token). token.Word word.Is ∷ x) (after_word_is word.Null behind q eq)) (is_null_ r) us all))
        | inr g ↦ bind_then (after_word word.Null g.0) (λ q. Some (not_null left, q)) (e, rest) g.2 (λ q eq e1.
            is_got (not_null left) q e rest e1 (tested left before ts behind (token.Word word.Is ∷ token.Word word.Not ∷ token.Word word.Null ∷ []) (not_null left) q (is ∙ ap (λ (x : List Token). token.Word word.Is ∷ x) (after_word_is word.Not behind g.0 g.1 ∙ ap (λ (x : List Token). token.Word word.Not ∷ x) (after_word_is word.Null g.0 q eq))) (not_null_ r) us all))
      ]

  compared_sound : (left : Term Name) (before us ts : List Token) (e : Term Name) (rest : List Token) → Parses Sum depth before left → us ≡ before ++ ts → compared_in inner left ts ≡ Some (e, rest) → Front Comparison depth us e rest
  unfolding compared_in
  compared_sound left before us ts e rest r all h =
      elim (cases_are (operator_at Comparison ts) (cases (after_word word.Is ts) (Some (left, ts)) (λ after. null_test left after)) (λ x. sum_in inner x.1 >>= λ right. Some (bin x.0 left right.0, right.1)) (Some (e, rest)) h) [
        | inl g ↦ elim (cases_are (after_word word.Is ts) (Some (left, ts)) (λ after. null_test left after) (Some (e, rest)) g.1) [
          | inl k ↦ is_got left ts e rest k.1 (record { taken = before; parts = all; reads = sum_ r })
          | inr k ↦ null_sound left before us ts k.0 e rest r all (after_word_is word.Is ts k.0 k.1) k.2
        ]
        | inr g ↦ bind_then (sum_in inner g.0.1) (λ right. Some (bin g.0.0 left right.0, right.1)) (e, rest) g.2 (λ right er e1.
            let o = operator_sound Comparison ts g.0.0 g.0.1 g.1 in
            let f = sum_sound g.0.1 right.0 right.1 er in
            is_got (bin g.0.0 left right.0) right.1 e rest e1 (record {
              taken = before ++ operator_token g.0.0 ∷ f.taken;
              parts = all ∙ ap (λ (x : List Token). before ++ x) (o.is ∙ ap (λ (x : List Token). operator_token g.0.0 ∷ x) f.parts) ∙ sym (append_assoc before (operator_token g.0.0 ∷ f.taken) right.1);
              reads = compare_ o.line r f.reads;
            }))
      ]

  comparison_sound : Sound (comparison_in inner) Comparison depth
  unfolding comparison_in
  comparison_sound ts e rest h =
      bind_then (sum_in inner ts) (λ left. compared_in inner left.0 left.1) (e, rest) h (λ left el e1.
      let f = sum_sound ts left.0 left.1 el in
      compared_sound left.0 f.taken ts left.1 e rest f.reads f.parts e1)

  negation_sound : Sound (negation_in inner) Negation depth
  unfolding negation_in
  negation_sound ts e rest h =
      elim (cases_are (after_word word.Not ts) (comparison_in inner ts) (λ more. inner Negation more >>= λ x. Some (not x.0, x.1)) (Some (e, rest)) h) [
        | inl g ↦ under Negation Comparison ts e rest (λ us b r. comparison r) (comparison_sound ts e rest g.1)
        | inr g ↦ bind_then (inner Negation g.0) (λ x. Some (not x.0, x.1)) (e, rest) g.2 (λ x ex e1.
            is_got (not x.0) x.1 e rest e1 (prefixed Negation Negation (token.Word word.Not) not ts g.0 x.0 x.1 (λ d us b r. not_ r) (after_word_is word.Not ts g.0 g.1) (nests Negation g.0 x.0 x.1 ex)))
      ]

  conjunction_sound : Sound (conjunction_in inner) Conjunction depth
  conjunction_sound = chain_sound Conjunction Negation depth (negation_in inner) negation_sound (λ ts us o a b l r q. and_ l r q) (λ ts e r. negation r)

  disjunction_sound : Sound (disjunction_in inner) Disjunction depth
  disjunction_sound = chain_sound Disjunction Conjunction depth (conjunction_in inner) conjunction_sound (λ ts us o a b l r q. or_ l r q) (λ ts e r. conjunction r)

  part_sound : (part : Part) → Sound (part_in inner part) part depth
  part_sound Disjunction = disjunction_sound
  part_sound Conjunction = conjunction_sound
  part_sound Negation = negation_sound
  part_sound Comparison = comparison_sound
  part_sound Sum = sum_sound
  part_sound Product = product_sound
  part_sound Factor = factor_sound
  part_sound Primary = primary_sound

inner_sound : (depth : ℕ) (part : Part) (ts : List Token) (e : Term Name) (rest : List Token) → inner_at depth part ts ≡ Some (e, rest) → Nested part depth ts e rest
unfolding inner_at
inner_sound zero part ts e rest h = nothing_is (e, rest) h
inner_sound (suc depth) part ts e rest h = record { inner = depth; deeper = refl; front = part_sound depth (inner_at depth) (inner_sound depth) part ts e rest h }

pub expression_sound : (ts : List Token) (e : Term Name) (rest : List Token) → expression_at ts ≡ Some (e, rest) → Front Disjunction 32 ts e rest
unfolding part_at
expression_sound ts e rest h = part_sound 32 (inner_at 32) (inner_sound 32) Disjunction ts e rest h

-- ---- What is read as a statement is one.

-- the tokens begin with ones that are x
pub record FrontOf {A : Type 0} (Is : List Token → A → Type 0) (ts : List Token) (x : A) (rest : List Token) : Type 0 where
  pub taken : List Token
  pub parts : ts ≡ taken ++ rest
  pub reads : Is taken x

abbrev pub SoundOf : {A : Type 0} → (List Token → Option (A × List Token)) → (List Token → A → Type 0) → Type 0
SoundOf {A} read Is = (ts : List Token) (x : A) (rest : List Token) → read ts ≡ Some (x, rest) → FrontOf Is ts x rest

-- the value that was returned
pub got : {A : Type 0} {Is : List Token → A → Type 0} {ts : List Token} (a : A) (b : List Token) (x : A) (rest : List Token) → some {A = A × List Token} (a, b) ≡ some {A = A × List Token} (x, rest) → FrontOf Is ts a b → FrontOf Is ts x rest
got {A} {Is} {ts} a b x rest h f = subst (λ (q : A × List Token). FrontOf Is ts q.0 q.1) (same_Some {A = A × List Token} (a, b) (x, rest) h) f

pub whole_sound : SoundOf expression_at IsExpression
whole_sound ts e rest h = (let f = expression_sound ts e rest h in record { taken = f.taken; parts = f.parts; reads = f.reads })

-- a front, and then a front of what comes after it
pub after : {A B : Type 0} {P : List Token → A → Type 0} {Q : List Token → B → Type 0} (R : List Token → B → Type 0) (ts middle rest : List Token) (x : A) (y : B) → ((us vs : List Token) → P us x → Q vs y → R (us ++ vs) y) → FrontOf P ts x middle → FrontOf Q middle y rest → FrontOf R ts y rest
after R ts middle rest x y rule f h = record { taken = f.taken ++ h.taken; parts = f.parts ∙ ap (λ (z : List Token). f.taken ++ z) h.parts ∙ sym (append_assoc f.taken h.taken rest); reads = rule f.taken h.taken f.reads h.reads }

-- one token, and then a front of what comes after it
pub behind : {A : Type 0} {P : List Token → A → Type 0} (R : List Token → A → Type 0) (t : Token) (ts middle rest : List Token) (x : A) → ((us : List Token) → P us x → R (t ∷ us) x) → ts ≡ t ∷ middle → FrontOf P middle x rest → FrontOf R ts x rest
behind R t ts middle rest x rule is f = record { taken = t ∷ f.taken; parts = is ∙ ap (λ (z : List Token). t ∷ z) f.parts; reads = rule f.taken f.reads }

-- a front, and then one token
pub before : {A : Type 0} {P : List Token → A → Type 0} (R : List Token → A → Type 0) (t : Token) (ts middle rest : List Token) (x : A) → ((us : List Token) → P us x → R (us ++ t ∷ []) x) → FrontOf P ts x middle → middle ≡ t ∷ rest → FrontOf R ts x rest
before R t ts middle rest x rule f is = record { taken = f.taken ++ t ∷ []; parts = f.parts ∙ ap (λ (z : List Token). f.taken ++ z) is ∙ sym (append_assoc f.taken (t ∷ []) rest); reads = rule f.taken f.reads }

-- another value of the same tokens
pub seen_as : {A B : Type 0} {P : List Token → A → Type 0} (R : List Token → B → Type 0) (ts rest : List Token) (x : A) (y : B) → ((us : List Token) → P us x → R us y) → FrontOf P ts x rest → FrontOf R ts y rest
seen_as R ts rest x y rule f = record { taken = f.taken; parts = f.parts; reads = rule f.taken f.reads }

pub name_is : (ts : List Token) (n : List ℕ) (rest : List Token) → name_at ts ≡ Some (n, rest) → ts ≡ token.Name n ∷ rest
unfolding name_at
name_is (token.Name m ∷ more) n rest e = ap (λ (q : List ℕ × List Token). token.Name q.0 ∷ q.1) (same_Some {A = List ℕ × List Token} (m, more) (n, rest) e)
name_is other n rest e = nothing_is (n, rest) e

pub name_sound : SoundOf name_at IsName
name_sound ts n rest e = record { taken = token.Name n ∷ []; parts = name_is ts n rest e; reads = g.name }

-- ---- lists

record FrontList {A : Type 0} (Is : List Token → A → Type 0) (n : ℕ) (ts : List Token) (xs : List A) (rest : List Token) : Type 0 where
  taken : List Token
  parts : ts ≡ taken ++ rest
  joined : Joined Is taken xs
  short : length xs ≤ n

module _ {A : Type 0} (read : List Token → Option (A × List Token)) (Is : List Token → A → Type 0) (sound : SoundOf read Is) where
  members_sound : (n : ℕ) (ts : List Token) (xs : List A) (rest : List Token) → list_at read n ts ≡ Some (xs, rest) → FrontList Is n ts xs rest
  unfolding list_at
  members_sound zero ts xs rest h = nothing_is (xs, rest) h
  members_sound (suc n) ts xs rest h =
      bind_then (read ts) (λ x. cases (after_sign sign.Comma x.1) (Some (x.0 ∷ [], x.1)) (λ more. list_at read n more >>= λ ys. Some (x.0 ∷ ys.0, ys.1))) (xs, rest) h (λ x ex e1.
      let f = sound ts x.0 x.1 ex in
      elim (cases_are (after_sign sign.Comma x.1) (Some (x.0 ∷ [], x.1)) (λ more. list_at read n more >>= λ ys. Some (x.0 ∷ ys.0, ys.1)) (Some (xs, rest)) e1) [
        | inl k ↦ subst (λ (q : List A × List Token). FrontList Is (suc n) ts q.0 q.1) (same_Some {A = List A × List Token} (x.0 ∷ [], x.1) (xs, rest) k.1) (record { taken = f.taken; parts = f.parts; joined = g.last f.reads; short = omega arith })
        | inr k ↦ bind_then (list_at read n k.0) (λ ys. Some (x.0 ∷ ys.0, ys.1)) (xs, rest) k.2 (λ ys ey e2.
            let r = members_sound n k.0 ys.0 ys.1 ey in
            let comma = after_sign_is sign.Comma x.1 k.0 k.1 in
            subst (λ (q : List A × List Token). FrontList Is (suc n) ts q.0 q.1) (same_Some {A = List A × List Token} (x.0 ∷ ys.0, ys.1) (xs, rest) e2) (record {
              taken = f.taken ++ token.Sign sign.Comma ∷ r.taken;
              parts = f.parts ∙ ap (λ (z : List Token). f.taken ++ z) (comma ∙ ap (λ (z : List Token). token.Sign sign.Comma ∷ z) r.parts) ∙ sym (append_assoc f.taken (token.Sign sign.Comma ∷ r.taken) ys.1);
              joined = g.more f.reads r.joined;
              short = omega (arith, r.short);
            }))
      ])

  pub list_sound : SoundOf (list_at read 16) (IsList Is)
  list_sound ts xs rest h = (let f = members_sound 16 ts xs rest h in record { taken = f.taken; parts = f.parts; reads = (f.joined, f.short) })

-- ---- members

pub key_sound : SoundOf key_at IsKey
unfolding key_at
key_sound ts k rest h =
    bind_then (name_at ts) (λ x. cases (after_word word.Desc x.1) (cases (after_word word.Asc x.1) (Some (record { column = x.0; desc = false }, x.1)) (λ more. Some (record { column = x.0; desc = false }, more))) (λ more. Some (record { column = x.0; desc = true }, more))) (k, rest) h (λ x ex e1.
    let n = name_is ts x.0 x.1 ex in
    elim (cases_are (after_word word.Desc x.1) (cases (after_word word.Asc x.1) (Some (record { column = x.0; desc = false }, x.1)) (λ more. Some (record { column = x.0; desc = false }, more))) (λ more. Some (record { column = x.0; desc = true }, more)) (Some (k, rest)) e1) [
      | inl a ↦ elim (cases_are (after_word word.Asc x.1) (Some (record { column = x.0; desc = false }, x.1)) (λ more. Some (record { column = x.0; desc = false }, more)) (Some (k, rest)) a.1) [
        | inl b ↦ got {A = Key Name} (record { column = x.0; desc = false }) x.1 k rest b.1 (record { taken = token.Name x.0 ∷ []; parts = n; reads = g.plain })
        | inr b ↦ got {A = Key Name} (record { column = x.0; desc = false }) b.0 k rest b.2 (record { taken = token.Name x.0 ∷ token.Word word.Asc ∷ []; parts = n ∙ ap (λ (z : List Token). token.Name x.0 ∷ z) (after_word_is word.Asc x.1 b.0 b.1); reads = g.ascending })
      ]
      | inr a ↦ got {A = Key Name} (record { column = x.0; desc = true }) a.0 k rest a.2 (record { taken = token.Name x.0 ∷ token.Word word.Desc ∷ []; parts = n ∙ ap (λ (z : List Token). token.Name x.0 ∷ z) (after_word_is word.Desc x.1 a.0 a.1); reads = g.descending })
    ])

-- an expression in parentheses
abbrev IsEnclosed : List Token → Term Name → Type 0
IsEnclosed ts e = (us : List Token) × (ts ≡ token.Sign sign.Open ∷ (us ++ token.Sign sign.Close ∷ [])) × IsExpression us e

enclosed_sound : SoundOf enclosed_at IsEnclosed
unfolding enclosed_at
enclosed_sound ts e rest h =
    bind_then (after_sign sign.Open ts) (λ inside. expression_at inside >>= λ x. after_sign sign.Close x.1 >>= λ q. Some (x.0, q)) (e, rest) h (λ inside ei e1.
    bind_then (expression_at inside) (λ x. after_sign sign.Close x.1 >>= λ q. Some (x.0, q)) (e, rest) e1 (λ x ex e2.
    bind_then (after_sign sign.Close x.1) (λ q. Some (x.0, q)) (e, rest) e2 (λ q eq e3.
    let f = whole_sound inside x.0 x.1 ex in
    let close = after_sign_is sign.Close x.1 q eq in
    let open_ = after_sign_is sign.Open ts inside ei in
    got x.0 q e rest e3 (record {
      taken = token.Sign sign.Open ∷ (f.taken ++ token.Sign sign.Close ∷ []);
      parts = open_ ∙ ap (λ (z : List Token). token.Sign sign.Open ∷ z) (f.parts ∙ ap (λ (z : List Token). f.taken ++ z) close ∙ sym (append_assoc f.taken (token.Sign sign.Close ∷ []) q));
      reads = (f.taken, refl, f.reads);
    }))))

counted_is : (ts rest : List Token) → counted_at ts ≡ Some rest → ts ≡ token.Sign sign.Open ∷ token.Sign sign.Star ∷ token.Sign sign.Close ∷ rest
unfolding counted_at
counted_is ts rest h =
    bind_then (after_sign sign.Open ts) (λ a. after_sign sign.Star a >>= λ b. after_sign sign.Close b) rest h (λ a ea e1.
    bind_then (after_sign sign.Star a) (λ b. after_sign sign.Close b) rest e1 (λ b eb e2.
    after_sign_is sign.Open ts a ea ∙ ap (λ (z : List Token). token.Sign sign.Open ∷ z) (after_sign_is sign.Star a b eb ∙ ap (λ (z : List Token). token.Sign sign.Star ∷ z) (after_sign_is sign.Close b rest e2))))

made_sound : (k : Keyword) (make : Term Name → Total Name) → ((us : List Token) (e : Term Name) → IsExpression us e → IsAggregate (token.Word k ∷ token.Sign sign.Open ∷ (us ++ token.Sign sign.Close ∷ [])) (make e)) → (more : List Token) (a : Total Name) (rest : List Token) → made_of make more ≡ Some (a, rest) → FrontOf IsAggregate (token.Word k ∷ more) a rest
made_sound k make rule more a rest h =
    bind_then (enclosed_at more) (λ x. Some (make x.0, x.1)) (a, rest) h (λ x ex e1.
    let f = enclosed_sound more x.0 x.1 ex in
    got (make x.0) x.1 a rest e1 (record { taken = token.Word k ∷ f.taken; parts = ap (λ (z : List Token). token.Word k ∷ z) f.parts; reads = subst (λ (z : List Token). IsAggregate (token.Word k ∷ z) (make x.0)) (sym f.reads.1) (rule f.reads.0 x.0 f.reads.2) }))

pub aggregate_sound : SoundOf aggregate_at IsAggregate
unfolding aggregate_at
aggregate_sound (token.Word word.Count ∷ more) a rest h =
    bind_then (counted_at more) (λ q. Some (count, q)) (a, rest) h (λ q eq e1.
    got count q a rest e1 (record { taken = token.Word word.Count ∷ token.Sign sign.Open ∷ token.Sign sign.Star ∷ token.Sign sign.Close ∷ []; parts = ap (λ (z : List Token). token.Word word.Count ∷ z) (counted_is more q eq); reads = g.count_ }))
aggregate_sound (token.Word word.Sum ∷ more) a rest h = made_sound word.Sum total (λ us e r. g.sum_ r) more a rest h
aggregate_sound (token.Word word.Min ∷ more) a rest h = made_sound word.Min least (λ us e r. g.min_ r) more a rest h
aggregate_sound (token.Word word.Max ∷ more) a rest h = made_sound word.Max greatest (λ us e r. g.max_ r) more a rest h
aggregate_sound other a rest h = nothing_is (a, rest) h

pub draw_is : (ts : List Token) (n : List ℕ) (rest : List Token) → draw_at ts ≡ Some (n, rest) → ts ≡ token.Name n ∷ token.Sign sign.Dot ∷ token.Word word.Nextval ∷ rest
unfolding draw_at
draw_is ts n rest h =
    bind_then (name_at ts) (λ x. after_sign sign.Dot x.1 >>= λ a. after_word word.Nextval a >>= λ q. Some (x.0, q)) (n, rest) h (λ x ex e1.
    bind_then (after_sign sign.Dot x.1) (λ a. after_word word.Nextval a >>= λ q. Some (x.0, q)) (n, rest) e1 (λ a ea e2.
    bind_then (after_word word.Nextval a) (λ q. Some (x.0, q)) (n, rest) e2 (λ q eq e3.
    subst (λ (z : List ℕ × List Token). ts ≡ token.Name z.0 ∷ token.Sign sign.Dot ∷ token.Word word.Nextval ∷ z.1) (same_Some {A = List ℕ × List Token} (x.0, q) (n, rest) e3)
    (name_is ts x.0 x.1 ex ∙ ap (λ (z : List Token). token.Name x.0 ∷ z) (after_sign_is sign.Dot x.1 a ea ∙ ap (λ (z : List Token). token.Sign sign.Dot ∷ z) (after_word_is word.Nextval a q eq))))))

pub input_sound : SoundOf input_at IsInput
unfolding input_at
input_sound ts i rest h =
    elim (cases_are (draw_at ts) (expression_at ts >>= λ x. Some (value x.0, x.1)) (λ x. Some (drawn x.0, x.1)) (Some (i, rest)) h) [
      | inl k ↦ bind_then (expression_at ts) (λ x. Some (value x.0, x.1)) (i, rest) k.1 (λ x ex e1.
          got (value x.0) x.1 i rest e1 (seen_as IsInput ts x.1 x.0 (value x.0) (λ us r. g.value_ r) (whole_sound ts x.0 x.1 ex)))
      | inr k ↦ got (drawn k.0.0) k.0.1 i rest k.2 (record { taken = token.Name k.0.0 ∷ token.Sign sign.Dot ∷ token.Word word.Nextval ∷ []; parts = draw_is ts k.0.0 k.0.1 k.1; reads = g.next_ })
    ]

pub setting_sound : SoundOf setting_at IsSetting
unfolding setting_at
setting_sound ts s rest h =
    bind_then (name_at ts) (λ x. after_sign sign.Equal x.1 >>= λ a. expression_at a >>= λ to. Some (record { column = x.0; to = to.0 }, to.1)) (s, rest) h (λ x ex e1.
    bind_then (after_sign sign.Equal x.1) (λ a. expression_at a >>= λ to. Some (record { column = x.0; to = to.0 }, to.1)) (s, rest) e1 (λ a ea e2.
    bind_then (expression_at a) (λ to. Some (record { column = x.0; to = to.0 }, to.1)) (s, rest) e2 (λ to et e3.
    let f = whole_sound a to.0 to.1 et in
    got {A = Change Name} (record { column = x.0; to = to.0 }) to.1 s rest e3 (record {
      taken = token.Name x.0 ∷ token.Sign sign.Equal ∷ f.taken;
      parts = name_is ts x.0 x.1 ex ∙ ap (λ (z : List Token). token.Name x.0 ∷ z) (after_sign_is sign.Equal x.1 a ea ∙ ap (λ (z : List Token). token.Sign sign.Equal ∷ z) f.parts);
      reads = g.set_ f.reads;
    }))))

-- ---- clauses

pub where_sound : SoundOf where_at IsWhere
unfolding where_at
where_sound ts c rest h =
    elim (cases_are (after_word word.Where ts) (Some (None, ts)) (λ a. expression_at a >>= λ x. Some (Some x.0, x.1)) (Some (c, rest)) h) [
      | inl k ↦ got {A = Option (Term Name)} None ts c rest k.1 (record { taken = []; parts = refl; reads = g.all_ })
      | inr k ↦ bind_then (expression_at k.0) (λ x. Some (Some x.0, x.1)) (c, rest) k.2 (λ x ex e1.
          let f = whole_sound k.0 x.0 x.1 ex in
          got (Some x.0) x.1 c rest e1 (record { taken = token.Word word.Where ∷ f.taken; parts = after_word_is word.Where ts k.0 k.1 ∙ ap (λ (z : List Token). token.Word word.Where ∷ z) f.parts; reads = g.where_ f.reads }))
    ]

pub order_sound : SoundOf order_at IsOrder
unfolding order_at
order_sound ts keys rest h =
    elim (cases_are (after_word word.Order ts) (Some ([], ts)) (λ a. after_word word.By a >>= λ b. list_at key_at 16 b) (Some (keys, rest)) h) [
      | inl k ↦ got {A = List (Key Name)} [] ts keys rest k.1 (record { taken = []; parts = refl; reads = g.by_row })
      | inr k ↦ bind_then (after_word word.By k.0) (λ b. list_at key_at 16 b) (keys, rest) k.2 (λ b eb e1.
          let f = list_sound key_at IsKey key_sound b keys rest e1 in
          record { taken = token.Word word.Order ∷ token.Word word.By ∷ f.taken; parts = after_word_is word.Order ts k.0 k.1 ∙ ap (λ (z : List Token). token.Word word.Order ∷ z) (after_word_is word.By k.0 b eb ∙ ap (λ (z : List Token). token.Word word.By ∷ z) f.parts); reads = g.by_keys f.reads })
    ]

pub for_update_sound : SoundOf for_update_at IsForUpdate
unfolding for_update_at
for_update_sound ts b rest h =
    elim (cases_are (after_word word.For ts) (Some (false, ts)) (λ a. after_word word.Update a >>= λ q. Some (true, q)) (Some (b, rest)) h) [
      | inl k ↦ got false ts b rest k.1 (record { taken = []; parts = refl; reads = g.free })
      | inr k ↦ bind_then (after_word word.Update k.0) (λ q. Some (true, q)) (b, rest) k.2 (λ q eq e1.
          got true q b rest e1 (record { taken = token.Word word.For ∷ token.Word word.Update ∷ []; parts = after_word_is word.For ts k.0 k.1 ∙ ap (λ (z : List Token). token.Word word.For ∷ z) (after_word_is word.Update k.0 q eq); reads = g.held }))
    ]

pub from_is : (ts : List Token) (n : List ℕ) (rest : List Token) → from_at ts ≡ Some (n, rest) → ts ≡ token.Word word.From ∷ token.Name n ∷ rest
unfolding from_at
from_is ts n rest h =
    bind_then (after_word word.From ts) (λ a. name_at a) (n, rest) h (λ a ea e1.
    after_word_is word.From ts a ea ∙ ap (λ (z : List Token). token.Word word.From ∷ z) (name_is a n rest e1))

-- ---- What is read as a whole statement is one.

-- behind SELECT and the items
rows_sound : (items : Asked Name) (before us ts : List Token) (s : Plan Name) (rest : List Token) → IsSelection before items → us ≡ before ++ ts → rows_at items ts ≡ Some (s, rest) → FrontOf IsBody (token.Word word.Select ∷ us) s rest
unfolding rows_at
rows_sound items before us ts s rest is all h =
    bind_then (from_at ts) (λ table. where_at table.1 >>= λ condition. order_at condition.1 >>= λ keys. for_update_at keys.1 >>= λ held. Some (select table.0 items condition.0 keys.0 held.0, held.1)) (s, rest) h (λ table et e1.
    bind_then (where_at table.1) (λ condition. order_at condition.1 >>= λ keys. for_update_at keys.1 >>= λ held. Some (select table.0 items condition.0 keys.0 held.0, held.1)) (s, rest) e1 (λ condition ec e2.
    bind_then (order_at condition.1) (λ keys. for_update_at keys.1 >>= λ held. Some (select table.0 items condition.0 keys.0 held.0, held.1)) (s, rest) e2 (λ keys ek e3.
    bind_then (for_update_at keys.1) (λ held. Some (select table.0 items condition.0 keys.0 held.0, held.1)) (s, rest) e3 (λ held eh e4.
    let w = where_sound table.1 condition.0 condition.1 ec in
    let o = order_sound condition.1 keys.0 keys.1 ek in
    let f = for_update_sound keys.1 held.0 held.1 eh in
    let chain : us ≡ before ++ token.Word word.From ∷ token.Name table.0 ∷ (w.taken ++ (o.taken ++ (f.taken ++ held.1))) = all ∙ ap (λ (z : List Token). before ++ z) (from_is ts table.0 table.1 et ∙ ap (λ (z : List Token). token.Word word.From ∷ token.Name table.0 ∷ z) (w.parts ∙ ap (λ (z : List Token). w.taken ++ z) (o.parts ∙ ap (λ (z : List Token). o.taken ++ z) f.parts))) in
    let regroup : (before ++ token.Word word.From ∷ token.Name table.0 ∷ (w.taken ++ (o.taken ++ f.taken))) ++ held.1 ≡ before ++ token.Word word.From ∷ token.Name table.0 ∷ (w.taken ++ (o.taken ++ (f.taken ++ held.1))) = simp append_assoc in
    got (select table.0 items condition.0 keys.0 held.0) held.1 s rest e4 (record {
      taken = token.Word word.Select ∷ (before ++ token.Word word.From ∷ token.Name table.0 ∷ (w.taken ++ (o.taken ++ f.taken)));
      parts = ap (λ (z : List Token). token.Word word.Select ∷ z) (chain ∙ sym regroup);
      reads = g.select_ is w.reads o.reads f.reads;
    })))))

aggregates_sound : (ts : List Token) (s : Plan Name) (rest : List Token) → aggregates_at ts ≡ Some (s, rest) → FrontOf IsBody (token.Word word.Select ∷ ts) s rest
unfolding aggregates_at
aggregates_sound ts s rest h =
    bind_then (list_at aggregate_at 16 ts) (λ items. from_at items.1 >>= λ table. where_at table.1 >>= λ condition. Some (select table.0 (totals items.0) condition.0 [] false, condition.1)) (s, rest) h (λ items ei e1.
    bind_then (from_at items.1) (λ table. where_at table.1 >>= λ condition. Some (select table.0 (totals items.0) condition.0 [] false, condition.1)) (s, rest) e1 (λ table et e2.
    bind_then (where_at table.1) (λ condition. Some (select table.0 (totals items.0) condition.0 [] false, condition.1)) (s, rest) e2 (λ condition ec e3.
    let l = list_sound aggregate_at IsAggregate aggregate_sound ts items.0 items.1 ei in
    let w = where_sound table.1 condition.0 condition.1 ec in
    let chain : ts ≡ l.taken ++ token.Word word.From ∷ token.Name table.0 ∷ (w.taken ++ condition.1) = l.parts ∙ ap (λ (z : List Token). l.taken ++ z) (from_is items.1 table.0 table.1 et ∙ ap (λ (z : List Token). token.Word word.From ∷ token.Name table.0 ∷ z) w.parts) in
    let regroup : (l.taken ++ token.Word word.From ∷ token.Name table.0 ∷ w.taken) ++ condition.1 ≡ l.taken ++ token.Word word.From ∷ token.Name table.0 ∷ (w.taken ++ condition.1) = simp append_assoc in
    got (select table.0 (totals items.0) condition.0 [] false) condition.1 s rest e3 (record {
      taken = token.Word word.Select ∷ (l.taken ++ token.Word word.From ∷ token.Name table.0 ∷ w.taken);
      parts = ap (λ (z : List Token). token.Word word.Select ∷ z) (chain ∙ sym regroup);
      reads = g.aggregate_ l.reads w.reads;
    }))))

listed_sound : (ts : List Token) (s : Plan Name) (rest : List Token) → listed_at ts ≡ Some (s, rest) → FrontOf IsBody (token.Word word.Select ∷ ts) s rest
listed_sound ts s rest h =
    bind_then (list_at expression_at 16 ts) (λ items. rows_at (values items.0) items.1) (s, rest) h (λ items ei e1.
    let l = list_sound expression_at IsExpression whole_sound ts items.0 items.1 ei in
    rows_sound (values items.0) l.taken ts items.1 s rest (g.list l.reads) l.parts e1)

items_sound : (ts : List Token) (s : Plan Name) (rest : List Token) → items_at ts ≡ Some (s, rest) → FrontOf IsBody (token.Word word.Select ∷ ts) s rest
items_sound ts s rest h =
    elim (cases_are (after_sign sign.Star ts) (cond (begins_aggregate ts) (aggregates_at ts) (listed_at ts)) (λ a. rows_at columns a) (Some (s, rest)) h) [
      | inl k ↦ elim (chosen (begins_aggregate ts) (aggregates_at ts) (listed_at ts) (Some (s, rest)) k.1) [
        | inl a ↦ aggregates_sound ts s rest a.1
        | inr a ↦ listed_sound ts s rest a.1
      ]
      | inr k ↦ rows_sound columns (token.Sign sign.Star ∷ []) ts k.0 s rest g.star (after_sign_is sign.Star ts k.0 k.1) k.2
    ]

dual_is : (ts rest : List Token) → dual_at ts ≡ Some rest → ts ≡ token.Word word.From ∷ token.Word word.Dual ∷ rest
unfolding dual_at
dual_is ts rest h = bind_then (after_word word.From ts) (λ a. after_word word.Dual a) rest h (λ a ea e1. after_word_is word.From ts a ea ∙ ap (λ (z : List Token). token.Word word.From ∷ z) (after_word_is word.Dual a rest e1))

select_sound : (ts : List Token) (s : Plan Name) (rest : List Token) → select_at ts ≡ Some (s, rest) → FrontOf IsBody (token.Word word.Select ∷ ts) s rest
unfolding select_at
select_sound ts s rest h =
    elim (cases_are (draw_at ts) (items_at ts) (λ x. dual_at x.1 >>= λ q. Some (next x.0, q)) (Some (s, rest)) h) [
      | inl k ↦ items_sound ts s rest k.1
      | inr k ↦ bind_then (dual_at k.0.1) (λ q. Some (next k.0.0, q)) (s, rest) k.2 (λ q eq e1.
          got (next k.0.0) q s rest e1 (record {
            taken = token.Word word.Select ∷ token.Name k.0.0 ∷ token.Sign sign.Dot ∷ token.Word word.Nextval ∷ token.Word word.From ∷ token.Word word.Dual ∷ [];
            parts = ap (λ (z : List Token). token.Word word.Select ∷ z) (draw_is ts k.0.0 k.0.1 k.1 ∙ ap (λ (z : List Token). token.Name k.0.0 ∷ token.Sign sign.Dot ∷ token.Word word.Nextval ∷ z) (dual_is k.0.1 q eq));
            reads = g.draw_;
          }))
    ]

columns_sound : SoundOf columns_at IsColumns
unfolding columns_at
columns_sound ts names rest h =
    elim (cases_are (after_sign sign.Open ts) (Some (None, ts)) (λ inside. list_at name_at 16 inside >>= λ ns. after_sign sign.Close ns.1 >>= λ q. Some (Some ns.0, q)) (Some (names, rest)) h) [
      | inl k ↦ got {A = Option (List (List ℕ))} None ts names rest k.1 (record { taken = []; parts = refl; reads = g.all_ })
      | inr k ↦ bind_then (list_at name_at 16 k.0) (λ ns. after_sign sign.Close ns.1 >>= λ q. Some (Some ns.0, q)) (names, rest) k.2 (λ ns en e1.
          bind_then (after_sign sign.Close ns.1) (λ q. Some (Some ns.0, q)) (names, rest) e1 (λ q eq e2.
          let l = list_sound name_at IsName name_sound k.0 ns.0 ns.1 en in
          got (Some ns.0) q names rest e2 (record {
            taken = token.Sign sign.Open ∷ (l.taken ++ token.Sign sign.Close ∷ []);
            parts = after_sign_is sign.Open ts k.0 k.1 ∙ ap (λ (z : List Token). token.Sign sign.Open ∷ z) (l.parts ∙ ap (λ (z : List Token). l.taken ++ z) (after_sign_is sign.Close ns.1 q eq) ∙ sym (append_assoc l.taken (token.Sign sign.Close ∷ []) q));
            reads = g.some_ l.reads;
          })))
    ]

-- VALUES and the inputs in parentheses
abbrev IsInputs : List Token → List (Entry Name) → Type 0
IsInputs ts inputs = (us : List Token) × (ts ≡ token.Word word.Values ∷ token.Sign sign.Open ∷ (us ++ token.Sign sign.Close ∷ [])) × IsList IsInput us inputs

inputs_sound : SoundOf inputs_at IsInputs
unfolding inputs_at
inputs_sound ts inputs rest h =
    bind_then (after_word word.Values ts) (λ a. after_sign sign.Open a >>= λ inside. list_at input_at 16 inside >>= λ xs. after_sign sign.Close xs.1 >>= λ q. Some (xs.0, q)) (inputs, rest) h (λ a ea e1.
    bind_then (after_sign sign.Open a) (λ inside. list_at input_at 16 inside >>= λ xs. after_sign sign.Close xs.1 >>= λ q. Some (xs.0, q)) (inputs, rest) e1 (λ inside ei e2.
    bind_then (list_at input_at 16 inside) (λ xs. after_sign sign.Close xs.1 >>= λ q. Some (xs.0, q)) (inputs, rest) e2 (λ xs ex e3.
    bind_then (after_sign sign.Close xs.1) (λ q. Some (xs.0, q)) (inputs, rest) e3 (λ q eq e4.
    let l = list_sound input_at IsInput input_sound inside xs.0 xs.1 ex in
    got xs.0 q inputs rest e4 (record {
      taken = token.Word word.Values ∷ token.Sign sign.Open ∷ (l.taken ++ token.Sign sign.Close ∷ []);
      parts = after_word_is word.Values ts a ea ∙ ap (λ (z : List Token). token.Word word.Values ∷ z) (after_sign_is sign.Open a inside ei ∙ ap (λ (z : List Token). token.Sign sign.Open ∷ z) (l.parts ∙ ap (λ (z : List Token). l.taken ++ z) (after_sign_is sign.Close xs.1 q eq) ∙ sym (append_assoc l.taken (token.Sign sign.Close ∷ []) q)));
      reads = (l.taken, refl, l.reads);
    })))))

insert_sound : (ts : List Token) (s : Plan Name) (rest : List Token) → insert_at ts ≡ Some (s, rest) → FrontOf IsBody (token.Word word.Insert ∷ ts) s rest
unfolding insert_at
insert_sound ts s rest h =
    bind_then (after_word word.Into ts) (λ a. name_at a >>= λ table. columns_at table.1 >>= λ names. inputs_at names.1 >>= λ inputs. Some (insert table.0 names.0 inputs.0, inputs.1)) (s, rest) h (λ a ea e1.
    bind_then (name_at a) (λ table. columns_at table.1 >>= λ names. inputs_at names.1 >>= λ inputs. Some (insert table.0 names.0 inputs.0, inputs.1)) (s, rest) e1 (λ table et e2.
    bind_then (columns_at table.1) (λ names. inputs_at names.1 >>= λ inputs. Some (insert table.0 names.0 inputs.0, inputs.1)) (s, rest) e2 (λ names en e3.
    bind_then (inputs_at names.1) (λ inputs. Some (insert table.0 names.0 inputs.0, inputs.1)) (s, rest) e3 (λ inputs ei e4.
    let c = columns_sound table.1 names.0 names.1 en in
    let i = inputs_sound names.1 inputs.0 inputs.1 ei in
    let chain : ts ≡ token.Word word.Into ∷ token.Name table.0 ∷ (c.taken ++ (i.taken ++ inputs.1)) = after_word_is word.Into ts a ea ∙ ap (λ (z : List Token). token.Word word.Into ∷ z) (name_is a table.0 table.1 et ∙ ap (λ (z : List Token). token.Name table.0 ∷ z) (c.parts ∙ ap (λ (z : List Token). c.taken ++ z) i.parts)) in
    let regroup : (c.taken ++ i.taken) ++ inputs.1 ≡ c.taken ++ (i.taken ++ inputs.1) = append_assoc c.taken i.taken inputs.1 in
    got (insert table.0 names.0 inputs.0) inputs.1 s rest e4 (record {
      taken = token.Word word.Insert ∷ token.Word word.Into ∷ token.Name table.0 ∷ (c.taken ++ i.taken);
      parts = ap (λ (z : List Token). token.Word word.Insert ∷ z) (chain ∙ ap (λ (z : List Token). token.Word word.Into ∷ token.Name table.0 ∷ z) (sym regroup));
      reads = subst (λ (z : List Token). IsBody (token.Word word.Insert ∷ token.Word word.Into ∷ token.Name table.0 ∷ (c.taken ++ z)) (insert table.0 names.0 inputs.0)) (sym i.reads.1) (g.insert_ c.reads i.reads.2);
    })))))

update_sound : (ts : List Token) (s : Plan Name) (rest : List Token) → update_at ts ≡ Some (s, rest) → FrontOf IsBody (token.Word word.Update ∷ ts) s rest
unfolding update_at
update_sound ts s rest h =
    bind_then (name_at ts) (λ table. after_word word.Set table.1 >>= λ a. list_at setting_at 16 a >>= λ settings. where_at settings.1 >>= λ condition. Some (update table.0 settings.0 condition.0, condition.1)) (s, rest) h (λ table et e1.
    bind_then (after_word word.Set table.1) (λ a. list_at setting_at 16 a >>= λ settings. where_at settings.1 >>= λ condition. Some (update table.0 settings.0 condition.0, condition.1)) (s, rest) e1 (λ a ea e2.
    bind_then (list_at setting_at 16 a) (λ settings. where_at settings.1 >>= λ condition. Some (update table.0 settings.0 condition.0, condition.1)) (s, rest) e2 (λ settings es e3.
    bind_then (where_at settings.1) (λ condition. Some (update table.0 settings.0 condition.0, condition.1)) (s, rest) e3 (λ condition ec e4.
    let l = list_sound setting_at IsSetting setting_sound a settings.0 settings.1 es in
    let w = where_sound settings.1 condition.0 condition.1 ec in
    let chain : ts ≡ token.Name table.0 ∷ token.Word word.Set ∷ (l.taken ++ (w.taken ++ condition.1)) = name_is ts table.0 table.1 et ∙ ap (λ (z : List Token). token.Name table.0 ∷ z) (after_word_is word.Set table.1 a ea ∙ ap (λ (z : List Token). token.Word word.Set ∷ z) (l.parts ∙ ap (λ (z : List Token). l.taken ++ z) w.parts)) in
    let regroup : (l.taken ++ w.taken) ++ condition.1 ≡ l.taken ++ (w.taken ++ condition.1) = append_assoc l.taken w.taken condition.1 in
    got (update table.0 settings.0 condition.0) condition.1 s rest e4 (record {
      taken = token.Word word.Update ∷ token.Name table.0 ∷ token.Word word.Set ∷ (l.taken ++ w.taken);
      parts = ap (λ (z : List Token). token.Word word.Update ∷ z) (chain ∙ ap (λ (z : List Token). token.Name table.0 ∷ token.Word word.Set ∷ z) (sym regroup));
      reads = g.update_ l.reads w.reads;
    })))))

delete_sound : (ts : List Token) (s : Plan Name) (rest : List Token) → delete_at ts ≡ Some (s, rest) → FrontOf IsBody (token.Word word.Delete ∷ ts) s rest
unfolding delete_at
delete_sound ts s rest h =
    bind_then (from_at ts) (λ table. where_at table.1 >>= λ condition. Some (delete table.0 condition.0, condition.1)) (s, rest) h (λ table et e1.
    bind_then (where_at table.1) (λ condition. Some (delete table.0 condition.0, condition.1)) (s, rest) e1 (λ condition ec e2.
    let w = where_sound table.1 condition.0 condition.1 ec in
    got (delete table.0 condition.0) condition.1 s rest e2 (record {
      taken = token.Word word.Delete ∷ token.Word word.From ∷ token.Name table.0 ∷ w.taken;
      parts = ap (λ (z : List Token). token.Word word.Delete ∷ z) (from_is ts table.0 table.1 et ∙ ap (λ (z : List Token). token.Word word.From ∷ token.Name table.0 ∷ z) w.parts);
      reads = g.delete_ w.reads;
    })))

set_sound : (ts : List Token) (s : Plan Name) (rest : List Token) → set_at ts ≡ Some (s, rest) → FrontOf IsBody (token.Word word.Set ∷ ts) s rest
unfolding set_at
set_sound ts s rest h =
    bind_then (after_word word.Transaction ts) (λ a. after_word word.Read a >>= λ b. after_word word.Only b >>= λ q. Some (set_read_only, q)) (s, rest) h (λ a ea e1.
    bind_then (after_word word.Read a) (λ b. after_word word.Only b >>= λ q. Some (set_read_only, q)) (s, rest) e1 (λ b eb e2.
    bind_then (after_word word.Only b) (λ q. Some (set_read_only, q)) (s, rest) e2 (λ q eq e3.
    got set_read_only q s rest e3 (record {
      taken = token.Word word.Set ∷ token.Word word.Transaction ∷ token.Word word.Read ∷ token.Word word.Only ∷ [];
      parts = ap (λ (z : List Token). token.Word word.Set ∷ z) (after_word_is word.Transaction ts a ea ∙ ap (λ (z : List Token). token.Word word.Transaction ∷ z) (after_word_is word.Read a b eb ∙ ap (λ (z : List Token). token.Word word.Read ∷ z) (after_word_is word.Only b q eq)));
      reads = g.set_read_only_;
    }))))

savepoint_sound : (ts : List Token) (s : Plan Name) (rest : List Token) → savepoint_at ts ≡ Some (s, rest) → FrontOf IsBody (token.Word word.Savepoint ∷ ts) s rest
unfolding savepoint_at
savepoint_sound ts s rest h =
    bind_then (name_at ts) (λ x. Some (savepoint x.0, x.1)) (s, rest) h (λ x ex e1.
    got (savepoint x.0) x.1 s rest e1 (record {
      taken = token.Word word.Savepoint ∷ token.Name x.0 ∷ [];
      parts = ap (λ (z : List Token). token.Word word.Savepoint ∷ z) (name_is ts x.0 x.1 ex);
      reads = g.savepoint_;
    }))

abbrev plan_pair : Plan Name → List Token → Plan Name × List Token
plan_pair s rest = (s, rest)

to_either : (ts : List Token) (s : Plan Name) (rest : List Token) (o : Option (List Token)) → after_word word.Savepoint ts ≡ o → (name_at (cases o ts (λ q. q)) >>= λ x. Some (plan_pair (rollback_to x.0) x.1)) ≡ some (plan_pair s rest) → FrontOf IsBody (token.Word word.Rollback ∷ token.Word word.To ∷ ts) s rest
to_either ts s rest None eo h =
    bind_then (name_at ts) (λ x. Some (plan_pair (rollback_to x.0) x.1)) (plan_pair s rest) h (λ x ex e1.
    got (rollback_to x.0) x.1 s rest e1 (record {
      taken = token.Word word.Rollback ∷ token.Word word.To ∷ token.Name x.0 ∷ [];
      parts = ap (λ (z : List Token). token.Word word.Rollback ∷ token.Word word.To ∷ z) (name_is ts x.0 x.1 ex);
      reads = g.rollback_to_;
    }))
to_either ts s rest (Some q) eo h =
    bind_then (name_at q) (λ x. Some (plan_pair (rollback_to x.0) x.1)) (plan_pair s rest) h (λ x ex e1.
    got (rollback_to x.0) x.1 s rest e1 (record {
      taken = token.Word word.Rollback ∷ token.Word word.To ∷ token.Word word.Savepoint ∷ token.Name x.0 ∷ [];
      parts = ap (λ (z : List Token). token.Word word.Rollback ∷ token.Word word.To ∷ z) (after_word_is word.Savepoint ts q eo ∙ ap (λ (z : List Token). token.Word word.Savepoint ∷ z) (name_is q x.0 x.1 ex));
      reads = g.rollback_to_savepoint_;
    }))

to_sound : (ts : List Token) (s : Plan Name) (rest : List Token) → to_at ts ≡ Some (s, rest) → FrontOf IsBody (token.Word word.Rollback ∷ token.Word word.To ∷ ts) s rest
unfolding to_at
to_sound ts s rest h = to_either ts s rest (after_word word.Savepoint ts) refl h

rollback_either : (ts : List Token) (s : Plan Name) (rest : List Token) (o : Option (List Token)) → after_word word.To ts ≡ o → cases o (some (plan_pair rollback ts)) (λ q. to_at q) ≡ some (plan_pair s rest) → FrontOf IsBody (token.Word word.Rollback ∷ ts) s rest
rollback_either ts s rest None eo h = got rollback ts s rest h (record { taken = token.Word word.Rollback ∷ []; parts = refl; reads = g.rollback_ })
rollback_either ts s rest (Some q) eo h = subst (λ (z : List Token). FrontOf IsBody (token.Word word.Rollback ∷ z) s rest) (sym (after_word_is word.To ts q eo)) (to_sound q s rest h)

rollback_sound : (ts : List Token) (s : Plan Name) (rest : List Token) → rollback_at ts ≡ Some (s, rest) → FrontOf IsBody (token.Word word.Rollback ∷ ts) s rest
unfolding rollback_at
rollback_sound ts s rest h = rollback_either ts s rest (after_word word.To ts) refl h

body_sound : SoundOf body_at IsBody
unfolding body_at
body_sound (token.Word word.Select ∷ ts) s rest h = select_sound ts s rest h
body_sound (token.Word word.Insert ∷ ts) s rest h = insert_sound ts s rest h
body_sound (token.Word word.Update ∷ ts) s rest h = update_sound ts s rest h
body_sound (token.Word word.Delete ∷ ts) s rest h = delete_sound ts s rest h
body_sound (token.Word word.Commit ∷ ts) s rest h = got commit ts s rest h (record { taken = token.Word word.Commit ∷ []; parts = refl; reads = g.commit_ })
body_sound (token.Word word.Rollback ∷ ts) s rest h = rollback_sound ts s rest h
body_sound (token.Word word.Savepoint ∷ ts) s rest h = savepoint_sound ts s rest h
body_sound (token.Word word.Set ∷ ts) s rest h = set_sound ts s rest h
body_sound other s rest h = nothing_is (s, rest) h

only_empty : (a : Plan Name) (ts : List Token) (s : Plan Name) → only_if_empty a ts ≡ Some s → (ts ≡ []) × (a ≡ s)
only_empty a [] s e = (refl, same_Some a s e)
only_empty a (t ∷ ts) s e = nothing_is s e

finished : (ts : List Token) (a : Plan Name) (rest : List Token) (s : Plan Name) (o : Option (List Token)) → FrontOf IsBody ts a rest → after_sign sign.Semicolon rest ≡ o → only_if_empty a (cases o rest (λ q. q)) ≡ Some s → IsStatementOf ts s
finished ts a rest s None f e h =
    let k = only_empty a rest s h in
    let all : ts ≡ f.taken = f.parts ∙ ap (λ (z : List Token). f.taken ++ z) k.0 ∙ append-nil f.taken in
    subst (IsStatementOf ts) k.1 (subst (λ (z : List Token). IsStatementOf z a) (sym all) (g.bare f.reads))
finished ts a rest s (Some q) f e h =
    let k = only_empty a q s h in
    let all : ts ≡ f.taken ++ token.Sign sign.Semicolon ∷ [] = f.parts ∙ ap (λ (z : List Token). f.taken ++ z) (after_sign_is sign.Semicolon rest q e ∙ ap (λ (z : List Token). token.Sign sign.Semicolon ∷ z) k.0) in
    subst (IsStatementOf ts) k.1 (subst (λ (z : List Token). IsStatementOf z a) (sym all) (g.ended f.reads))

pub statement_sound : (ts : List Token) (s : Plan Name) → statement_at ts ≡ Some s → IsStatementOf ts s
unfolding statement_at
statement_sound ts s h =
    bind_then (body_at ts) (λ x. only_if_empty x.0 (without_semicolon x.1)) s h (λ x ex e1. finished ts x.0 x.1 s (after_sign sign.Semicolon x.1) (body_sound ts x.0 x.1 ex) refl e1)
