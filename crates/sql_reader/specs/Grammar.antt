-- The statement that tokens spell, with one case for each rule of the grammar.
use Rattle.std.specs.Prelude.{◌≡◌, ℕ, suc, ◌≤◌, ℤ, Bool, true, false, List, [], ◌∷◌, ◌++◌, length, Option, None, Some}
use Rattle.sql_tree.specs.declared.tree.Op.{Op}
use Rattle.sql_tree.specs.declared.tree.Op.TheVariants as op
use Rattle.sql_tree.specs.declared.tree.Key.{Key}
use Rattle.sql_tree.specs.Plain.{Name}
use Rattle.sql_reader.specs.declared.part.Part.{Part}
use Rattle.sql_reader.specs.Limits.{list_limit, nesting_limit}
use Rattle.sql_reader.specs.declared.part.Part.TheVariants.{Disjunction, Conjunction, Negation, Comparison, Sum, Product, Factor, Primary}
use Rattle.desk_values.specs.declared.keyword.Keyword.TheVariants as word
use Rattle.sql_reader.specs.declared.token.Sign.TheVariants as sign
use Rattle.sql_reader.specs.declared.token.Token.{Token}
use Rattle.sql_reader.specs.declared.token.Token.TheVariants as token
use Rattle.sql_tree.specs.Plain.{Term, null, int, text, bind, column, rowid, neg, not, bin, is_null, not_null, Total, count, total, least, greatest, Entry, value, drawn, Change, Asked, columns, values, totals, Plan, select, next, insert, update, delete, commit, rollback, set_read_only, savepoint, rollback_to, Name}

-- the part of an expression in which the operator stands
abbrev pub line_of : Op → Part
line_of op.Or = Disjunction
line_of op.And = Conjunction
line_of op.Eq = Comparison
line_of op.Ne = Comparison
line_of op.Lt = Comparison
line_of op.Le = Comparison
line_of op.Gt = Comparison
line_of op.Ge = Comparison
line_of op.Add = Sum
line_of op.Sub = Sum
line_of op.Mul = Product
line_of op.Div = Product

-- how loose a part of an expression is
abbrev pub looseness : Part → ℕ
looseness Primary = 0
looseness Factor = 1
looseness Product = 2
looseness Sum = 3
looseness Comparison = 4
looseness Negation = 5
looseness Conjunction = 6
looseness Disjunction = 7

-- what stands before an operator of the line without parentheses
abbrev pub left_of : Part → Part
left_of Comparison = Sum
left_of line = line

-- what stands after an operator of the line without parentheses
abbrev pub right_of : Part → Part
right_of Disjunction = Conjunction
right_of Conjunction = Negation
right_of Comparison = Sum
right_of Sum = Product
right_of other = Factor

-- the token of each operator
abbrev pub operator_token : Op → Token
operator_token op.Or = token.Word word.Or
operator_token op.And = token.Word word.And
operator_token op.Eq = token.Sign sign.Equal
operator_token op.Ne = token.Sign sign.NotEqual
operator_token op.Lt = token.Sign sign.Less
operator_token op.Le = token.Sign sign.LessOrEqual
operator_token op.Gt = token.Sign sign.Greater
operator_token op.Ge = token.Sign sign.GreaterOrEqual
operator_token op.Add = token.Sign sign.Plus
operator_token op.Sub = token.Sign sign.Minus
operator_token op.Mul = token.Sign sign.Star
operator_token op.Div = token.Sign sign.Slash

-- Parses part depth tokens e: the tokens are the expression e as that part, where parentheses, NOT and unary minus
-- nest at most depth deep. a - b - c is (a - b) - c, and so on every line.
pub data Parses : Part → ℕ → List Token → Term Name → Type 0 where
  conjunction : {d : ℕ} {ts : List Token} {e : Term Name} → Parses Conjunction d ts e → Parses Disjunction d ts e
  or_ : {d : ℕ} {ts us : List Token} {o : Op} {a b : Term Name} → line_of o ≡ Disjunction
      → Parses Disjunction d ts a → Parses Conjunction d us b
      → Parses Disjunction d (ts ++ operator_token o ∷ us) (bin o a b)
  negation : {d : ℕ} {ts : List Token} {e : Term Name} → Parses Negation d ts e → Parses Conjunction d ts e
  and_ : {d : ℕ} {ts us : List Token} {o : Op} {a b : Term Name} → line_of o ≡ Conjunction
      → Parses Conjunction d ts a → Parses Negation d us b
      → Parses Conjunction d (ts ++ operator_token o ∷ us) (bin o a b)
  comparison : {d : ℕ} {ts : List Token} {e : Term Name} → Parses Comparison d ts e → Parses Negation d ts e
  not_ : {d : ℕ} {ts : List Token} {e : Term Name} → Parses Negation d ts e
      → Parses Negation (suc d) (token.Word word.Not ∷ ts) (not e)
  sum_ : {d : ℕ} {ts : List Token} {e : Term Name} → Parses Sum d ts e → Parses Comparison d ts e
  compare_ : {d : ℕ} {ts us : List Token} {o : Op} {a b : Term Name} → line_of o ≡ Comparison
      → Parses Sum d ts a → Parses Sum d us b → Parses Comparison d (ts ++ operator_token o ∷ us) (bin o a b)
  is_null_ : {d : ℕ} {ts : List Token} {e : Term Name} → Parses Sum d ts e
      → Parses Comparison d (ts ++ token.Word word.Is ∷ token.Word word.Null ∷ []) (is_null e)
  not_null_ : {d : ℕ} {ts : List Token} {e : Term Name} → Parses Sum d ts e
      → Parses Comparison d (ts ++ token.Word word.Is ∷ token.Word word.Not ∷ token.Word word.Null ∷ []) (not_null e)
  product : {d : ℕ} {ts : List Token} {e : Term Name} → Parses Product d ts e → Parses Sum d ts e
  add_ : {d : ℕ} {ts us : List Token} {o : Op} {a b : Term Name} → line_of o ≡ Sum → Parses Sum d ts a
      → Parses Product d us b → Parses Sum d (ts ++ operator_token o ∷ us) (bin o a b)
  factor : {d : ℕ} {ts : List Token} {e : Term Name} → Parses Factor d ts e → Parses Product d ts e
  multiply_ : {d : ℕ} {ts us : List Token} {o : Op} {a b : Term Name} → line_of o ≡ Product
      → Parses Product d ts a → Parses Factor d us b → Parses Product d (ts ++ operator_token o ∷ us) (bin o a b)
  primary : {d : ℕ} {ts : List Token} {e : Term Name} → Parses Primary d ts e → Parses Factor d ts e
  minus_ : {d : ℕ} {ts : List Token} {e : Term Name} → Parses Factor d ts e
      → Parses Factor (suc d) (token.Sign sign.Minus ∷ ts) (neg e)
  number : {d : ℕ} {n : ℤ} → Parses Primary d (token.Number n ∷ []) (int n)
  string : {d : ℕ} {t : List ℕ} → Parses Primary d (token.Text t ∷ []) (text t)
  null_ : {d : ℕ} → Parses Primary d (token.Word word.Null ∷ []) null
  bind_ : {d : ℕ} {n : ℕ} → Parses Primary d (token.Bind n ∷ []) (bind n)
  name : {d : ℕ} {n : List ℕ} → Parses Primary d (token.Name n ∷ []) (column n)
  rowid_ : {d : ℕ} → Parses Primary d (token.Word word.Rowid ∷ []) rowid
  parentheses : {d : ℕ} {ts : List Token} {e : Term Name} → Parses Disjunction d ts e
      → Parses Primary (suc d) (token.Sign sign.Open ∷ (ts ++ token.Sign sign.Close ∷ [])) e

-- an expression, nested no deeper than the limit
abbrev pub IsExpression : List Token → Term Name → Type 0
IsExpression ts e = Parses Disjunction nesting_limit ts e

-- members with commas between them
pub data Joined {A : Type 0} (IsMember : List Token → A → Type 0) : List Token → List A → Type 0 where
  last : {ts : List Token} {x : A} → IsMember ts x → Joined IsMember ts (x ∷ [])
  more : {ts us : List Token} {x : A} {xs : List A} → IsMember ts x → Joined IsMember us xs
      → Joined IsMember (ts ++ token.Sign sign.Comma ∷ us) (x ∷ xs)

-- a list is no longer than the limit
abbrev pub IsList : {A : Type 0} → (List Token → A → Type 0) → List Token → List A → Type 0
IsList IsMember ts xs = Joined IsMember ts xs × (length xs ≤ list_limit)

-- one name
pub data IsName : List Token → List ℕ → Type 0 where
  name : {n : List ℕ} → IsName (token.Name n ∷ []) n

-- a column to order by: ascending where nothing is said
pub data IsKey : List Token → Key Name → Type 0 where
  plain : {n : List ℕ} → IsKey (token.Name n ∷ []) (record { column = n; desc = false })
  ascending : {n : List ℕ} → IsKey (token.Name n ∷ token.Word word.Asc ∷ []) (record { column = n; desc = false })
  descending : {n : List ℕ} → IsKey (token.Name n ∷ token.Word word.Desc ∷ []) (record { column = n; desc = true })

-- COUNT of a star, or SUM, MIN or MAX of an expression in parentheses
pub data IsAggregate : List Token → Total Name → Type 0 where
  count_ : IsAggregate (token.Word word.Count ∷ token.Sign sign.Open ∷ token.Sign sign.Star ∷ token.Sign sign.Close ∷ []) count
  sum_ : {ts : List Token} {e : Term Name} → IsExpression ts e
      → IsAggregate (token.Word word.Sum ∷ token.Sign sign.Open ∷ (ts ++ token.Sign sign.Close ∷ [])) (total e)
  min_ : {ts : List Token} {e : Term Name} → IsExpression ts e
      → IsAggregate (token.Word word.Min ∷ token.Sign sign.Open ∷ (ts ++ token.Sign sign.Close ∷ [])) (least e)
  max_ : {ts : List Token} {e : Term Name} → IsExpression ts e
      → IsAggregate (token.Word word.Max ∷ token.Sign sign.Open ∷ (ts ++ token.Sign sign.Close ∷ [])) (greatest e)

-- a value of an INSERT: an expression, or the next value of a sequence
pub data IsInput : List Token → Entry Name → Type 0 where
  value_ : {ts : List Token} {e : Term Name} → IsExpression ts e → IsInput ts (value e)
  next_ : {n : List ℕ} → IsInput (token.Name n ∷ token.Sign sign.Dot ∷ token.Word word.Nextval ∷ []) (drawn n)

-- a column, an equals sign and its new value
pub data IsSetting : List Token → Change Name → Type 0 where
  set_ : {n : List ℕ} {ts : List Token} {e : Term Name} → IsExpression ts e
      → IsSetting (token.Name n ∷ token.Sign sign.Equal ∷ ts) (record { column = n; to = e })

-- which rows: all of them where nothing stands
pub data IsWhere : List Token → Option (Term Name) → Type 0 where
  all_ : IsWhere [] None
  where_ : {ts : List Token} {e : Term Name} → IsExpression ts e → IsWhere (token.Word word.Where ∷ ts) (Some e)

-- the order of the rows: by row where nothing stands
pub data IsOrder : List Token → List (Key Name) → Type 0 where
  by_row : IsOrder [] []
  by_keys : {ts : List Token} {keys : List (Key Name)} → IsList IsKey ts keys
      → IsOrder (token.Word word.Order ∷ token.Word word.By ∷ ts) keys

-- whether the rows are held
pub data IsForUpdate : List Token → Bool → Type 0 where
  free : IsForUpdate [] false
  held : IsForUpdate (token.Word word.For ∷ token.Word word.Update ∷ []) true

-- what a SELECT of rows asks for
pub data IsSelection : List Token → Asked Name → Type 0 where
  star : IsSelection (token.Sign sign.Star ∷ []) columns
  list : {ts : List Token} {es : List (Term Name)} → IsList IsExpression ts es → IsSelection ts (values es)

-- the columns that an INSERT gives: all of them where none is named
pub data IsColumns : List Token → Option (List (List ℕ)) → Type 0 where
  all_ : IsColumns [] None
  some_ : {ts : List Token} {names : List (List ℕ)} → IsList IsName ts names
      → IsColumns (token.Sign sign.Open ∷ (ts ++ token.Sign sign.Close ∷ [])) (Some names)

-- a statement without the semicolon at its end
pub data IsBody : List Token → Plan Name → Type 0 where
  select_ : {ts ws os fs : List Token} {items : Asked Name} {table : List ℕ} {condition : Option
      (Term Name)} {keys : List (Key Name)} {for_update : Bool}
      → IsSelection ts items → IsWhere ws condition → IsOrder os keys → IsForUpdate fs for_update
      → IsBody (token.Word word.Select ∷ (ts ++ token.Word word.From ∷ token.Name table ∷ (ws ++ (os ++ fs))))
      (select table items condition keys for_update)
  aggregate_ : {ts ws : List Token} {items : List (Total Name)} {table : List ℕ} {condition : Option (Term Name)}
      → IsList IsAggregate ts items → IsWhere ws condition
      → IsBody (token.Word word.Select ∷ (ts ++ token.Word word.From ∷ token.Name table ∷ ws))
      (select table (totals items) condition [] false)
  draw_ : {n : List ℕ}
      → IsBody
      (token.Word word.Select ∷ token.Name n ∷ token.Sign sign.Dot ∷ token.Word word.Nextval
      ∷ token.Word word.From ∷ token.Word word.Dual ∷ [])
      (next n)
  insert_ : {cs is : List Token} {table : List ℕ} {names : Option (List (List ℕ))} {inputs : List (Entry Name)}
      → IsColumns cs names → IsList IsInput is inputs
      → IsBody
      (token.Word word.Insert ∷ token.Word word.Into ∷ token.Name table
      ∷ (cs ++ token.Word word.Values ∷ token.Sign sign.Open ∷ (is ++ token.Sign sign.Close ∷ [])))
      (insert table names inputs)
  update_ : {ss ws : List Token} {table : List ℕ} {settings : List (Change Name)} {condition : Option (Term Name)}
      → IsList IsSetting ss settings → IsWhere ws condition
      → IsBody (token.Word word.Update ∷ token.Name table ∷ token.Word word.Set ∷ (ss ++ ws)) (update table settings condition)
  delete_ : {ws : List Token} {table : List ℕ} {condition : Option (Term Name)} → IsWhere ws condition
      → IsBody (token.Word word.Delete ∷ token.Word word.From ∷ token.Name table ∷ ws) (delete table condition)
  commit_ : IsBody (token.Word word.Commit ∷ []) commit
  rollback_ : IsBody (token.Word word.Rollback ∷ []) rollback
  set_read_only_ : IsBody
      (token.Word word.Set ∷ token.Word word.Transaction ∷ token.Word word.Read ∷ token.Word word.Only ∷ []) set_read_only
  savepoint_ : {n : List ℕ} → IsBody (token.Word word.Savepoint ∷ token.Name n ∷ []) (savepoint n)
  rollback_to_ : {n : List ℕ} → IsBody (token.Word word.Rollback ∷ token.Word word.To ∷ token.Name n ∷ []) (rollback_to n)
  rollback_to_savepoint_ : {n : List ℕ}
      → IsBody (token.Word word.Rollback ∷ token.Word word.To ∷ token.Word word.Savepoint ∷ token.Name n ∷ []) (rollback_to n)

-- a statement, with or without a semicolon at its end
pub data IsStatementOf : List Token → Plan Name → Type 0 where
  bare : {ts : List Token} {s : Plan Name} → IsBody ts s → IsStatementOf ts s
  ended : {ts : List Token} {s : Plan Name} → IsBody ts s → IsStatementOf (ts ++ token.Sign sign.Semicolon ∷ []) s
