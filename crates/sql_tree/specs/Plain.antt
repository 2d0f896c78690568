-- Trees of statements, without where they lie in memory.
use Rattle.std.specs.Prelude.{ℕ, ℤ, List, Option, None, Some, Bool, map}
use Rattle.sql_tree.specs.declared.tree.Op.{Op}
use Rattle.sql_tree.specs.declared.tree.Key.{Key}
use Rattle.sql_tree.specs.declared.tree.Expr.{Expr}
use Rattle.sql_tree.specs.declared.tree.Expr.TheVariants as expr
use Rattle.sql_tree.specs.declared.tree.Agg.{Agg}
use Rattle.sql_tree.specs.declared.tree.Agg.TheVariants as agg
use Rattle.sql_tree.specs.declared.tree.Input.{Input}
use Rattle.sql_tree.specs.declared.tree.Input.TheVariants as input
use Rattle.sql_tree.specs.declared.tree.Setting.{Setting}
use Rattle.sql_tree.specs.declared.tree.Items.{Items}
use Rattle.sql_tree.specs.declared.tree.Items.TheVariants as items
use Rattle.sql_tree.specs.declared.tree.Statement.{Statement}
use Rattle.sql_tree.specs.declared.tree.Statement.TheVariants as statement

-- an expression
pub data Term (N : Type 0) : Type 0 where
  null : Term N
  int : ℤ → Term N
  text : List ℕ → Term N
  bind : ℕ → Term N
  column : N → Term N
  rowid : Term N
  neg : Term N → Term N
  not : Term N → Term N
  bin : Op → Term N → Term N → Term N
  is_null : Term N → Term N
  not_null : Term N → Term N

-- a value over all rows
pub data Total (N : Type 0) : Type 0 where
  count : Total N
  total : Term N → Total N
  least : Term N → Total N
  greatest : Term N → Total N

-- a value of an INSERT: an expression, or a draw from a sequence
pub data Entry (N : Type 0) : Type 0 where
  value : Term N → Entry N
  drawn : N → Entry N

-- a new value of a column
pub record Change (N : Type 0) : Type 0 where
  pub column : N
  pub to : Term N

-- what a SELECT asks for
pub data Asked (N : Type 0) : Type 0 where
  columns : Asked N
  values : List (Term N) → Asked N
  totals : List (Total N) → Asked N

-- the tree of a statement
pub data Plan (N : Type 0) : Type 0 where
  select : N → Asked N → Option (Term N) → List (Key N) → Bool → Plan N
  next : N → Plan N
  insert : N → Option (List N) → List (Entry N) → Plan N
  update : N → List (Change N) → Option (Term N) → Plan N
  delete : N → Option (Term N) → Plan N
  commit : Plan N
  rollback : Plan N
  set_read_only : Plan N
  savepoint : List ℕ → Plan N
  rollback_to : List ℕ → Plan N

-- what a name is where a text is read: its bytes, in lower case
abbrev pub Name : Type 0
Name = List ℕ

-- ---- of the trees in memory, for any kind of name

-- the plain tree of an expression
abbrev pub term_of : {N : Type 0} → Expr N → Term N
term_of expr.Null = null
term_of (expr.Int n) = int n
term_of (expr.Text t) = text t
term_of (expr.Bind n) = bind n
term_of (expr.Column name) = column name
term_of expr.RowId = rowid
term_of (expr.Neg' p e) = neg (term_of e)
term_of (expr.Not' p e) = not (term_of e)
term_of (expr.Bin' op p a q b) = bin op (term_of a) (term_of b)
term_of (expr.IsNull' p e) = is_null (term_of e)
term_of (expr.NotNull' p e) = not_null (term_of e)

-- the plain tree of an expression that may be absent
abbrev pub condition_of : {N : Type 0} → Option (Expr N) → Option (Term N)
condition_of None = None
condition_of (Some e) = Some (term_of e)

-- the plain tree of an aggregate
abbrev pub total_of : {N : Type 0} → Agg N → Total N
total_of agg.Count = count
total_of (agg.Sum e) = total (term_of e)
total_of (agg.Min e) = least (term_of e)
total_of (agg.Max e) = greatest (term_of e)

-- the plain tree of a value of an INSERT
abbrev pub entry_of : {N : Type 0} → Input N → Entry N
entry_of (input.Expr e) = value (term_of e)
entry_of (input.Next name) = drawn name

-- the plain tree of a new value of a column
abbrev pub change_of : {N : Type 0} → Setting N → Change N
change_of setting = record { column = setting.column; to = term_of setting.to }

-- the plain tree of what a SELECT asks for
abbrev pub asked_of : {N : Type 0} → Items N → Asked N
asked_of items.All = columns
asked_of (items.Exprs es) = values (map term_of es)
asked_of (items.Aggs as_) = totals (map total_of as_)

-- the plain tree of a statement
abbrev pub plan_of : {N : Type 0} → Statement N → Plan N
plan_of (statement.Select table items condition keys held) = select table (asked_of items) (condition_of condition) keys held
plan_of (statement.Next sequence) = next sequence
plan_of (statement.Insert table named inputs) = insert table named (map entry_of inputs)
plan_of (statement.Update table settings condition) = update table (map change_of settings) (condition_of condition)
plan_of (statement.Delete table condition) = delete table (condition_of condition)
plan_of statement.Commit = commit
plan_of statement.Rollback = rollback
plan_of statement.SetReadOnly = set_read_only
plan_of (statement.Savepoint name) = savepoint name
plan_of (statement.RollbackTo name) = rollback_to name
