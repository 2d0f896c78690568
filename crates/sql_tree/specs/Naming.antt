-- Trees with each name another.
use Rattle.std.specs.Prelude.{List, Option, None, Some, map}
use Rattle.sql_tree.specs.declared.tree.Key.{Key}
use Rattle.sql_tree.specs.Plain.{Term, null, int, text, bind, column, rowid, neg, not, bin, is_null, not_null, Total, count, total, least, greatest, Entry, value, drawn, Change, Asked, columns, values, totals, Plan, select, next, insert, update, delete, commit, rollback, set_read_only, savepoint, rollback_to}

-- what gives tables, columns and sequences other names
pub record Naming (A B : Type 0) : Type 0 where
  pub table : A → B
  pub column : A → B
  pub sequence : A → B

abbrev pub map_term : {A B : Type 0} → (A → B) → Term A → Term B
map_term f null = null
map_term f (int n) = int n
map_term f (text t) = text t
map_term f (bind n) = bind n
map_term f (column name) = column (f name)
map_term f rowid = rowid
map_term f (neg e) = neg (map_term f e)
map_term f (not e) = not (map_term f e)
map_term f (bin op a b) = bin op (map_term f a) (map_term f b)
map_term f (is_null e) = is_null (map_term f e)
map_term f (not_null e) = not_null (map_term f e)

abbrev pub map_condition : {A B : Type 0} → (A → B) → Option (Term A) → Option (Term B)
map_condition f None = None
map_condition f (Some e) = Some (map_term f e)

abbrev pub map_total : {A B : Type 0} → (A → B) → Total A → Total B
map_total f count = count
map_total f (total e) = total (map_term f e)
map_total f (least e) = least (map_term f e)
map_total f (greatest e) = greatest (map_term f e)

abbrev pub map_entry : {A B : Type 0} → Naming A B → Entry A → Entry B
map_entry by (value e) = value (map_term by.column e)
map_entry by (drawn name) = drawn (by.sequence name)

abbrev pub map_change : {A B : Type 0} → (A → B) → Change A → Change B
map_change f change = record { column = f change.column; to = map_term f change.to }

abbrev pub map_key : {A B : Type 0} → (A → B) → Key A → Key B
map_key f key = record { column = f key.column; desc = key.desc }

abbrev pub map_asked : {A B : Type 0} → (A → B) → Asked A → Asked B
map_asked f columns = columns
map_asked f (values es) = values (map (map_term f) es)
map_asked f (totals as_) = totals (map (map_total f) as_)

abbrev pub map_named : {A B : Type 0} → (A → B) → Option (List A) → Option (List B)
map_named f None = None
map_named f (Some names) = Some (map f names)

abbrev pub map_plan : {A B : Type 0} → Naming A B → Plan A → Plan B
map_plan by (select table asked condition keys held) = select (by.table table) (map_asked by.column asked) (map_condition by.column condition) (map (map_key by.column) keys) held
map_plan by (next sequence) = next (by.sequence sequence)
map_plan by (insert table named inputs) = insert (by.table table) (map_named by.column named) (map (map_entry by) inputs)
map_plan by (update table changes condition) = update (by.table table) (map (map_change by.column) changes) (map_condition by.column condition)
map_plan by (delete table condition) = delete (by.table table) (map_condition by.column condition)
map_plan by commit = commit
map_plan by rollback = rollback
map_plan by set_read_only = set_read_only
map_plan by (savepoint name) = savepoint name
map_plan by (rollback_to name) = rollback_to name
