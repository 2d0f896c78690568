-- The leaves of expressions and of statements.
use Rattle.std.specs.Prelude.{List, [], ◌∷◌, ◌++◌, Option, None, Some}
use Rattle.std.specs.List.{flat_map}
use Rattle.sql_tree.specs.Plain.{Term, null, int, text, bind, column, rowid, neg, not, bin, is_null, not_null, Total, count, total, least, greatest, Entry, value, drawn, Change, Asked, columns, values, totals, Plan, select, next, insert, update, delete, commit, rollback, set_read_only, savepoint, rollback_to}

-- the parts of an expression that have no parts themselves, from left to right
abbrev pub leaves : {N : Type 0} → Term N → List (Term N)
leaves null = null ∷ []
leaves (int n) = int n ∷ []
leaves (text t) = text t ∷ []
leaves (bind n) = bind n ∷ []
leaves (column name) = column name ∷ []
leaves rowid = rowid ∷ []
leaves (neg e) = leaves e
leaves (not e) = leaves e
leaves (bin op a b) = leaves a ++ leaves b
leaves (is_null e) = leaves e
leaves (not_null e) = leaves e

-- those of a condition: none where there is no condition
abbrev pub condition_leaves : {N : Type 0} → Option (Term N) → List (Term N)
condition_leaves None = []
condition_leaves (Some e) = leaves e

-- those of a value over all rows
abbrev pub total_leaves : {N : Type 0} → Total N → List (Term N)
total_leaves count = []
total_leaves (total e) = leaves e
total_leaves (least e) = leaves e
total_leaves (greatest e) = leaves e

-- those of what a SELECT asks for
abbrev pub asked_leaves : {N : Type 0} → Asked N → List (Term N)
asked_leaves columns = []
asked_leaves (values es) = flat_map leaves es
asked_leaves (totals ts) = flat_map total_leaves ts

-- those of a value of an INSERT
abbrev pub entry_leaves : {N : Type 0} → Entry N → List (Term N)
entry_leaves (value e) = leaves e
entry_leaves (drawn sequence) = []

-- those of a new value of a column
abbrev pub change_leaves : {N : Type 0} → Change N → List (Term N)
change_leaves change = leaves change.to

-- those of all the expressions of a statement
abbrev pub plan_leaves : {N : Type 0} → Plan N → List (Term N)
plan_leaves (select table asked condition keys held) = asked_leaves asked ++ condition_leaves condition
plan_leaves (next sequence) = []
plan_leaves (insert table named entries) = flat_map entry_leaves entries
plan_leaves (update table changes condition) = flat_map change_leaves changes ++ condition_leaves condition
plan_leaves (delete table condition) = condition_leaves condition
plan_leaves commit = []
plan_leaves rollback = []
plan_leaves set_read_only = []
plan_leaves (savepoint name) = []
plan_leaves (rollback_to name) = []
