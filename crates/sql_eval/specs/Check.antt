-- The faults that the checks find in a statement, each told by the names and leaves that stand in it, and their order.
use Rattle.std.specs.Prelude.{ℕ, Bool, true, false, ◌||◌, not, nat_eq, nat_lt, List, [], ◌∷◌, length, map, Option, None, Some, Result, Ok}
use Rattle.std.specs.Option.{unwrap_or}
use Rattle.std.specs.List.{filter_map, find, list_any}
use Rattle.desk_values.specs.declared.value.Value.{Value}
use Rattle.desk_values.specs.declared.fault.Fault.{Fault}
use Rattle.desk_values.specs.declared.fault.Fault.TheVariants.{UnknownTable, UnknownColumn, UnknownSequence, BindMissing, Kinds}
use Rattle.desk_schema.specs.Schema.{SchemaView, column_names}
use Rattle.sql_tree.specs.declared.tree.Key.{Key}
use Rattle.sql_tree.specs.Plain.{Name, Term, Entry, Change, Plan}
use Rattle.sql_tree.specs.Plain as tree
use Rattle.sql_tree.specs.Leaves.{plan_leaves}
use Rattle.sql_eval.specs.Faults.{unless_told}
use Rattle.sql_eval.specs.Kinds.{kinds_agree}
use Rattle.sql_eval.specs.SchemaNames.{columns_at, has_twice, is_unknown, is_unknown_table, number_of, numbered, table_of}

-- ---- what stands in a statement

-- a column that the table lacks
abbrev pub is_unknown_column : List Name → Term Name → Bool
is_unknown_column names (tree.column name) = is_unknown names name
is_unknown_column names other = false

-- a column, or ROWID
abbrev pub is_of_row : Term Name → Bool
is_of_row (tree.column name) = true
is_of_row tree.rowid = true
is_of_row other = false

-- a bind whose number is over the number of binds, or 0
abbrev pub is_missing_bind : ℕ → Term Name → Bool
is_missing_bind count (tree.bind n) = nat_eq n 0 || nat_lt count n
is_missing_bind count other = false

-- its expressions have a column that they may not have: those of an INSERT may have none, any others those of its table
abbrev pub misplaces_column : List Name → Plan Name → Bool
misplaces_column names (tree.insert table named entries) = list_any is_of_row (plan_leaves (tree.insert table named entries))
misplaces_column names statement = list_any (is_unknown_column names) (plan_leaves statement)

-- the columns that it names outside of its expressions: in ORDER BY, in an INSERT's list and in SET
abbrev pub listed_columns : {N : Type 0} → Plan N → List N
listed_columns (tree.select table asked condition keys held) = map (λ (key : Key _). key.column) keys
listed_columns (tree.insert table named entries) = unwrap_or named []
listed_columns (tree.update table changes condition) = map (λ (c : Change _). c.column) changes
listed_columns other = []

-- those of them that get a value
abbrev pub given_columns : {N : Type 0} → Plan N → List N
given_columns (tree.select table asked condition keys held) = []
given_columns other = listed_columns other

-- the sequence of an input
abbrev pub entry_sequence : {N : Type 0} → Entry N → Option N
entry_sequence (tree.value e) = None
entry_sequence (tree.drawn sequence) = Some sequence

-- the sequences that it draws from
abbrev pub drawn_sequences : {N : Type 0} → Plan N → List N
drawn_sequences (tree.next sequence) = sequence ∷ []
drawn_sequences (tree.insert table named entries) = filter_map entry_sequence entries
drawn_sequences other = []

-- ---- the faults

-- the fault applies to the statement with these binds, whatever else applies
abbrev pub applies : SchemaView → List Value → Plan Name → Fault → Bool
applies schema binds statement UnknownTable = is_unknown_table schema.tables (table_of statement)
applies schema binds statement UnknownColumn =
    let names = column_names (columns_at schema statement) in
    misplaces_column names statement || list_any (is_unknown names) (listed_columns statement) || has_twice (number_of names) (given_columns statement)
applies schema binds statement UnknownSequence = list_any (is_unknown schema.sequences) (drawn_sequences statement)
applies schema binds statement BindMissing = list_any (is_missing_bind (length binds)) (plan_leaves statement)
applies schema binds statement Kinds = not (kinds_agree (columns_at schema statement) binds (numbered schema statement))
applies schema binds statement other = false

-- the first of these faults that applies
unfoldable pub first_fault : SchemaView → List Value → Plan Name → Option Fault
first_fault schema binds statement = find (applies schema binds statement) (UnknownTable ∷ UnknownColumn ∷ UnknownSequence ∷ BindMissing ∷ Kinds ∷ [])

-- the statement with numbers for names, or the first fault
abbrev pub check_of : SchemaView → List Value → Plan Name → Result (Plan ℕ) Fault
check_of schema binds statement = unless_told (first_fault schema binds statement) (Ok (numbered schema statement))
