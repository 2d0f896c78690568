-- Names of tables, columns and sequences in a statement, and the numbers for them.
use Rattle.std.specs.Prelude.{ℕ, Bool, false, ◌||◌, nat_eq, List, [], ◌∷◌, Option, None, Some, is_none}
use Rattle.std.specs.Option.{unwrap_or}
use Rattle.std.specs.List.{list_any}
use Rattle.desk_schema.specs.declared.schema.Table.{Table}
use Rattle.desk_schema.specs.declared.schema.Column.{Column}
use Rattle.desk_schema.specs.Schema.{SchemaView, column_names, columns_of, place_ignoring_case, table_names}
use Rattle.sql_tree.specs.Plain.{Name, Plan}
use Rattle.sql_tree.specs.Plain as source
use Rattle.sql_tree.specs.Naming.{Naming, map_plan}

-- no name of the list is this one
abbrev pub is_unknown : List (List ℕ) → List ℕ → Bool
is_unknown names name = is_none (place_ignoring_case names name)

-- the number of a name; 0 for a name that is not there
abbrev pub number_of : List (List ℕ) → List ℕ → ℕ
number_of names name = unwrap_or (place_ignoring_case names name) 0

-- ---- tables

-- the table of a statement
abbrev pub table_of : {N : Type 0} → Plan N → Option N
table_of (source.select table asked condition keys held) = Some table
table_of (source.next sequence) = None
table_of (source.insert table named inputs) = Some table
table_of (source.update table settings condition) = Some table
table_of (source.delete table condition) = Some table
table_of source.commit = None
table_of source.rollback = None
table_of source.set_read_only = None
table_of (source.savepoint name) = None
table_of (source.rollback_to name) = None

-- the statement's table is one that there is not
abbrev pub is_unknown_table : List Table → Option (List ℕ) → Bool
is_unknown_table tables None = false
is_unknown_table tables (Some name) = is_unknown (table_names tables) name

-- the number of a table; 0 where there is none
abbrev pub table_number : List Table → Option (List ℕ) → ℕ
table_number tables None = 0
table_number tables (Some name) = number_of (table_names tables) name

-- ---- numbers for names

-- the numbers that names stand for, where this is the number of the statement's table
abbrev pub numbers : ℕ → List (List ℕ) → List (List ℕ) → Naming (List ℕ) ℕ
numbers number names sequences = record { table = λ table. number; column = number_of names; sequence = number_of sequences }

-- the columns of the statement's table
abbrev pub columns_at : SchemaView → Plan Name → List Column
columns_at schema statement = columns_of schema.tables (table_number schema.tables (table_of statement))

-- the statement with numbers for names
abbrev pub numbered : SchemaView → Plan Name → Plan ℕ
numbered schema statement = map_plan (numbers (table_number schema.tables (table_of statement)) (column_names (columns_at schema statement)) schema.sequences) statement

-- two members of the list have one number
abbrev pub has_twice : {X : Type 0} → (X → ℕ) → List X → Bool
has_twice number [] = false
has_twice number (first ∷ others) = list_any (λ other. nat_eq (number other) (number first)) others || has_twice number others
