-- The names in the scope of a statement.
use Rattle.std.specs.Prelude.{ℕ, List}
use Rattle.desk_schema.specs.declared.schema.Column.{Column}
use Rattle.desk_schema.specs.Schema.{column_names, columns_of}
use Rattle.sql_eval.specs.declared.scope.Scope.{Scope}

-- the columns of the statement's table
abbrev pub scope_columns : Scope → List Column
scope_columns scope = columns_of scope.schema.now.tables scope.table

-- their names
abbrev pub scope_column_names : Scope → List (List ℕ)
scope_column_names scope = column_names (scope_columns scope)

-- the names of the sequences
abbrev pub scope_sequences : Scope → List (List ℕ)
scope_sequences scope = scope.schema.now.sequences
