-- What a call asks for, once its service is looked up or its text is read and checked.
use Rattle.std.specs.Prelude.{ℕ, Bool, true, false, ◌&&◌, nat_eq, if◌then◌else◌, List, Option, None, Some, Result, Ok, Err}
use Rattle.std.specs.Option.{option_and_then}
use Rattle.desk_values.specs.declared.value.Value.{Value}
use Rattle.desk_values.specs.declared.call.Call.{Call}
use Rattle.desk_values.specs.declared.call.Call.TheVariants.{Connect, Sql, Disconnect}
use Rattle.desk_values.specs.declared.fault.Fault.{Fault}
use Rattle.desk_schema.specs.declared.schema.Rights.{Rights}
use Rattle.desk_schema.specs.Schema.{SchemaView, place_ignoring_case, rights_of, table_names}
use Rattle.sql_reader.specs.Reading.{statement_of}
use Rattle.sql_eval.specs.Check.{check_of}
use Rattle.sql_eval.specs.SchemaNames.{table_of}
use Rattle.sql_tree.specs.Plain.{Name, Plan, savepoint, rollback_to}

pub data Request : Type 0 where
  -- a connection, with the rights of its service where there is such a service
  connect : Option Rights → Request
  disconnect : Request
  -- a text that is no statement
  unreadable : Request
  -- a statement that a check refuses, with its table where the schema has it
  unsound : Option ℕ → Fault → Request
  -- a checked statement and its binds
  statement : Plan ℕ → List Value → Request

-- the number of the table that a statement names, where the schema has it
abbrev pub table_named : SchemaView → Plan (List ℕ) → Option ℕ
table_named schema parsed = option_and_then (place_ignoring_case (table_names schema.tables)) (table_of parsed)

abbrev pub checked : Option ℕ → List Value → Result (Plan ℕ) Fault → Request
checked table binds (Ok plan) = statement plan binds
checked table binds (Err fault) = unsound table fault

abbrev pub read : SchemaView → List Value → Option (Plan (List ℕ)) → Request
read schema binds None = unreadable
read schema binds (Some parsed) = checked (table_named schema parsed) binds (check_of schema binds parsed)

-- the statement is one on savepoints
abbrev pub names_savepoint : {N : Type 0} → Plan N → Bool
names_savepoint (savepoint name) = true
names_savepoint (rollback_to name) = true
names_savepoint other = false

-- the statement, where a server of this version has it: at version 1 there are no savepoints
abbrev pub known_in : ℕ → Plan Name → Option (Plan Name)
known_in version parsed = if nat_eq version 1 && names_savepoint parsed then None else Some parsed

-- the statement that a text is to a server of this version
abbrev pub statement_in : ℕ → List ℕ → Option (Plan Name)
statement_in version text = option_and_then (known_in version) (statement_of text)

abbrev pub request_of : SchemaView → Call → Request
request_of schema (Connect service) = connect (rights_of schema.services service)
request_of schema Disconnect = disconnect
request_of schema (Sql text binds) = read schema binds (statement_in schema.version text)

abbrev pub table_in : Request → Option ℕ
table_in (statement plan binds) = table_of plan
table_in (unsound table fault) = table
table_in other = None
