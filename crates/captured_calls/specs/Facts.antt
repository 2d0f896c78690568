-- What is known of each call, once a capture is legal.
use Rattle.std.specs.Prelude.{ℕ, ◌-◌, ◌^◌, bit_or, if◌then◌else◌, List, map, Option, None, Some}
use Rattle.std.specs.List.{fold}
use Rattle.desk_values.specs.declared.value.Image.{Image}
use Rattle.desk_values.specs.declared.call.Call.{Call}
use Rattle.desk_values.specs.declared.call.Call.TheVariants.{Connect, Sql, Disconnect}
use Rattle.desk_values.specs.declared.capture.Captured.{Captured}
use Rattle.desk_schema.specs.Schema.{SchemaView}
use Rattle.sql_reader.specs.Reading.{statement_of}
use Rattle.sql_tree.specs.Plain.{Name, Plan, set_read_only}
use Rattle.server_words.specs.Request.{table_named}
use Rattle.server_words.specs.Step.{committed_in}
use Rattle.replay_history.specs.Capture.{commits}
use Rattle.object_depends.specs.declared.fact.Fact.{Fact}
use Rattle.desk_values.specs.Limits.{table_limit}

-- a set of tables: a bit for each
abbrev pub with_table : ℕ → ℕ → ℕ
with_table tables table = bit_or tables (2 ^ table)

abbrev pub all_tables : ℕ
all_tables = 2 ^ table_limit - 1

abbrev pub tables_of_images : List Image → ℕ
tables_of_images images = fold (λ tables image. with_table tables image.table) 0 images

-- the tables that a numbered commit wrote
abbrev pub writes_of : Captured → ℕ
writes_of call = tables_of_images (committed_in call.reply.outcome)

abbrev pub only_table : Option ℕ → ℕ
only_table None = 0
only_table (Some table) = 2 ^ table

-- the tables that a statement speaks of: its own where the schema has it; all of them before reads of one moment
abbrev pub refs_of_statement : SchemaView → Option (Plan Name) → ℕ
refs_of_statement schema None = 0
refs_of_statement schema (Some set_read_only) = all_tables
refs_of_statement schema (Some statement) = only_table (table_named schema statement)

-- what a call asks for decides by its text alone, also where it was refused
abbrev pub refs_of_call : SchemaView → Call → ℕ
refs_of_call schema (Sql text binds) = refs_of_statement schema (statement_of text)
refs_of_call schema (Connect service) = 0
refs_of_call schema Disconnect = 0

-- a numbered commit references what it wrote, any other call what it asks for
abbrev pub refs_of : SchemaView → Captured → ℕ
refs_of schema call = if commits call.reply.outcome then writes_of call else refs_of_call schema call.call

abbrev pub fact_of : SchemaView → Captured → Fact
fact_of schema call = record { session = call.session; seen = call.seen; number = call.number; refs = refs_of schema call; writes = writes_of call }

unfoldable pub facts_of : SchemaView → List Captured → List Fact
facts_of schema calls = map (fact_of schema) calls
