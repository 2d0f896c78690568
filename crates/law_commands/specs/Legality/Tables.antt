-- Which tables a call speaks of, told without sets of bits.
use Rattle.std.specs.Prelude.{◌≡◌, ℕ, ◌<◌, ◌⊎◌, true, false, List, [], ◌∷◌, Some}
use Rattle.desk_values.specs.declared.value.Image.{Image}
use Rattle.desk_values.specs.declared.call.Call.{Call}
use Rattle.desk_values.specs.declared.call.Call.TheVariants.{Connect, Sql, Disconnect}
use Rattle.desk_values.specs.declared.capture.Captured.{Captured}
use Rattle.desk_schema.specs.Schema.{SchemaView}
use Rattle.sql_reader.specs.Reading.{statement_of}
use Rattle.sql_tree.specs.Plain.{Name, Plan, set_read_only}
use Rattle.server_words.specs.Request.{table_named}
use Rattle.server_words.specs.Step.{committed_in}
use Rattle.replay_history.specs.Capture.{commits}
use Rattle.desk_values.specs.Limits.{table_limit}

-- some of the images is of the table
abbrev pub IsAmong : ℕ → List Image → Type 0
IsAmong table [] = ⊥
IsAmong table (image ∷ images) = (image.table ≡ table) ⊎ IsAmong table images

-- the call is a commit that changed rows of the table
abbrev pub Writes : Captured → ℕ → Type 0
Writes call table = IsAmong table (committed_in call.reply.outcome)

-- a statement speaks of the one table that it names, where the schema has it; reads of one moment speak of all
abbrev pub SpeaksOf : SchemaView → Plan Name → ℕ → Type 0
SpeaksOf schema set_read_only table = table < table_limit
SpeaksOf schema statement table = table_named schema statement ≡ Some table

-- the call asks for a statement that speaks of the table, whatever came of it
abbrev pub AsksFor : SchemaView → Call → ℕ → Type 0
AsksFor schema (Sql text binds) table = (statement : Plan Name) × (statement_of text ≡ Some statement) × SpeaksOf schema statement table
AsksFor schema (Connect service) table = ⊥
AsksFor schema Disconnect table = ⊥

-- a numbered commit references what it wrote, any other call what it asks for
abbrev pub References : SchemaView → Captured → ℕ → Type 0
References schema call table = ((commits call.reply.outcome ≡ true) × Writes call table)
    ⊎ ((commits call.reply.outcome ≡ false) × AsksFor schema call.call table)
