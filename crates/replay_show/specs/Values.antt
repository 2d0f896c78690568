-- How values, rows, images and replies are shown to people.
use Rattle.std.specs.Prelude.{ℕ, ◌==◌, if◌then◌else◌, List, [], ◌∷◌, ◌++◌, codes, length, slice_get, Option, None, Some}
use Rattle.std.specs.Fmt.{decimal, signed_decimal}
use Rattle.std.specs.List.{flat_map}
use Rattle.desk_values.specs.declared.value.Value.{Value}
use Rattle.desk_values.specs.declared.value.Value.TheVariants.{Null, Int, Text, Row, Draw}
use Rattle.desk_values.specs.declared.value.Image.{Image}
use Rattle.desk_values.specs.declared.call.Outcome.{Outcome}
use Rattle.desk_values.specs.declared.call.Outcome.TheVariants.{Rows, Count, Committed, RolledBack, Marked, Connected, Disconnected, Refused}
use Rattle.desk_values.specs.declared.call.Call.{Call}
use Rattle.desk_values.specs.declared.call.Call.TheVariants.{Connect, Sql, Disconnect}
use Rattle.desk_values.specs.declared.call.Reply.{Reply}
use Rattle.desk_values.specs.declared.fault.Fault.{Fault}
use Rattle.desk_values.specs.declared.fault.Fault.TheVariants.{Syntax, UnknownTable, UnknownColumn, UnknownSequence, UnknownService, Kinds, BindMissing, Locked, DuplicateKey, NullValue, OutOfRange, TextTooLong, ZeroDivisor, Overflow, ReadOnly, NotConnected, AlreadyConnected, UnderWay, TooManyRows, NoSavepoint}
use Rattle.desk_values.specs.Fault.{fault_number}
use Rattle.desk_schema.specs.Schema.{SchemaView}
use Rattle.desk_schema.specs.declared.schema.Table.{Table}
use Rattle.replay_show.specs.Texts.{quoted, shown}

-- each so, with a comma and a space between
abbrev pub listed : {X : Type 0} → (X → List ℕ) → List X → List ℕ
listed f [] = []
listed f (x ∷ xs) = f x ++ flat_map (λ y. codes ", " ++ f y) xs

-- how many of what
abbrev pub counted : ℕ → List ℕ → List ℕ → List ℕ
counted n one many = decimal n ++ (if n == 1 then one else many)

-- ---- values

abbrev pub sequence_named : Option (List ℕ) → ℕ → List ℕ
sequence_named None n = codes "sequence " ++ decimal n
sequence_named (Some name) n = name

-- by the name of its sequence, where there is one
abbrev pub sequence_shown : SchemaView → ℕ → List ℕ
sequence_shown schema n = sequence_named (slice_get schema.sequences n) n

abbrev pub value_shown : SchemaView → Value → List ℕ
value_shown schema Null = codes "null"
value_shown schema (Int z) = signed_decimal z
value_shown schema (Text text) = quoted text
value_shown schema (Row n) = codes "row " ++ decimal n
value_shown schema (Draw sequence n) = sequence_shown schema sequence ++ (codes " " ++ decimal n)

abbrev pub row_shown : SchemaView → List Value → List ℕ
row_shown schema values = codes "(" ++ (listed (value_shown schema) values ++ codes ")")

-- ---- images

abbrev pub table_named : Option Table → ℕ → List ℕ
table_named None n = codes "table " ++ decimal n
table_named (Some table) n = table.name

abbrev pub table_shown : SchemaView → ℕ → List ℕ
table_shown schema n = table_named (slice_get schema.tables n) n

abbrev pub left_shown : SchemaView → Option (List Value) → List ℕ
left_shown schema None = codes " gone"
left_shown schema (Some values) = codes " = " ++ row_shown schema values

abbrev pub image_shown : SchemaView → Image → List ℕ
image_shown schema image = table_shown schema image.table ++ (codes " row " ++ (decimal image.row ++ left_shown schema image.left))

-- ---- replies

abbrev pub cause_shown : Fault → List ℕ
cause_shown Syntax = codes "the text is no statement"
cause_shown UnknownTable = codes "no such table"
cause_shown UnknownColumn = codes "no such column, or one named twice"
cause_shown UnknownSequence = codes "no such sequence"
cause_shown UnknownService = codes "no such service"
cause_shown Kinds = codes "parts that do not go together"
cause_shown BindMissing = codes "no value for a bind"
cause_shown Locked = codes "another session holds the row or key"
cause_shown DuplicateKey = codes "the key is there already"
cause_shown NullValue = codes "Null in a column that is not null"
cause_shown OutOfRange = codes "a number out of its column's range"
cause_shown TextTooLong = codes "a text longer than its column"
cause_shown ZeroDivisor = codes "division by zero"
cause_shown Overflow = codes "overflow"
cause_shown ReadOnly = codes "only reading is allowed"
cause_shown NotConnected = codes "the session is not connected"
cause_shown AlreadyConnected = codes "connected already"
cause_shown UnderWay = codes "a transaction is under way"
cause_shown TooManyRows = codes "over 1,000 rows matched or changed"
cause_shown NoSavepoint = codes "no such savepoint"

abbrev pub rows_shown : SchemaView → List (List Value) → List ℕ
rows_shown schema [] = codes "no row"
rows_shown schema (row ∷ rows) = counted (length (row ∷ rows)) (codes " row: ") (codes " rows: ") ++ listed (row_shown schema) (row ∷ rows)

abbrev pub images_shown : SchemaView → List Image → List ℕ
images_shown schema [] = codes "committed nothing"
images_shown schema (image ∷ images) = codes "committed: " ++ listed (image_shown schema) (image ∷ images)

abbrev pub outcome_shown : SchemaView → Outcome → List ℕ
outcome_shown schema (Rows rows) = rows_shown schema rows
outcome_shown schema (Count n) = counted n (codes " row written") (codes " rows written")
outcome_shown schema (Committed images) = images_shown schema images
outcome_shown schema RolledBack = codes "rolled back"
outcome_shown schema Marked = codes "marked"
outcome_shown schema Connected = codes "connected"
outcome_shown schema Disconnected = codes "disconnected"
outcome_shown schema (Refused fault) = codes "refused: " ++ (cause_shown fault ++ (codes " (" ++ (decimal (fault_number fault) ++ codes ")")))

abbrev pub draws_shown : SchemaView → List Value → List ℕ
draws_shown schema [] = []
draws_shown schema (draw ∷ draws) = codes ", drew " ++ listed (value_shown schema) (draw ∷ draws)

abbrev pub made_shown : Option ℕ → List ℕ
made_shown None = []
made_shown (Some row) = codes ", made row " ++ decimal row

abbrev pub reply_shown : SchemaView → Reply → List ℕ
reply_shown schema reply = outcome_shown schema reply.outcome ++ (draws_shown schema reply.draws ++ made_shown reply.made)

-- ---- calls

-- what is asked, in one line; its binds stand in lines of their own
abbrev pub call_shown : Call → List ℕ
call_shown (Connect service) = codes "connect " ++ shown service
call_shown (Sql text binds) = shown text
call_shown Disconnect = codes "disconnect"
