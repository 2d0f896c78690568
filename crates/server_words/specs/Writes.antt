-- What INSERT, UPDATE and DELETE write and hold, and what may be wrong with it.
use Rattle.std.specs.Prelude.{ℕ, ◌+◌, Bool, false, ◌&&◌, ◌||◌, not, ◌==◌, nat_eq, nat_lt, if◌then◌else◌, List, [], ◌∷◌, ◌++◌, map, length, slice_get, slice_set, Option, None, Some, Result, Ok}
use Rattle.std.specs.Option.{unwrap_or, option_and_then}
use Rattle.std.specs.Ordering.{is_lt, int_cmp}
use Rattle.std.specs.List.{filter, flat_map, list_any, position}
use Rattle.desk_values.specs.declared.value.Value.{Value}
use Rattle.desk_values.specs.declared.value.Value.TheVariants.{Null, Int, Text}
use Rattle.desk_values.specs.declared.value.Image.{Image}
use Rattle.desk_values.specs.declared.fault.Fault.{Fault}
use Rattle.desk_values.specs.Comparison.{same_key}
use Rattle.desk_schema.specs.declared.schema.Kind.{Kind}
use Rattle.desk_schema.specs.declared.schema.Kind.TheVariants as kind
use Rattle.desk_schema.specs.declared.schema.Column.{Column}
use Rattle.sql_tree.specs.Plain.{Term, Entry, value, drawn, Change}
use Rattle.sql_eval.specs.Value.{is_null_value, value_of}
use Rattle.server_words.specs.declared.session.HeldKey.{HeldKey}
use Rattle.server_words.specs.declared.session.Transaction.{Transaction}
use Rattle.server_words.specs.declared.effect.Writing.{Writing}
use Rattle.sql_eval.specs.Totals.{values_in}
use Rattle.server_words.specs.Rows.{noted, row_key}
use Rattle.server_words.specs.Found.{Environment, sound, values_for}
use Rattle.server_words.specs.Draws.{drawn_value}

-- ---- new images

abbrev pub targets : List (Change ℕ) → List ℕ
targets changes = map (λ (c : Change ℕ). c.column) changes

abbrev pub sources : List (Change ℕ) → List (Term ℕ)
sources changes = map (λ (c : Change ℕ). c.to) changes

-- the values with each of these columns set to the new value at its place
abbrev pub assigned : List Value → List ℕ → List Value → List Value
assigned olds [] news = olds
assigned olds columns [] = olds
assigned olds (column ∷ columns) (new ∷ news) = assigned (slice_set olds column new) columns news

abbrev pub is_empty_text : Value → Bool
is_empty_text (Text text) = nat_eq (length text) 0
is_empty_text other = false

-- a value as a row keeps it: at level 2 a text of no bytes is Null
abbrev pub stored : ℕ → Value → Value
stored level new = if is_empty_text new && level == 2 then Null else new

-- what an UPDATE sets in a row: all new values are taken of the old ones
abbrev pub set_values : Environment → List (Change ℕ) → Image → List Value
set_values env changes image = map (stored env.level) (values_for env (sources changes) image)

-- the row as an UPDATE leaves it
abbrev pub updated : Environment → List (Change ℕ) → Image → Image
updated env changes image = record image { left = Some (assigned (values_in image) (targets changes) (set_values env changes image)) }

-- the row as a DELETE leaves it
abbrev pub gone : Image → Image
gone image = record image { left = None }

-- an input: there is no row yet that it could name
abbrev pub input_value : Environment → List Value → Entry ℕ → Result Value Fault
input_value env draws (value e) = value_of env.level 0 [] env.binds e
input_value env draws (drawn sequence) = Ok (drawn_value draws sequence)

-- the inputs as the row keeps them
abbrev pub inputs_for : Environment → List Value → List (Entry ℕ) → List Value
inputs_for env draws entries = map (λ (entry : Entry ℕ). stored env.level (sound (input_value env draws entry))) entries

-- the place of a column's input: where the column is listed; without a list the columns are given in their order
abbrev pub input_place : Option (List ℕ) → ℕ → Option ℕ
input_place None column = Some column
input_place (Some named) column = position (nat_eq column) named

-- the value that is given for a column: Null where none is
abbrev pub column_value : Option (List ℕ) → List Value → ℕ → Value
column_value named inputs number = unwrap_or (option_and_then (slice_get inputs) (input_place named number)) Null

-- the values of a new row, one for each column
abbrev pub row_values : Option (List ℕ) → List Value → ℕ → List Column → List Value
row_values named inputs number [] = []
row_values named inputs number (column ∷ columns) = column_value named inputs number ∷ row_values named inputs (number + 1) columns

-- ---- the tests of a new image, column by column

-- a Null where none may be
abbrev pub violates_not_null : Column → Value → Bool
violates_not_null column new = column.not_null && is_null_value new

abbrev pub exceeds_length : Kind → Value → Bool
exceeds_length (kind.Text most) (Text text) = nat_lt most (length text)
exceeds_length kind other = false

abbrev pub leaves_range : Kind → Value → Bool
leaves_range (kind.Int low high) (Int n) = is_lt (int_cmp n low) || is_lt (int_cmp high n)
leaves_range kind other = false

abbrev pub exceeds : Column → Value → Bool
exceeds column new = exceeds_length column.kind new

abbrev pub leaves : Column → Value → Bool
leaves column new = leaves_range column.kind new

-- some column's value fails the test
abbrev pub any_column : (Column → Value → Bool) → List Column → List Value → Bool
any_column fails [] news = false
any_column fails columns [] = false
any_column fails (column ∷ columns) (new ∷ news) = fails column new || any_column fails columns news

-- some row's value does
abbrev pub any_value : (Column → Value → Bool) → List Column → List Image → Bool
any_value fails columns images = list_any (λ (image : Image). any_column fails columns (values_in image)) images

-- two of these keys are one
unfoldable pub repeats_key : ℕ → List Value → Bool
repeats_key level [] = false
repeats_key level (key ∷ keys) = list_any (same_key level key) keys || repeats_key level keys

-- ---- how many rows a transaction changes

abbrev pub is_among : List Image → Image → Bool
is_among images image = list_any (λ (other : Image). nat_eq other.row image.row) images

-- those that it has changed, and these, which it has not changed before or has
abbrev pub changed_rows : List Image → List Image → ℕ
changed_rows changes found = length changes + length (filter (λ (image : Image). not (is_among changes image)) found)

-- ---- what is held

-- the rows in the order in which they came to be held, each once
abbrev pub with_row : List ℕ → ℕ → List ℕ
with_row held row = if list_any (nat_eq row) held then held else held ++ row ∷ []

abbrev pub with_rows : List ℕ → List ℕ → List ℕ
with_rows held [] = held
with_rows held (row ∷ rows) = with_rows (with_row held row) rows

-- keys are held as they are: two that differ are two, whatever the level (no key that is held is Null)
abbrev pub is_held_key : ℕ → Value → HeldKey → Bool
is_held_key table key held = nat_eq held.table table && same_key 1 held.key key

abbrev pub with_key : ℕ → List HeldKey → Value → List HeldKey
with_key table held key = if list_any (is_held_key table key) held then held else held ++ record { table = table; key = key } ∷ []

abbrev pub with_keys : ℕ → List HeldKey → List Value → List HeldKey
with_keys table held [] = held
with_keys table held (key ∷ keys) = with_keys table (with_key table held key) keys

-- the transaction with what a statement on a table writes and holds
abbrev pub holding : ℕ → Transaction → Writing → Transaction
holding table own writing = record { changes = noted own.changes writing.images; rows = with_rows own.rows writing.rows; keys = with_keys table own.keys writing.keys }

-- the key is one of those that others hold
abbrev pub is_locked_key : ℕ → List Value → Value → Bool
is_locked_key level locked key = list_any (same_key level key) locked

-- an UPDATE changes the row's key
abbrev pub moves_key : Environment → List (Change ℕ) → Image → Bool
moves_key env changes image = not (same_key env.level (row_key image) (row_key (updated env changes image)))

-- the old and the new key of a row whose key it changes
abbrev pub keys_moved : Environment → List (Change ℕ) → Image → List Value
keys_moved env changes image = if moves_key env changes image then row_key image ∷ row_key (updated env changes image) ∷ [] else []

-- those of all rows
abbrev pub moved_keys : Environment → List (Change ℕ) → List Image → List Value
moved_keys env changes found = flat_map (keys_moved env changes) found
