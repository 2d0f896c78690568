-- A change of a start: what a record of the file edits, and which start comes of all records.
use Rattle.std.specs.Prelude.{ℕ, zero, suc, ◌≡◌, ◌+◌, ◌^◌, ◌⊎◌, ℤ, Bool, true, false, nat_le, if◌then◌else◌, List, [], ◌∷◌, ◌++◌, Option, None, Some, Result, Ok, Err, slice_get, slice_set, codes}
use Rattle.std.specs.Option.{option_map}
use Rattle.std.specs.List.{remove}
use Rattle.std.specs.Str.{bytes_eq}
use Rattle.csv.specs.Reading.{default_config, records, strip_bom}
use Rattle.desk_values.specs.Reading.{◌>>=◌, integer_of, number_below, number_of, txt_in}
use Rattle.desk_values.specs.Word.{member_with_word}
use Rattle.desk_schema.specs.declared.change.ChangeErr.{ChangeErr}
use Rattle.desk_schema.specs.declared.change.ChangeErr.TheVariants.{BadRow, Memory}
use Rattle.desk_schema.specs.declared.edit.Edit.{Edit}
use Rattle.desk_schema.specs.declared.edit.Edit.TheVariants.{Level, Shape, Next, Grant, Add, Withdraw}
use Rattle.desk_schema.specs.declared.schema.Column.{Column}
use Rattle.desk_schema.specs.declared.schema.Kind.{Kind}
use Rattle.desk_schema.specs.declared.schema.Kind.TheVariants.{Int, Text}
use Rattle.desk_schema.specs.declared.schema.Rights.{Rights}
use Rattle.desk_schema.specs.declared.schema.Service.{Service}
use Rattle.desk_schema.specs.declared.schema.Table.{Table}
use Rattle.desk_schema.specs.File.{IsStart}
use Rattle.desk_schema.specs.Schema.{SchemaView, all_rights, column_names, columns_of, place_of, rights_word, service_names, shape_of, table_names}
use Rattle.desk_schema.specs.Start.{StartView}

-- ---- what a record says

-- a new range, which a column of numbers may get
abbrev pub with_range : ℤ → ℤ → Kind → Option Kind
with_range low high (Int old_low old_high) = Some (Int low high)
with_range low high other = None

-- a new length, which a column of texts may get
abbrev pub with_length : ℕ → Kind → Option Kind
with_length most (Text old) = Some (Text most)
with_length most other = None

-- `notnull` or `null`
abbrev pub nulls_in : List ℕ → Option Bool
nulls_in field = if bytes_eq field (codes "notnull") then Some true else if bytes_eq field (codes "null") then Some false else None

abbrev pub with_kind : Option Kind → Bool → Option (Kind × Bool)
with_kind kind not_null = option_map (λ (k : Kind). (k, not_null)) kind

-- what a record of a column makes of the column's kind and of whether it is not null
abbrev pub new_shape : List ℕ → List (List ℕ) → Kind → Bool → Option (Kind × Bool)
new_shape word (field ∷ []) kind not_null =
    if bytes_eq word (codes "length") then with_kind (number_below (2 ^ 32) field >>= (λ most. with_length most kind)) not_null
    else if bytes_eq word (codes "null") then option_map (λ (nulls : Bool). (kind, nulls)) (nulls_in field) else None
new_shape word (low ∷ high ∷ []) kind not_null =
    if bytes_eq word (codes "range") then with_kind (integer_of low >>= (λ first. integer_of high >>= (λ last. with_range first last kind))) not_null else None
new_shape word fields kind not_null = None

-- a record of the column of this name in the table of this name
abbrev pub shape_edit : SchemaView → List ℕ → List ℕ → List ℕ → List (List ℕ) → Option Edit
shape_edit schema word table column fields = do
  t ← place_of (table_names schema.tables) table
  c ← place_of (column_names (columns_of schema.tables t)) column
  old ← option_map shape_of (slice_get (columns_of schema.tables t) c)
  new ← new_shape word fields old.0 old.1
  Some (Shape t c new.0 new.1)

abbrev pub level_edit : List ℕ → List ℕ → Option Edit
level_edit word field = if bytes_eq word (codes "level") then option_map Level (number_below (2 ^ 32) field) else None

-- the next value of a sequence, which does not fall
abbrev pub next_edit : StartView → List ℕ → List ℕ → Option Edit
next_edit start sequence field = do
  q ← place_of start.schema.sequences sequence
  old ← slice_get start.next_values q
  next ← number_of field
  if nat_le old next then Some (Next q next) else None

-- a service that is there gets the rights; another one is added, if its name is a text
abbrev pub rights_edit : Option ℕ → List ℕ → Rights → Option Edit
rights_edit (Some place) name rights = Some (Grant place rights)
rights_edit None name rights = option_map (λ (text : List ℕ). Add text rights) (txt_in name)

-- `none` takes a service away, which must be there
abbrev pub service_edit : List Service → List ℕ → List ℕ → Option Edit
service_edit services name field = if bytes_eq field (codes "none") then option_map Withdraw (place_of (service_names services) name)
    else member_with_word rights_word all_rights field >>= (λ rights. rights_edit (place_of (service_names services) name) name rights)

-- what a record edits; names are matched byte for byte
abbrev pub edit_of : StartView → List (List ℕ) → Option Edit
edit_of start (word ∷ field ∷ []) = level_edit word field
edit_of start (word ∷ name ∷ field ∷ []) = if bytes_eq word (codes "next") then next_edit start name field
    else if bytes_eq word (codes "service") then service_edit start.schema.services name field else None
edit_of start (word ∷ table ∷ column ∷ field ∷ []) = shape_edit start.schema word table column (field ∷ [])
edit_of start (word ∷ table ∷ column ∷ low ∷ high ∷ []) = shape_edit start.schema word table column (low ∷ high ∷ [])
edit_of start other = None

-- ---- what an edit makes of a start

-- items with the one at a place changed
abbrev pub change_at : {X : Type 0} → (X → X) → ℕ → List X → List X
change_at f n [] = []
change_at f zero (x ∷ xs) = f x ∷ xs
change_at f (suc n) (x ∷ xs) = x ∷ change_at f n xs

abbrev pub with_shape : Kind → Bool → Column → Column
with_shape kind not_null column = record { name = column.name; kind = kind; not_null = not_null }

abbrev pub with_column_at : (Column → Column) → ℕ → Table → Table
with_column_at f c table = record { name = table.name; columns = change_at f c table.columns }

abbrev pub with_rights : Rights → Service → Service
with_rights rights service = record { name = service.name; rights = rights }

abbrev pub edited : Edit → StartView → StartView
edited (Level level) start = record start { schema = record start.schema { level = level } }
edited (Shape t c kind not_null) start = record start { schema = record start.schema { tables = change_at (with_column_at (with_shape kind not_null) c) t start.schema.tables } }
edited (Next q next) start = record start { next_values = slice_set start.next_values q next }
edited (Grant place rights) start = record start { schema = record start.schema { services = change_at (with_rights rights) place start.schema.services } }
edited (Add name rights) start = record start { schema = record start.schema { services = start.schema.services ++ record { name = name; rights = rights } ∷ [] } }
edited (Withdraw place) start = record start { schema = record start.schema { services = remove start.schema.services place } }

-- ---- all records

-- a record may come: it edits the start, and what comes of that keeps the rules
pub record MayChange (start : StartView) (fields : List (List ℕ)) (next : StartView) : Type 0 where
  pub makes : option_map (λ (edit : Edit). edited edit start) (edit_of start fields) ≡ Some next
  pub keeps : IsStart next

-- each record may come after those before it, and they lead to this start
abbrev pub ChangesTo : StartView → List (List (List ℕ)) → StartView → Type 0
ChangesTo start [] last = last ≡ start
ChangesTo start (fields ∷ others) last = (next : StartView) × MayChange start fields next × ChangesTo next others last

-- the first record that may not come is that of this number, counted from 1
abbrev pub IsFirstBad : StartView → List (List (List ℕ)) → ℕ → Type 0
IsFirstBad start [] n = ⊥
IsFirstBad start (fields ∷ others) n = ((n ≡ 1) × ((next : StartView) → ¬ MayChange start fields next))
    ⊎ ((next : StartView) × (m : ℕ) × (n ≡ m + 1) × MayChange start fields next × IsFirstBad next others m)

-- the records of a file
unfoldable pub records_in : List ℕ → List (List (List ℕ))
records_in bytes = records default_config (strip_bom bytes)

-- what a change of the start by the records answers
abbrev pub Changes : StartView → List (List (List ℕ)) → Result StartView ChangeErr → Type 0
Changes start records (Ok next) = ChangesTo start records next
Changes start records (Err (BadRow n)) = IsFirstBad start records n
Changes start records (Err Memory) = Unit {0}
