-- A schema as contracts see it, and what is looked up in it.
use Rattle.std.specs.Prelude.{ℕ, ◌≡◌, ◌+◌, ◌≤◌, Bool, if◌then◌else◌, List, [], ◌∷◌, length, map, Option, None, Some, slice_get, codes, refl}
use Rattle.std.specs.Option.{option_map}
use Rattle.std.specs.List.{AllByRecursion}
use Rattle.std.specs.Str.{bytes_eq, str_to_ascii_lowercase, str_eq_ignore_ascii_case}
use Rattle.desk_values.specs.Word.{HasOwnWords, member_with_word}
use Rattle.desk_values.specs.Limits.{table_limit}
use Rattle.desk_schema.specs.Limits.{last_version, sequence_limit, service_limit, column_limit}
use Rattle.desk_schema.specs.declared.schema.Service.{Service}
use Rattle.desk_schema.specs.declared.schema.Table.{Table}
use Rattle.desk_schema.specs.declared.schema.Column.{Column}
use Rattle.desk_schema.specs.declared.schema.Kind.{Kind}
use Rattle.desk_schema.specs.declared.schema.Rights.{Rights}
use Rattle.desk_schema.specs.declared.schema.Rights.TheVariants.{ReadWrite, ReadOnly}

pub record SchemaView : Type 0 where
  -- that of the files
  pub version : ℕ
  pub level : ℕ
  -- the names of the sequences, by number
  pub sequences : List (List ℕ)
  pub services : List Service
  -- the tables, by number
  pub tables : List Table

-- a table has 1 to 16 columns
pub record HasColumns (table : Table) : Type 0 where
  pub least : 1 ≤ length table.columns
  pub most : length table.columns ≤ column_limit

-- a version of the files
pub record IsVersion (version : ℕ) : Type 0 where
  pub least : 1 ≤ version
  pub most : version ≤ last_version

-- its version, and how much a schema holds
pub record IsSchema (schema : SchemaView) : Type 0 where
  pub version : IsVersion schema.version
  pub sequences : length schema.sequences ≤ sequence_limit
  pub services : length schema.services ≤ service_limit
  pub tables : length schema.tables ≤ table_limit
  pub columns : AllByRecursion HasColumns schema.tables

-- the word of a service's rights
abbrev pub rights_word : Rights → List ℕ
rights_word ReadWrite = codes "rw"
rights_word ReadOnly = codes "ro"

abbrev pub all_rights : List Rights
all_rights = ReadWrite ∷ ReadOnly ∷ []

-- each is found by its word
pub rights_have_own_words : HasOwnWords rights_word all_rights
unfolding member_with_word
rights_have_own_words ReadWrite = refl
rights_have_own_words ReadOnly = refl

-- the place of the first name that passes the test
abbrev pub place_where : (List ℕ → Bool) → List (List ℕ) → Option ℕ
place_where test [] = None
place_where test (first ∷ others) = if test first then Some 0 else option_map (λ place. place + 1) (place_where test others)

-- the place of the first name that is this one
abbrev pub place_of : List (List ℕ) → List ℕ → Option ℕ
place_of names name = place_where (λ other. bytes_eq other name) names

-- the place of the first name that is this one but for the case of ASCII letters
abbrev pub place_ignoring_case : List (List ℕ) → List ℕ → Option ℕ
place_ignoring_case names name = place_where (λ other. str_eq_ignore_ascii_case other name) names

-- no name is this one, whatever the case of its ASCII letters
abbrev pub IsNoName : List (List ℕ) → List ℕ → Type 0
IsNoName names name = AllByRecursion (λ other. ¬ (str_to_ascii_lowercase other ≡ str_to_ascii_lowercase name)) names

abbrev pub table_names : List Table → List (List ℕ)
table_names tables = map (λ table. table.name) tables

abbrev pub column_names : List Column → List (List ℕ)
column_names columns = map (λ column. column.name) columns

abbrev pub service_names : List Service → List (List ℕ)
service_names services = map (λ service. service.name) services

-- a table's columns, none where there is no such table
abbrev pub columns_in : Option Table → List Column
columns_in None = []
columns_in (Some table) = table.columns

abbrev pub columns_of : List Table → ℕ → List Column
columns_of tables place = columns_in (slice_get tables place)

-- a column's kind, and whether it is not null
abbrev pub shape_of : Column → Kind × Bool
shape_of column = (column.kind, column.not_null)

-- the rights of the first service of this name
abbrev pub rights_of : List Service → List ℕ → Option Rights
rights_of [] name = None
rights_of (service ∷ services) name = if bytes_eq service.name name then Some service.rights else rights_of services name
