-- Where keys stand: what is kept of the committed rows of a table to find a row by its key.
use Rattle.std.specs.Prelude.{◌≡◌, ℕ, ◌<◌, true, false, nat_eq, List, length, slice_index_or, Option, Some}
use Rattle.std.specs.HashMap.{get}
use Rattle.desk_values.specs.declared.value.Image.{Image}
use Rattle.machine_stores.specs.declared.index.KeyIndex.{KeyIndex}
use Rattle.same_keys.specs.Print.{print_of}
use Rattle.row_versions.specs.History.{History}
use Rattle.machine_stores.specs.Tables.{told_at}
use Rattle.server_words.specs.Rows.{of_table, row_key}
use Rattle.server_words.specs.Writes.{is_among}

-- each of the rows that stand at numbers is found by its key, but those that these changes have an image of
abbrev pub FindsRows : (ℕ → Option ℕ) → (ℕ → Option Image) → List Image → Type 0
FindsRows under at changes = (image : Image) → at image.row ≡ Some image
    → is_among changes image ≡ false → under (print_of (row_key image)) ≡ Some image.row

-- the row that an index has under a print
abbrev pub row_under : KeyIndex → ℕ → Option ℕ
row_under index print = get nat_eq index.prints print

-- an index that is kept finds the rows so
abbrev pub HasRows : KeyIndex → (ℕ → Option Image) → List Image → Type 0
HasRows index at changes = index.is_kept ≡ true → FindsRows (row_under index) at changes

-- the same of tables, which are numbered from 0, as they are at a number
abbrev pub AreIndexes : List KeyIndex → List History → ℕ → List Image → Type 0
AreIndexes indexes tables number changes = (table : ℕ) (i : KeyIndex) (h : History) → table < length indexes
    → table < length tables
    → HasRows (slice_index_or indexes table i) (told_at (slice_index_or tables table h).list number) (of_table table changes)
