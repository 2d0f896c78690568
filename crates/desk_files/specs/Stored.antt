-- Files as a map in memory keeps them.
use Rattle.std.specs.Prelude.{List, ℕ, map, String}
use Rattle.std.specs.String.{string_bytes}
use Rattle.std.specs.BTreeMap.{BTreeMap}
use Rattle.std.specs.FinMap.{from_entries}
use Rattle.desk_files.specs.Outside.{FileMap}

-- the bytes at the bytes of each name
abbrev pub files_of : {Y : Type 0} → BTreeMap (String Y) (List ℕ) → FileMap
files_of stored = from_entries (map (λ e. (string_bytes e.0, e.1)) stored.entries)
