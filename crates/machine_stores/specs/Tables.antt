-- Tables as they are kept: of each the versions of its rows.
use Rattle.std.specs.Prelude.{◌≡◌, ℕ, ◌<◌, ◌≤◌, nat_lt, if◌then◌else◌, List, [], ◌∷◌, ◌++◌, map, take, length, slice_index_or, Option, None, Some}
use Rattle.std.specs.List.{AllByRecursion}
use Rattle.desk_values.specs.declared.value.Image.{Image}
use Rattle.row_versions.specs.History.{History, IsPartOf, ReadsStay, Written, left_of, row_at as version_at}
use Rattle.server_words.specs.declared.session.Session.{Session}
use Rattle.server_words.specs.Rows.{lay_all, of_table, row_at}

-- the rows of a table after these commits
abbrev pub rows_after : List Image → List (List Image) → ℕ → List Image
rows_after start commits table = lay_all (of_table table start) (map (of_table table) commits)

-- what versions tell of a row at a number: nothing where it is gone
abbrev pub told_at : List Written → ℕ → ℕ → Option Image
told_at list number row = left_of (version_at list row number)

abbrev pub is_within : ℕ → Written → Type 0
is_within number written = written.number ≤ number

-- no version has a number over this one, and reads may go by this one
pub record IsWithin (number : ℕ) (history : History) : Type 0 where
  pub floor : history.floor ≤ number
  pub list : AllByRecursion (is_within number) history.list

-- from a number on, they tell the rows of a table after so many of these commits
pub record Tells (low : ℕ) (start : List Image) (commits : List (List Image)) (table : ℕ) (history : History) : Type 0 where
  pub floor : history.floor ≤ low
  pub list : AllByRecursion (is_within (length commits)) history.list
  pub each : (row n : ℕ) → low ≤ n → n ≤ length commits → told_at history.list n row ≡ row_at row (rows_after start (take n commits) table)

-- the same of tables, which are numbered from 0
abbrev pub AreTold : ℕ → List Image → List (List Image) → List History → Type 0
AreTold low start commits tables = (table : ℕ) (h : History) → table < length tables → Tells low start commits table (slice_index_or tables table h)

abbrev pub AreWithin : ℕ → List History → Type 0
AreWithin number tables = (table : ℕ) (h : History) → table < length tables → IsWithin number (slice_index_or tables table h)

-- reads may go by this number
abbrev pub AreFrom : ℕ → List History → Type 0
AreFrom number tables = (table : ℕ) (h : History) → table < length tables → (slice_index_or tables table h).floor ≤ number

-- how many of so many commits a session sees: all, or as many as the number that it reads at
abbrev pub count_seen : Option ℕ → ℕ → ℕ
count_seen None count = count
count_seen (Some number) count = if nat_lt number count then number else count

-- the least number that one of the sessions reads at, or this one
abbrev pub least_seen : ℕ → List Session → ℕ
least_seen count [] = count
least_seen count (session ∷ sessions) = least_seen (count_seen session.snapshot count) sessions

-- ---- what a commit writes

abbrev pub written : ℕ → Image → Written
written number image = record { number = number; image = image }

-- the images stand behind the others, with this number
pub record IsPut (number : ℕ) (images : List Image) (old new : History) : Type 0 where
  pub list : new.list ≡ old.list ++ map (written number) images
  pub floor : new.floor ≡ old.floor

-- the same of tables
pub record ArePut (number : ℕ) (images : List Image) (old new : List History) : Type 0 where
  pub count : length new ≡ length old
  pub each : (table : ℕ) (h : History) → table < length old → IsPut number (of_table table images) (slice_index_or old table h) (slice_index_or new table h)

-- reads go by this number and later ones from now on, and find what they found
pub record IsForgot (number : ℕ) (old new : History) : Type 0 where
  pub reads : ReadsStay number old.list new.list
  pub fewer : IsPartOf new.list old.list
  pub floor : new.floor ≤ number

-- the same of tables
pub record AreForgot (number : ℕ) (old new : List History) : Type 0 where
  pub count : length new ≡ length old
  pub each : (table : ℕ) (h : History) → table < length old → IsForgot number (slice_index_or old table h) (slice_index_or new table h)
