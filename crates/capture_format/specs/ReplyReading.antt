-- What the bytes of a reply say: the reply whose text they are, where there is one.
use Rattle.std.specs.Prelude.{ℕ, ◌^◌, ◌==◌, if◌then◌else◌, List, [], ◌∷◌, ◌++◌, length, drop, slice_index, Option, None, Some, codes}
use Rattle.std.specs.Option.{option_map}
use Rattle.std.specs.Str.{bytes_eq}
use Rattle.desk_values.specs.Limits.{table_limit}
use Rattle.desk_values.specs.declared.value.Value.{Value}
use Rattle.desk_values.specs.declared.value.Image.{Image}
use Rattle.desk_values.specs.declared.call.Outcome.{Outcome}
use Rattle.desk_values.specs.declared.call.Outcome.TheVariants.{Rows, Count, Committed, RolledBack, Marked, Connected, Disconnected, Refused}
use Rattle.desk_values.specs.declared.call.Reply.{Reply}
use Rattle.desk_values.specs.declared.fault.Fault.{Fault}
use Rattle.desk_values.specs.Fault.{fault_numbered}
use Rattle.desk_values.specs.Fields.{cut_at, pieces}
use Rattle.desk_values.specs.Good.{rows_ascend, all_draws}
use Rattle.desk_values.specs.Reading.{◌>>=◌, at_end, number_of, number_below, each_of, values_of}

-- the values whose text this is, where there is at least one
unfoldable pub filled_of : List ℕ → Option (List Value)
filled_of bytes = do
  values ← values_of bytes
  if length values == 0 then None else Some values

-- rows without their `]`, and behind the last one nothing
unfoldable pub open_rows_of : List (List ℕ) → Option (List (List Value))
open_rows_of [] = None
open_rows_of (last ∷ []) = at_end last []
open_rows_of (piece ∷ next ∷ others) = do
  row ← filled_of (piece ++ 93 ∷ [])
  rows ← open_rows_of (next ∷ others)
  Some (row ∷ rows)

-- the rows whose text this is
unfoldable pub rows_of : List ℕ → Option (List (List Value))
rows_of bytes = if bytes_eq bytes (codes "-") then Some [] else (if length bytes == 0 then None else open_rows_of (pieces 93 bytes))

-- the values of an image, or None where the row is gone
unfoldable pub left_of : List ℕ → Option (Option (List Value))
left_of bytes = if bytes_eq bytes (codes "gone") then Some None else option_map Some (filled_of bytes)

-- the image whose text this is
unfoldable pub image_of : List ℕ → Option Image
image_of bytes = do
  parts ← cut_at 58 bytes
  row ← number_of parts.0
  others ← cut_at 58 parts.1
  table ← number_below table_limit others.0
  left ← left_of others.1
  Some (record { row = row; table = table; left = left })

-- the images whose text this is
unfoldable pub images_of : List ℕ → Option (List Image)
images_of bytes = if bytes_eq bytes (codes "-") then Some [] else (do
  images ← each_of image_of (pieces 59 bytes)
  if rows_ascend images then Some images else None)

-- the fault whose number this is
abbrev pub fault_of : List ℕ → Option Fault
fault_of field = number_below (2 ^ 32) field >>= fault_numbered

-- the outcome of a word with a field behind it
unfoldable pub field_outcome_of : List ℕ → List ℕ → Option Outcome
field_outcome_of word field = if bytes_eq word (codes "rows") then option_map Rows (rows_of field)
    else (if bytes_eq word (codes "count") then option_map Count (number_of field)
    else (if bytes_eq word (codes "committed") then option_map Committed (images_of field)
    else (if bytes_eq word (codes "refused") then option_map Refused (fault_of field)
    else None)))

-- the outcome of a word alone
unfoldable pub word_outcome_of : List ℕ → Option Outcome
word_outcome_of word = if bytes_eq word (codes "rolledback") then Some RolledBack
    else (if bytes_eq word (codes "marked") then Some Marked
    else (if bytes_eq word (codes "connected") then Some Connected
    else (if bytes_eq word (codes "disconnected") then Some Disconnected
    else None)))

-- the outcome of a word that may stand alone, or else of the word and the field behind it; and what is left
abbrev pub outcome_behind : List ℕ → List ℕ → Option Outcome → Option (Outcome × List ℕ)
outcome_behind word rest (Some outcome) = Some (outcome, rest)
outcome_behind word rest None = do
  parts ← cut_at 32 rest
  outcome ← field_outcome_of word parts.0
  Some (outcome, parts.1)

-- the outcome at the front, and what is left behind a space
unfoldable pub outcome_of : List ℕ → Option (Outcome × List ℕ)
outcome_of bytes = do
  parts ← cut_at 32 bytes
  outcome_behind parts.0 parts.1 (word_outcome_of parts.0)

-- the draws whose text this is
unfoldable pub draws_of : List ℕ → Option (List Value)
draws_of bytes = do
  values ← values_of bytes
  if all_draws values then Some values else None

-- the made row, or None
unfoldable pub made_of : List ℕ → Option (Option ℕ)
made_of bytes = if bytes_eq bytes (codes "-") then Some None
    else (if slice_index bytes 0 == 114 then option_map Some (number_of (drop 1 bytes)) else None)

-- the reply whose text this is
unfoldable pub reply_of : List ℕ → Option Reply
reply_of bytes = do
  front ← outcome_of bytes
  parts ← cut_at 32 front.1
  draws ← draws_of parts.0
  made ← made_of parts.1
  Some (record { outcome = front.0; draws = draws; made = made })
