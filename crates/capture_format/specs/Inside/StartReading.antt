-- What the line of a start file says, where it says something.
use Rattle.std.specs.Prelude.{ℕ, ◌^◌, Bool, true, false, if◌then◌else◌, List, Option, None, Some, codes}
use Rattle.std.specs.Option.{option_map}
use Rattle.std.specs.Str.{bytes_eq}
use Rattle.desk_values.specs.Fields.{cut_at}
use Rattle.desk_values.specs.Reading.{◌>>=◌, number_of, number_below, integer_of, values_of}
use Rattle.desk_values.specs.Word.{member_with_word}
use Rattle.desk_schema.specs.declared.line.StartLine.{StartLine}
use Rattle.desk_schema.specs.declared.line.StartLine.TheVariants as line
use Rattle.desk_schema.specs.declared.line.ColumnKind.{ColumnKind}
use Rattle.desk_schema.specs.declared.line.ColumnKind.TheVariants as kind
use Rattle.desk_schema.specs.declared.schema.Rights.{Rights}
use Rattle.desk_schema.specs.Schema.{rights_word, all_rights}
use Rattle.capture_format.specs.Inside.Fields.{two_of}
use Rattle.capture_format.specs.Inside.NameReading.{as_name}

-- what a service may do
abbrev pub rights_of : List ℕ → Option Rights
rights_of bytes = member_with_word rights_word all_rights bytes

-- whether the column is not null
unfoldable pub nulls_of : List ℕ → Option Bool
nulls_of bytes = if bytes_eq bytes (codes "notnull") then Some true else (if bytes_eq bytes (codes "null") then Some false else None)

-- what a column holds, of this kind, and whether it is not null
unfoldable pub shape_behind : List ℕ → List ℕ → Option (ColumnKind × Bool)
shape_behind word rest = if bytes_eq word (codes "int")
    then option_map (λ p. (kind.Int p.0 p.1.0, p.1.1)) (two_of 32 integer_of (two_of 32 integer_of nulls_of) rest)
    else (if bytes_eq word (codes "text") then option_map (λ p. (kind.Text p.0, p.1)) (two_of 32 (number_below (2 ^ 32)) nulls_of rest)
    else (if bytes_eq word (codes "seq") then option_map (λ p. (kind.Seq p.0, p.1)) (two_of 32 as_name nulls_of rest)
    else None))

unfoldable pub shape_of : List ℕ → Option (ColumnKind × Bool)
shape_of bytes = do
  parts ← cut_at 32 bytes
  shape_behind parts.0 parts.1

-- what a line with this first field says
unfoldable pub line_behind : List ℕ → List ℕ → Option StartLine
line_behind word rest = if bytes_eq word (codes "start") then option_map line.Head (number_below (2 ^ 32) rest)
    else (if bytes_eq word (codes "level") then option_map line.Level (number_below (2 ^ 32) rest)
    else (if bytes_eq word (codes "seq") then option_map (λ p. line.Seq p.0 p.1) (two_of 32 as_name number_of rest)
    else (if bytes_eq word (codes "svc") then option_map (λ p. line.Service p.0 p.1) (two_of 32 as_name rights_of rest)
    else (if bytes_eq word (codes "table") then option_map line.Table (as_name rest)
    else (if bytes_eq word (codes "col") then option_map (λ p. line.Column p.0 p.1.0 p.1.1) (two_of 32 as_name shape_of rest)
    else (if bytes_eq word (codes "row")
    then option_map (λ p. line.Row p.0 p.1.0 p.1.1) (two_of 32 number_of (two_of 32 (number_below (2 ^ 32)) values_of) rest)
    else (if bytes_eq word (codes "nextrow") then option_map line.NextRow (number_of rest)
    else (if bytes_eq word (codes "sessions") then option_map line.Sessions (number_below (2 ^ 32) rest)
    else None))))))))

-- a line of several fields
unfoldable pub worded_of : List ℕ → Option StartLine
worded_of bytes = do
  parts ← cut_at 32 bytes
  line_behind parts.0 parts.1

-- the line of a start file: the last, or one of several fields
unfoldable pub start_line_of : List ℕ → Option StartLine
start_line_of bytes = if bytes_eq bytes (codes "end") then Some line.End else worded_of bytes
