-- What the line of a report says, where it says something.
use Rattle.std.specs.Prelude.{ℕ, ◌^◌, if◌then◌else◌, List, Option, None, Some, codes}
use Rattle.std.specs.Option.{option_map}
use Rattle.std.specs.Str.{bytes_eq}
use Rattle.desk_values.specs.Fields.{cut_at}
use Rattle.desk_values.specs.Reading.{◌>>=◌, number_of, number_below}
use Rattle.desk_values.specs.Word.{member_with_word}
use Rattle.capture_format.specs.Inside.Fields.{two_of}
use Rattle.replay_history.specs.declared.report.Class.{Class}
use Rattle.replay_history.specs.Class.{all_classes, class_word}
use Rattle.report_format.specs.declared.line.ReportLine.{ReportLine}
use Rattle.report_format.specs.declared.line.ReportLine.TheVariants.{Head, Calls, Count, Call, End}

-- the class with this word
abbrev pub class_named : List ℕ → Option Class
class_named word = member_with_word class_word all_classes word

-- the call that differs, with this stamp before the other fields
unfoldable pub call_of : List ℕ → List ℕ → Option ReportLine
call_of word rest = do
  stamp ← number_below (2 ^ 32) word
  fields ← two_of 32 (number_below (2 ^ 32)) (two_of 32 (number_below (2 ^ 32)) class_named) rest
  Some (Call (record { stamp = stamp; session = fields.0; place = fields.1.0; class = fields.1.1 }))

-- the count of a class
unfoldable pub count_of : Class → List ℕ → Option ReportLine
count_of class rest = option_map (Count class) (number_of rest)

-- a line that begins with the word of a class, or with a stamp
unfoldable pub count_or_call : List ℕ → List ℕ → Option Class → Option ReportLine
count_or_call word rest None = call_of word rest
count_or_call word rest (Some class) = count_of class rest

-- a line that begins with no word of its own
unfoldable pub other_line_of : List ℕ → List ℕ → Option ReportLine
other_line_of word rest = count_or_call word rest (class_named word)

-- what a line with this first field says
unfoldable pub report_line_behind : List ℕ → List ℕ → Option ReportLine
report_line_behind word rest = if bytes_eq word (codes "calls") then option_map Calls (number_of rest) else other_line_of word rest

-- a line of several fields
unfoldable pub report_fields_of : List ℕ → Option ReportLine
report_fields_of bytes = do
  parts ← cut_at 32 bytes
  report_line_behind parts.0 parts.1

-- the line of a report: the first, the last, or one of several fields
unfoldable pub report_line_of : List ℕ → Option ReportLine
report_line_of bytes = if bytes_eq bytes (codes "report 1") then Some Head else (if bytes_eq bytes (codes "end") then Some End else report_fields_of bytes)
