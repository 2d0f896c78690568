-- What lines and records say, where they say something.
use Rattle.std.specs.Prelude.{ℕ, ◌^◌, nat_eq, if◌then◌else◌, List, [], ◌∷◌, ◌++◌, Option, None, Some, codes}
use Rattle.std.specs.Option.{option_map}
use Rattle.std.specs.Str.{bytes_eq}
use Rattle.desk_values.specs.Fields.{cut_at}
use Rattle.desk_values.specs.Reading.{◌>>=◌, at_end, number_below}
use Rattle.desk_values.specs.Word.{member_with_word}
use Rattle.capture_format.specs.Inside.Fields.{two_of}
use Rattle.divergence_cause.specs.Cause.{all_causes, cause_word}
use Rattle.divergence_cause.specs.declared.cause.Cause.{Cause}
use Rattle.divergence_cause.specs.declared.cause.CauseLine.{CauseLine}
use Rattle.run_files.specs.declared.reads_line.ReadsLine.{ReadsLine}
use Rattle.run_files.specs.declared.reads_line.ReadsLine.TheVariants.{Head, Stamp, End}

-- the line of the plain reads: the first, the last, or a stamp
unfoldable pub reads_line_of : List ℕ → Option ReadsLine
reads_line_of bytes = if bytes_eq bytes (codes "fence 1") then Some Head else (if bytes_eq bytes (codes "end") then Some End else option_map Stamp (number_below (2 ^ 32) bytes))

-- the cause with this word
abbrev pub cause_named : List ℕ → Option Cause
cause_named word = member_with_word cause_word all_causes word

-- the cause of a record, where it is one of this stamp
abbrev pub cause_of_stamp : ℕ → ℕ × Cause → Option Cause
cause_of_stamp stamp fields = if nat_eq fields.0 stamp then Some fields.1 else None

unfoldable pub cause_in : ℕ → List ℕ → Option Cause
cause_in stamp bytes = do
  fields ← two_of 44 (number_below (2 ^ 32)) cause_named bytes
  cause_of_stamp stamp fields

-- the cause in the first line, which is one of this stamp, and what stands behind the line
unfoldable pub cause_at : ℕ → List ℕ → Option (Cause × List ℕ)
cause_at stamp bytes = do
  parts ← cut_at 10 bytes
  cause ← cause_in stamp parts.0
  Some (cause, parts.1)

-- a cause for each stamp in its order, and nothing behind the last
abbrev pub causes_behind : List ℕ → List ℕ → Option (List CauseLine)
causes_behind [] bytes = at_end bytes []
causes_behind (stamp ∷ stamps) bytes = do
  first ← cause_at stamp bytes
  others ← causes_behind stamps first.1
  Some (record { stamp = stamp; cause = first.0 } ∷ others)

-- the head and the causes behind it
unfoldable pub causes_of : List ℕ → List ℕ → Option (List CauseLine)
causes_of stamps bytes = do
  parts ← cut_at 10 bytes
  if bytes_eq parts.0 (codes "stamp,cause") then causes_behind stamps parts.1 else None

-- what is read behind causes that were read
abbrev pub onto : List CauseLine → Option (List CauseLine) → Option (List CauseLine)
onto done rest = option_map (λ (others : List CauseLine). done ++ others) rest
