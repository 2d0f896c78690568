-- No line of a start file has a line feed.
use Rattle.std.proofs.Common.{◌≢◌, ℕ, ◌<◌, ◌^◌, Bool, true, false, List, ◌∷◌, ◌++◌, refl, arith, lit<}
use Rattle.std.specs.Prelude.{codes}
use Rattle.std.specs.Fmt.{decimal, signed_decimal}
use Rattle.desk_values.specs.Fields.{Lacks}
use Rattle.desk_values.specs.Text.{values_text}
use Rattle.desk_schema.specs.declared.line.StartLine.{StartLine}
use Rattle.desk_schema.specs.declared.line.StartLine.TheVariants as line
use Rattle.desk_schema.specs.declared.line.ColumnKind.{ColumnKind}
use Rattle.desk_schema.specs.declared.line.ColumnKind.TheVariants as kind
use Rattle.desk_schema.specs.declared.schema.Rights.{Rights}
use Rattle.desk_schema.specs.declared.schema.Rights.TheVariants.{ReadWrite, ReadOnly}
use Rattle.desk_schema.specs.Name.{IsName}
use Rattle.desk_schema.specs.Line.{nulls_text, kind_text, line_text}
use Rattle.desk_schema.specs.Schema.{rights_word}
use Rattle.capture_format.specs.StartFile.{IsColumnKind, IsStartLine}
use Rattle.capture_format.proofs.Cuts.{all_append}
use Rattle.capture_format.proofs.Alphabet.{AreTextBytes, text_word, text_decimal, text_signed, text_values}
use Rattle.capture_format.proofs.SessionTexts.{visible_all}
use Rattle.capture_format.proofs.Names.{name_lacks}

name_lacks_feed : (name : List ℕ) → IsName name → Lacks 10 name
name_lacks_feed name is = name_lacks 10 (lit< tt) name is

word_lacks : (bytes rest : List ℕ) → AreTextBytes bytes → Lacks 10 rest → Lacks 10 (bytes ++ rest)
word_lacks bytes rest text lacks = all_append (λ b. b ≢ 10) bytes rest (visible_all bytes text) lacks

space_lacks : (front rest : List ℕ) → Lacks 10 front → Lacks 10 rest → Lacks 10 (front ++ 32 ∷ rest)
space_lacks front rest first second = all_append (λ b. b ≢ 10) front (32 ∷ rest) first ((λ same. absurd (omega arith)), second)

number_lacks : (n : ℕ) → n < 2 ^ 64 → Lacks 10 (decimal n)
number_lacks n small = visible_all (decimal n) (text_decimal n small)

rights_lack : (rights : Rights) → Lacks 10 (rights_word rights)
rights_lack ReadWrite = visible_all (codes "rw") (text_word (codes "rw") refl)
rights_lack ReadOnly = visible_all (codes "ro") (text_word (codes "ro") refl)

nulls_lack : (not_null : Bool) → Lacks 10 (nulls_text not_null)
nulls_lack true = visible_all (codes "notnull") (text_word (codes "notnull") refl)
nulls_lack false = visible_all (codes "null") (text_word (codes "null") refl)

kind_lacks : (k : ColumnKind) → IsColumnKind k → Lacks 10 (kind_text k)
kind_lacks (kind.Int low high) fits = word_lacks (codes "int ") _ (text_word (codes "int ") refl) (space_lacks (signed_decimal low) (signed_decimal high) (visible_all (signed_decimal low) (text_signed low fits.0)) (visible_all (signed_decimal high) (text_signed high fits.1)))
kind_lacks (kind.Text most) fits = word_lacks (codes "text ") _ (text_word (codes "text ") refl) (number_lacks most (omega arith))
kind_lacks (kind.Seq name) fits = word_lacks (codes "seq ") _ (text_word (codes "seq ") refl) (name_lacks_feed name fits)

pub line_lacks : (l : StartLine) → IsStartLine l → Lacks 10 (line_text l)
line_lacks (line.Head version) fits = word_lacks (codes "start ") _ (text_word (codes "start ") refl) (number_lacks version (omega arith))
line_lacks (line.Level level) fits = word_lacks (codes "level ") _ (text_word (codes "level ") refl) (number_lacks level (omega arith))
line_lacks (line.Seq name next) fits = word_lacks (codes "seq ") _ (text_word (codes "seq ") refl) (space_lacks name (decimal next) (name_lacks_feed name fits.0) (number_lacks next fits.1))
line_lacks (line.Service name rights) fits = word_lacks (codes "svc ") _ (text_word (codes "svc ") refl) (space_lacks name (rights_word rights) (name_lacks_feed name fits) (rights_lack rights))
line_lacks (line.Table name) fits = word_lacks (codes "table ") _ (text_word (codes "table ") refl) (name_lacks_feed name fits)
line_lacks (line.Column name k not_null) fits = word_lacks (codes "col ") _ (text_word (codes "col ") refl) (space_lacks name (kind_text k ++ 32 ∷ nulls_text not_null) (name_lacks_feed name fits.0) (space_lacks (kind_text k) (nulls_text not_null) (kind_lacks k fits.1) (nulls_lack not_null)))
line_lacks (line.Row row table values) fits = word_lacks (codes "row ") _ (text_word (codes "row ") refl) (space_lacks (decimal row) (decimal table ++ 32 ∷ values_text values) (number_lacks row fits.0) (space_lacks (decimal table) (values_text values) (number_lacks table (omega (arith, fits.1))) (visible_all (values_text values) (text_values values fits.2))))
line_lacks (line.NextRow row) fits = word_lacks (codes "nextrow ") _ (text_word (codes "nextrow ") refl) (number_lacks row fits)
line_lacks (line.Sessions count) fits = word_lacks (codes "sessions ") _ (text_word (codes "sessions ") refl) (number_lacks count (omega arith))
line_lacks line.End fits = visible_all (codes "end") (text_word (codes "end") refl)
