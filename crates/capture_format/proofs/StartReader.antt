-- What is read of a line of a start file is spelled so, and what is spelled so is read.
use Rattle.std.proofs.Common.{◌≡◌, ℕ, suc, ◌<◌, ◌^◌, Bool, true, false, ℤ, pos, negsuc, List, ◌∷◌, ◌++◌, Some, None, refl, ap, sym, ◌∙◌, append_assoc, arith, lit<, lit≤}
use Rattle.std.specs.Prelude.{codes, FitsSigned}
use Rattle.std.specs.Int.{w64}
use Rattle.std.specs.Fmt.{decimal, signed_decimal}
use Rattle.desk_values.specs.Fields.{Lacks}
use Rattle.desk_values.specs.Reading.{number_below}
use Rattle.desk_values.proofs.Readers.{IsReader}
use Rattle.desk_values.proofs.Numbers.{numbers, numbers_below, integers}
use Rattle.desk_values.proofs.ValueTexts.{values_reader}
use Rattle.desk_values.proofs.Words.{member_with_word_law}
use Rattle.desk_schema.specs.declared.line.StartLine.{StartLine}
use Rattle.desk_schema.specs.declared.line.StartLine.TheVariants as line
use Rattle.desk_schema.specs.declared.line.ColumnKind.{ColumnKind}
use Rattle.desk_schema.specs.declared.line.ColumnKind.TheVariants as kind
use Rattle.desk_schema.specs.Name.{IsName}
use Rattle.desk_schema.specs.Line.{nulls_text, kind_text, line_text}
use Rattle.desk_schema.specs.Schema.{rights_word, all_rights, rights_have_own_words}
use Rattle.capture_format.specs.StartFile.{IsColumnKind, IsStartLine}
use Rattle.capture_format.specs.Inside.StartReading.{rights_of, nulls_of, shape_behind, shape_of, line_behind, worded_of, start_line_of}
use Rattle.capture_format.proofs.SessionReader.{no_space}
use Rattle.capture_format.proofs.Fields.{two_reader, by_word, one_text, no_word, worded}
use Rattle.capture_format.proofs.Names.{names, name_lacks}

small : IsReader (number_below (2 ^ 32)) (λ n. n < 2 ^ 32) decimal
small = numbers_below (2 ^ 32) (lit≤ tt)

rights : IsReader rights_of (λ r. Unit {0}) rights_word
rights = record {
  takes = λ bytes r e. (tt, sym ((member_with_word_law rights_word all_rights rights_have_own_words bytes r).0 e));
  again = λ r fits. rights_have_own_words r;
}

nulls : IsReader nulls_of (λ b. Unit {0}) nulls_text
unfolding nulls_of
nulls = record { takes = λ bytes b e. (tt, takes bytes b e); again = again }
  where
    takes : (bytes : List ℕ) (b : Bool) → nulls_of bytes ≡ Some b → bytes ≡ nulls_text b
    takes bytes b = one_text bytes (codes "notnull") true _ (λ x. bytes ≡ nulls_text x) b (λ is. is) (one_text bytes (codes "null") false None (λ x. bytes ≡ nulls_text x) b (λ is. is) (no_word (bytes ≡ nulls_text b) b))

    again : (b : Bool) → Unit {0} → nulls_of (nulls_text b) ≡ Some b
    again true fits = refl
    again false fits = refl

name_space : (name : List ℕ) → IsName name → Lacks 32 name
name_space name is = name_lacks 32 (lit< tt) name is

signed_space : (n : ℤ) → FitsSigned w64 n → Lacks 32 (signed_decimal n)
signed_space (pos n) fits = no_space n (omega (arith, fits.sfits))
signed_space (negsuc n) fits = (λ same. absurd (omega arith), no_space (suc n) (omega (arith, fits.sfits)))

pub small_space : (n : ℕ) → n < 2 ^ 32 → Lacks 32 (decimal n)
small_space n few = no_space n (omega (arith, few))

-- ---- columns

abbrev Shape : Type 0
Shape = ColumnKind × Bool

abbrev FitsShape : Shape → Type 0
FitsShape p = IsColumnKind p.0

abbrev shape_text : Shape → List ℕ
shape_text p = kind_text p.0 ++ 32 ∷ nulls_text p.1

shape_taken : (word rest : List ℕ) (p : Shape) → shape_behind word rest ≡ Some p → FitsShape p × (word ++ 32 ∷ rest ≡ shape_text p)
unfolding shape_behind
shape_taken word rest p =
    by_word FitsShape shape_text (codes "int") (λ q. (kind.Int q.0 q.1.0, q.1.1)) (two_reader 32 integers (two_reader 32 integers nulls signed_space) signed_space) (λ q fits. ((fits.0, fits.1.0), ap (λ (t : List ℕ). codes "int " ++ t) (sym (append_assoc (signed_decimal q.0) (32 ∷ signed_decimal q.1.0) (32 ∷ nulls_text q.1.1))))) word rest p _
    (by_word FitsShape shape_text (codes "text") (λ q. (kind.Text q.0, q.1)) (two_reader 32 small nulls small_space) (λ q fits. (fits.0, refl)) word rest p _
    (by_word FitsShape shape_text (codes "seq") (λ q. (kind.Seq q.0, q.1)) (two_reader 32 names nulls name_space) (λ q fits. (fits.0, refl)) word rest p None (no_word _ p)))

shape_again : (p : Shape) → FitsShape p → shape_of (shape_text p) ≡ Some p
unfolding shape_of shape_behind
shape_again (kind.Int low high, b) fits =
    let regrouped : shape_text (kind.Int low high, b) ≡ codes "int " ++ (signed_decimal low ++ 32 ∷ (signed_decimal high ++ 32 ∷ nulls_text b)) = ap (λ (t : List ℕ). codes "int " ++ t) (append_assoc (signed_decimal low) (32 ∷ signed_decimal high) (32 ∷ nulls_text b)) in
    ap shape_of regrouped ∙ rw ((two_reader 32 integers (two_reader 32 integers nulls signed_space) signed_space).again (low, (high, b)) (fits.0, (fits.1, tt))) refl
shape_again (kind.Text most, b) fits = rw ((two_reader 32 small nulls small_space).again (most, b) (fits, tt)) refl
shape_again (kind.Seq name, b) fits = rw ((two_reader 32 names nulls name_space).again (name, b) (fits, tt)) refl

shapes : IsReader shape_of FitsShape shape_text
unfolding shape_of
shapes = record { takes = worded FitsShape shape_text shape_behind shape_taken; again = shape_again }

-- ---- whole lines

line_taken : (word rest : List ℕ) (l : StartLine) → line_behind word rest ≡ Some l → IsStartLine l × (word ++ 32 ∷ rest ≡ line_text l)
unfolding line_behind
line_taken word rest l =
    by_word IsStartLine line_text (codes "start") line.Head small (λ n fits. (fits, refl)) word rest l _
    (by_word IsStartLine line_text (codes "level") line.Level small (λ n fits. (fits, refl)) word rest l _
    (by_word IsStartLine line_text (codes "seq") (λ q. line.Seq q.0 q.1) (two_reader 32 names numbers name_space) (λ q fits. (fits, refl)) word rest l _
    (by_word IsStartLine line_text (codes "svc") (λ q. line.Service q.0 q.1) (two_reader 32 names rights name_space) (λ q fits. (fits.0, refl)) word rest l _
    (by_word IsStartLine line_text (codes "table") line.Table names (λ n fits. (fits, refl)) word rest l _
    (by_word IsStartLine line_text (codes "col") (λ q. line.Column q.0 q.1.0 q.1.1) (two_reader 32 names shapes name_space) (λ q fits. (fits, refl)) word rest l _
    (by_word IsStartLine line_text (codes "row") (λ q. line.Row q.0 q.1.0 q.1.1) (two_reader 32 numbers (two_reader 32 small values_reader small_space) no_space) (λ q fits. ((fits.0, fits.1.0, fits.1.1), refl)) word rest l _
    (by_word IsStartLine line_text (codes "nextrow") line.NextRow numbers (λ n fits. (fits, refl)) word rest l _
    (by_word IsStartLine line_text (codes "sessions") line.Sessions small (λ n fits. (fits, refl)) word rest l None (no_word _ l)))))))))

takes : (bytes : List ℕ) (l : StartLine) → start_line_of bytes ≡ Some l → IsStartLine l × (bytes ≡ line_text l)
unfolding start_line_of worded_of
takes bytes l = one_text bytes (codes "end") line.End _ (λ x. IsStartLine x × (bytes ≡ line_text x)) l (λ is. (tt, is)) (worded IsStartLine line_text line_behind line_taken bytes l)

again : (l : StartLine) → IsStartLine l → start_line_of (line_text l) ≡ Some l
unfolding start_line_of worded_of line_behind
again (line.Head version) fits = rw (small.again version fits) refl
again (line.Level level) fits = rw (small.again level fits) refl
again (line.Seq name next) fits = rw ((two_reader 32 names numbers name_space).again (name, next) fits) refl
again (line.Service name r) fits = rw ((two_reader 32 names rights name_space).again (name, r) (fits, tt)) refl
again (line.Table name) fits = rw (names.again name fits) refl
again (line.Column name k b) fits = rw ((two_reader 32 names shapes name_space).again (name, (k, b)) fits) refl
again (line.Row row table values) fits = rw ((two_reader 32 numbers (two_reader 32 small values_reader small_space) no_space).again (row, (table, values)) (fits.0, (fits.1, fits.2))) refl
again (line.NextRow row) fits = rw (numbers.again row fits) refl
again (line.Sessions count) fits = rw (small.again count fits) refl
again line.End fits = refl

pub start_lines : IsReader start_line_of IsStartLine line_text
start_lines = record { takes = takes; again = again }
