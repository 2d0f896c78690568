-- What is read of a line of a report is spelled so, and what is spelled so is read.
use Rattle.std.proofs.Common.{◌≡◌, ℕ, ◌<◌, ◌≤◌, ◌^◌, List, ◌∷◌, ◌++◌, Option, Some, None, refl, sym, ap, subst, ◌∙◌, append_assoc, arith, lit≤, false}
use Rattle.std.specs.Prelude.{codes}
use Rattle.std.specs.Str.{bytes_eq}
use Rattle.std.specs.Fmt.{decimal}
use Rattle.std.specs.List.{AllByRecursion}
use Rattle.std.proofs.lemmas.Bool.{false_from_ne_true}
use Rattle.std.proofs.lemmas.Option.{same_Some}
use Rattle.std.proofs.lemmas.Slice.Eq.{bytes_eq-Decides}
use Rattle.desk_values.specs.Fields.{cut_at}
use Rattle.desk_values.specs.Reading.{number_below, number_of}
use Rattle.desk_values.specs.Word.{member_with_word}
use Rattle.desk_values.proofs.Cuts.{cut_at-joined}
use Rattle.desk_values.proofs.Options.{bind_some, map_some}
use Rattle.desk_values.proofs.Readers.{IsReader}
use Rattle.desk_values.proofs.Numbers.{numbers, numbers_below}
use Rattle.desk_values.proofs.Words.{member_with_word_law}
use Rattle.capture_format.specs.Inside.Fields.{two_of}
use Rattle.capture_format.proofs.Alphabet.{IsDigit, digits_decimal}
use Rattle.capture_format.proofs.Fields.{two_reader, by_word, one_text, worded, Behind}
use Rattle.capture_format.proofs.StartReader.{small_space}
use Rattle.replay_history.specs.declared.report.Class.{Class}
use Rattle.replay_history.specs.declared.report.Class.TheVariants.{Same, NewError, GoneError, MutatedError, RowsModified, RowsFetched, RowContents, Images, Shape}
use Rattle.replay_history.specs.declared.report.Line.{Line}
use Rattle.replay_history.specs.Class.{all_classes, class_word, classes_have_own_words}
use Rattle.report_format.specs.declared.line.ReportLine.{ReportLine}
use Rattle.report_format.specs.declared.line.ReportLine.TheVariants.{Head, Calls, Count, Call, End}
use Rattle.report_format.specs.ReportFile.{IsReportLine, report_line_text}
use Rattle.report_format.specs.Inside.Reading.{call_of, class_named, count_of, count_or_call, other_line_of, report_fields_of, report_line_behind, report_line_of}

small_numbers : IsReader (number_below (2 ^ 32)) (λ n. n < 2 ^ 32) decimal
small_numbers = numbers_below (2 ^ 32) (lit≤ tt)

classes : IsReader class_named (λ c. Unit {0}) class_word
classes = record {
  takes = λ bytes c e. (tt, sym ((member_with_word_law class_word all_classes classes_have_own_words bytes c).0 e));
  again = λ c fits. classes_have_own_words c;
}

places : IsReader (two_of 32 (number_below (2 ^ 32)) (two_of 32 (number_below (2 ^ 32)) class_named)) (λ p. (p.0 < 2 ^ 32) × ((p.1.0 < 2 ^ 32) × Unit {0})) (λ p. decimal p.0 ++ 32 ∷ (decimal p.1.0 ++ 32 ∷ class_word p.1.1))
places = two_reader 32 small_numbers (two_reader 32 small_numbers classes small_space) small_space

-- the fields of a call, one behind the other
fields_are : (stamp session place : ℕ) (class : Class) → decimal stamp ++ 32 ∷ (decimal session ++ 32 ∷ (decimal place ++ 32 ∷ class_word class)) ≡ (decimal stamp ++ 32 ∷ (decimal session ++ 32 ∷ decimal place)) ++ 32 ∷ class_word class
fields_are stamp session place class =
    ap (λ (t : List ℕ). decimal stamp ++ 32 ∷ t) (sym (append_assoc (decimal session) (32 ∷ decimal place) (32 ∷ class_word class)))
    ∙ sym (append_assoc (decimal stamp) (32 ∷ (decimal session ++ 32 ∷ decimal place)) (32 ∷ class_word class))

call_taken : (word rest : List ℕ) (l : ReportLine) → call_of word rest ≡ Some l → Behind IsReportLine report_line_text word rest l
unfolding call_of
call_taken word rest l e =
    let stamp = bind_some (number_below (2 ^ 32) word) _ l e in
    let fields = bind_some (two_of 32 (number_below (2 ^ 32)) (two_of 32 (number_below (2 ^ 32)) class_named) rest) (λ p. Some (Call (record { stamp = stamp.0; session = p.0; place = p.1.0; class = p.1.1 }))) l stamp.2 in
    let one = small_numbers.takes word stamp.0 stamp.1 in
    let others = places.takes rest fields.0 fields.1 in
    subst (Behind IsReportLine report_line_text word rest) (same_Some (Call (record { stamp = stamp.0; session = fields.0.0; place = fields.0.1.0; class = fields.0.1.1 })) l fields.2)
    ((one.0, others.0.0, others.0.1.0), ap (λ (t : List ℕ). t ++ 32 ∷ rest) one.1 ∙ ap (λ (t : List ℕ). decimal stamp.0 ++ 32 ∷ t) others.1 ∙ fields_are stamp.0 fields.0.0 fields.0.1.0 fields.0.1.1)

count_taken : (class : Class) (rest : List ℕ) (l : ReportLine) → count_of class rest ≡ Some l → IsReportLine l × (class_word class ++ 32 ∷ rest ≡ report_line_text l)
unfolding count_of
count_taken class rest l e =
    let found = map_some (Count class) (number_of rest) l e in
    let taken = numbers.takes rest found.0 found.1 in
    subst (λ (q : ReportLine). IsReportLine q × (class_word class ++ 32 ∷ rest ≡ report_line_text q)) found.2 (taken.0, ap (λ (t : List ℕ). class_word class ++ 32 ∷ t) taken.1)

other_taken : (word rest : List ℕ) (l : ReportLine) → other_line_of word rest ≡ Some l → Behind IsReportLine report_line_text word rest l
unfolding other_line_of count_or_call
other_taken word rest l = at (class_named word) refl
  where
    at : (found : Option Class) → class_named word ≡ found → count_or_call word rest found ≡ Some l → Behind IsReportLine report_line_text word rest l
    at None none e = call_taken word rest l e
    at (Some class) some e = let taken = count_taken class rest l e in (taken.0, ap (λ (w : List ℕ). w ++ 32 ∷ rest) (classes.takes word class some).1 ∙ taken.1)

behind_taken : (word rest : List ℕ) (l : ReportLine) → report_line_behind word rest ≡ Some l → Behind IsReportLine report_line_text word rest l
unfolding report_line_behind
behind_taken word rest l = by_word IsReportLine report_line_text (codes "calls") Calls numbers (λ n fits. (fits, refl)) word rest l (other_line_of word rest) (other_taken word rest l)

takes : (bytes : List ℕ) (l : ReportLine) → report_line_of bytes ≡ Some l → IsReportLine l × (bytes ≡ report_line_text l)
unfolding report_line_of report_fields_of
takes bytes l =
    let spelled : ReportLine → Type 0 = λ (x : ReportLine). IsReportLine x × (bytes ≡ report_line_text x) in
    one_text bytes (codes "report 1") Head _ spelled l (λ is. (tt, is))
    (one_text bytes (codes "end") End _ spelled l (λ is. (tt, is)) (worded IsReportLine report_line_text report_line_behind behind_taken bytes l))

-- ---- and back: a line that begins with a number begins with no word

-- no number begins with a letter
no_number : (n first : ℕ) (rest : List ℕ) → n < 2 ^ 32 → 58 ≤ first → decimal n ≡ first ∷ rest → ⊥
no_number n first rest few letter is =
    let digits = subst (AllByRecursion IsDigit) is (digits_decimal n (omega (arith, few))) in
    let high = digits.0.high in
    omega (arith, high, letter)

no_class : (n : ℕ) (class : Class) → n < 2 ^ 32 → decimal n ≡ class_word class → ⊥
no_class n Same few is = no_number n _ _ few (lit≤ tt) is
no_class n NewError few is = no_number n _ _ few (lit≤ tt) is
no_class n GoneError few is = no_number n _ _ few (lit≤ tt) is
no_class n MutatedError few is = no_number n _ _ few (lit≤ tt) is
no_class n RowsModified few is = no_number n _ _ few (lit≤ tt) is
no_class n RowsFetched few is = no_number n _ _ few (lit≤ tt) is
no_class n RowContents few is = no_number n _ _ few (lit≤ tt) is
no_class n Images few is = no_number n _ _ few (lit≤ tt) is
no_class n Shape few is = no_number n _ _ few (lit≤ tt) is

number_is_no_class : (n : ℕ) → n < 2 ^ 32 → class_named (decimal n) ≡ None
number_is_no_class n few = at (class_named (decimal n)) refl
  where
    at : (found : Option Class) → class_named (decimal n) ≡ found → class_named (decimal n) ≡ None
    at None e = e
    at (Some class) e = absurd (no_class n class few (classes.takes (decimal n) class e).1)

not_calls : (n : ℕ) → n < 2 ^ 32 → bytes_eq (decimal n) (codes "calls") ≡ false
not_calls n few = false_from_ne_true (bytes_eq (decimal n) (codes "calls")) (λ is. no_number n _ _ few (lit≤ tt) ((bytes_eq-Decides (decimal n) (codes "calls")).0 is))

not_head : (n : ℕ) (rest : List ℕ) → n < 2 ^ 32 → bytes_eq (decimal n ++ 32 ∷ rest) (codes "report 1") ≡ false
not_head n rest few = false_from_ne_true _ (λ is.
    let same = sym (cut_at-joined 32 (decimal n) rest (small_space n few)) ∙ ap (cut_at 32) ((bytes_eq-Decides (decimal n ++ 32 ∷ rest) (codes "report 1")).0 is) in
    no_number n _ _ few (lit≤ tt) (ap (λ (p : List ℕ × List ℕ). p.0) (same_Some (decimal n, rest) (codes "report", codes "1") same)))

not_end : (n : ℕ) (rest : List ℕ) → n < 2 ^ 32 → bytes_eq (decimal n ++ 32 ∷ rest) (codes "end") ≡ false
not_end n rest few = false_from_ne_true _ (λ is.
    let same : Some (decimal n, rest) ≡ None = sym (cut_at-joined 32 (decimal n) rest (small_space n few)) ∙ ap (cut_at 32) ((bytes_eq-Decides (decimal n ++ 32 ∷ rest) (codes "end")).0 is) in cc)

call_again : (l : Line) → IsReportLine (Call l) → report_line_of (decimal l.stamp ++ 32 ∷ (decimal l.session ++ 32 ∷ (decimal l.place ++ 32 ∷ class_word l.class))) ≡ Some (Call l)
unfolding report_line_of report_fields_of report_line_behind other_line_of count_or_call call_of
call_again l fits =
    let rest = decimal l.session ++ 32 ∷ (decimal l.place ++ 32 ∷ class_word l.class) in
    rw (not_head l.stamp rest fits.0, not_end l.stamp rest fits.0, cut_at-joined 32 (decimal l.stamp) rest (small_space l.stamp fits.0), not_calls l.stamp fits.0, number_is_no_class l.stamp fits.0, small_numbers.again l.stamp fits.0, places.again (l.session, (l.place, l.class)) (fits.1, (fits.2, tt))) refl

again : (l : ReportLine) → IsReportLine l → report_line_of (report_line_text l) ≡ Some l
unfolding report_line_of report_fields_of report_line_behind other_line_of count_or_call count_of member_with_word
again Head fits = refl
again (Calls n) fits = rw (numbers.again n fits) refl
again (Count Same n) fits = rw (numbers.again n fits) refl
again (Count NewError n) fits = rw (numbers.again n fits) refl
again (Count GoneError n) fits = rw (numbers.again n fits) refl
again (Count MutatedError n) fits = rw (numbers.again n fits) refl
again (Count RowsModified n) fits = rw (numbers.again n fits) refl
again (Count RowsFetched n) fits = rw (numbers.again n fits) refl
again (Count RowContents n) fits = rw (numbers.again n fits) refl
again (Count Images n) fits = rw (numbers.again n fits) refl
again (Count Shape n) fits = rw (numbers.again n fits) refl
again (Call l) fits = ap report_line_of (sym (fields_are l.stamp l.session l.place l.class)) ∙ call_again l fits
again End fits = refl

pub report_lines : IsReader report_line_of IsReportLine report_line_text
report_lines = record { takes = takes; again = again }
