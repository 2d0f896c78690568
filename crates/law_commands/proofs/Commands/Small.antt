-- The text of a report is within the limit of a file.
use Rattle.std.proofs.Common.{ℕ, ◌+◌, ◌-◌, ◌*◌, ◌^◌, ◌<◌, ◌≤◌, List, [], ◌∷◌, ◌++◌, length, sym, subst, arith}
use Rattle.std.specs.Prelude.{◌==◌, codes}
use Rattle.std.specs.Fmt.{decimal}
use Rattle.std.specs.List.{flat_map}
use Rattle.std.proofs.lemmas.Fmt.{length-decimal-le}
use Rattle.std.proofs.lemmas.List.{length-append}
use Rattle.std.proofs.lemmas.List.Sums.{count_by-le-length}
use Rattle.replay_history.specs.Class.{class_number, class_word}
use Rattle.replay_history.specs.Limits.{call_limit}
use Rattle.replay_history.specs.Texts.{class_line, count_line, counts_text, error_counts, line, line_text, other_counts, place_text, row_counts}
use Rattle.replay_history.specs.declared.report.Class.{Class}
use Rattle.replay_history.specs.declared.report.Class.TheVariants.{Same, NewError, GoneError, MutatedError, RowsModified, RowsFetched, RowContents, Images, Shape}
use Rattle.replay_history.specs.declared.report.Line.{Line}
use Rattle.report_format.specs.ReportFile.{AreLinesFrom, count_in, counts_in}
use Rattle.law_commands.specs.Commands.Reports.{ReportsAreSmall}

both : (xs ys : List ℕ) (m n : ℕ) → length xs ≤ m → length ys ≤ n → length (xs ++ ys) ≤ m + n
both xs ys m n first second = let e = length-append xs ys in omega (arith, e, first, second)

number : (n : ℕ) → n < 2 ^ 64 → length (decimal n) ≤ 20
number n small = length-decimal-le 20 n (omega arith) (omega (arith, small)) small

word : (class : Class) → length (class_word class) ≤ 13
word Same = omega arith
word NewError = omega arith
word GoneError = omega arith
word MutatedError = omega arith
word RowsModified = omega arith
word RowsFetched = omega arith
word RowContents = omega arith
word Images = omega arith
word Shape = omega arith

-- ---- the lines of calls

one_line : (l : Line) → l.stamp < 2 ^ 64 → l.session < 2 ^ 64 → l.place < 2 ^ 64 → length (line (line_text l)) ≤ 77
one_line l stamp session place =
    let numbers = both (decimal l.session) (32 ∷ decimal l.place) 20 21 (number l.session session) (let n = number l.place place in omega (arith, n)) in
    let places = both (decimal l.stamp) (32 ∷ (decimal l.session ++ 32 ∷ decimal l.place)) 20 42 (number l.stamp stamp) (omega (arith, numbers)) in
    let text = both (place_text l) (32 ∷ class_word l.class) 62 14 places (let n = word l.class in omega (arith, n)) in
    both (line_text l) (10 ∷ []) 76 1 text (omega arith)

-- how many there are, and how long they are together
lines_size : (calls least : ℕ) (lines : List Line) → calls ≤ call_limit → AreLinesFrom calls least lines
    → (length lines ≤ calls - least) × (length (flat_map (λ l. line (line_text l)) lines) ≤ 77 * (calls - least))
lines_size calls least [] few from = (omega arith, omega arith)
lines_size calls least (l ∷ lines) few from =
    let rest = lines_size calls (l.stamp + 1) lines few from.2 in
    let is = from.1 in
    let below = is.below in let session = is.session in let place = is.place in
    let here = one_line l (omega (arith, below, few)) (omega (arith, session)) (omega (arith, place)) in
    let whole = length-append (line (line_text l)) (flat_map (λ (m : Line). line (line_text m)) lines) in
    (let many = rest.0 in omega (arith, many, below, from.0), let long = rest.1 in omega (arith, long, below, from.0, here, whole))

-- ---- those of the counts

counted : (name : List ℕ) (n : ℕ) → length name ≤ 13 → n < 2 ^ 64 → length (count_line name n) ≤ 35
counted name n short small =
    let text = both name (32 ∷ decimal n) 13 21 short (let long = number n small in omega (arith, long)) in
    both (name ++ 32 ∷ decimal n) (10 ∷ []) 34 1 text (omega arith)

module _ (calls : ℕ) (lines : List Line) (limit : calls ≤ call_limit) (few : length lines ≤ call_limit) where
  of_class : (class : Class) → length (count_line (class_word class) (count_in lines class)) ≤ 35
  of_class class =
      let most = count_by-le-length (λ (l : Line). class_number l.class == class_number class) lines in
      counted (class_word class) (count_in lines class) (word class) (omega (arith, most, few))

  counts_size : length (counts_text (counts_in calls lines)) ≤ 315
  counts_size =
      let counts = counts_in calls lines in
      let same = counted (class_word Same) (calls - length lines) (word Same) (omega (arith, limit)) in
      let errors = both (class_line counts Same) _ 35 105 same (both (class_line counts NewError) _ 35 70 (of_class NewError) (both (class_line counts GoneError) (class_line counts MutatedError) 35 35 (of_class GoneError) (of_class MutatedError))) in
      let rows = both (class_line counts RowsModified) _ 35 70 (of_class RowsModified) (both (class_line counts RowsFetched) (class_line counts RowContents) 35 35 (of_class RowsFetched) (of_class RowContents)) in
      let others = both (class_line counts Images) (class_line counts Shape) 35 35 (of_class Images) (of_class Shape) in
      both (error_counts counts) (row_counts counts ++ other_counts counts) 140 175 errors (both (row_counts counts) (other_counts counts) 105 70 rows others)

pub reports_small : ReportsAreSmall
reports_small report is =
    let limit = is.limit in
    let size = lines_size report.calls 0 report.lines limit is.lines in
    let many = size.0 in
    let long = size.1 in
    let counts = subst (λ (cs : List ℕ). length (counts_text cs) ≤ 315) (sym is.counts) (counts_size report.calls report.lines limit (omega (arith, many, limit))) in
    let calls = counted (codes "calls") report.calls (omega arith) (omega (arith, limit)) in
    let lines = flat_map (λ (l : Line). line (line_text l)) report.lines in
    let behind = both lines (line (codes "end")) 7700000 4 (omega (arith, long, limit)) (omega arith) in
    let rest = both (counts_text report.counts) (lines ++ line (codes "end")) 315 7700004 counts behind in
    let called = count_line (codes "calls") report.calls in
    let text = counts_text report.counts ++ (lines ++ line (codes "end")) in
    let whole = both (line (codes "report 1")) (called ++ text) 9 7700354 (omega arith) (both called text 35 7700319 calls rest) in
    omega (arith, whole)
