-- Reports: what was read is the text of a report, and it is read so.
use Rattle.std.proofs.Common.{◌≡◌, ℕ, ◌+◌, ◌-◌, ◌<◌, ◌≤◌, ◌^◌, Bool, true, false, List, [], ◌∷◌, ◌++◌, length, suc, get_or, Result, Ok, Err, refl, ap, sym, subst, ◌∙◌, append_assoc, append-nil, length-append, lit<, arith}
use Rattle.std.specs.Prelude.{MatchResult, codes, ◌==◌}
use Rattle.std.specs.List.{flat_map}
use Rattle.std.specs.Fmt.{decimal}
use Rattle.std.proofs.lemmas.Bool.{and_parts, eqb-true}
use Rattle.std.proofs.lemmas.List.Sums.{count_by-le-length}
use Rattle.desk_values.specs.Fields.{Lacks}
use Rattle.file_lines.specs.declared.reader.FormErr.{FormErr}
use Rattle.file_lines.specs.declared.reader.FormErr.TheVariants.{Bad, Memory}
use Rattle.file_lines.specs.File.{Is, IsFile, ReadsFile, Says}
use Rattle.file_lines.specs.Form.{Comes, text_of}
use Rattle.file_lines.proofs.Files.{once}
use Rattle.file_lines.proofs.Forms.{AreLines, IsSound, state_after, file_has_lines, lines_are_file, says_one}
use Rattle.capture_format.proofs.Alphabet.{text_decimal, text_then, text_word, AreTextBytes}
use Rattle.capture_format.proofs.SessionTexts.{visible_all}
use Rattle.replay_history.specs.declared.report.Class.{Class}
use Rattle.replay_history.specs.declared.report.Class.TheVariants.{Same, NewError, GoneError, MutatedError, RowsModified, RowsFetched, RowContents, Images, Shape}
use Rattle.replay_history.specs.declared.report.Line.{Line}
use Rattle.replay_history.specs.declared.report.Report.{Report}
use Rattle.replay_history.specs.Class.{all_classes, class_number, class_word}
use Rattle.replay_history.specs.Limits.{call_limit}
use Rattle.replay_history.specs.Texts.{count_line, counts_text, line, line_text, report_text}
use Rattle.report_format.specs.declared.draft.Stage.{Stage}
use Rattle.report_format.specs.declared.draft.Stage.TheVariants.{Empty, Headed, Called, Ended}
use Rattle.report_format.specs.declared.line.ReportLine.{ReportLine}
use Rattle.report_format.specs.declared.line.ReportLine.TheVariants.{Head, Calls, Count, Call, End}
use Rattle.report_format.specs.ReportFile.{AreLinesFrom, IsBadReport, IsReport, IsReportLine, IsWhole, MayComeNext, ReportView, count_in, counts_in, is_called, is_counted, is_end, is_ended_report, new_report, report_form, report_line_text, with_report_line}
use Rattle.report_format.proofs.Reader.{report_lines}

-- ---- lines are whole, and nothing follows the last

class_bytes : (class : Class) → AreTextBytes (class_word class)
class_bytes Same = text_word (codes "same") refl
class_bytes NewError = text_word (codes "new-error") refl
class_bytes GoneError = text_word (codes "gone-error") refl
class_bytes MutatedError = text_word (codes "mutated-error") refl
class_bytes RowsModified = text_word (codes "rows-modified") refl
class_bytes RowsFetched = text_word (codes "rows-fetched") refl
class_bytes RowContents = text_word (codes "row-contents") refl
class_bytes Images = text_word (codes "images") refl
class_bytes Shape = text_word (codes "shape") refl

-- a field, a space and more
spaced : (field rest : List ℕ) → AreTextBytes field → AreTextBytes rest → AreTextBytes (field ++ 32 ∷ rest)
spaced field rest first second = text_then field (32 ∷ rest) first (refl, second)

number_bytes : (n : ℕ) → n < 2 ^ 32 → AreTextBytes (decimal n)
number_bytes n small = text_decimal n (omega (arith, small))

call_bytes : (l : Line) → IsReportLine (Call l) → AreTextBytes (line_text l)
call_bytes l fits =
    let place : AreTextBytes (decimal l.session ++ 32 ∷ decimal l.place) = spaced (decimal l.session) (decimal l.place) (number_bytes l.session fits.1) (number_bytes l.place fits.2) in
    spaced (decimal l.stamp ++ 32 ∷ (decimal l.session ++ 32 ∷ decimal l.place)) (class_word l.class)
    (spaced (decimal l.stamp) (decimal l.session ++ 32 ∷ decimal l.place) (number_bytes l.stamp fits.0) place) (class_bytes l.class)

lacks : (l : ReportLine) → IsReportLine l → Lacks 10 (report_line_text l)
lacks Head fits = visible_all (codes "report 1") (text_word (codes "report 1") refl)
lacks (Calls n) fits = visible_all (codes "calls" ++ 32 ∷ decimal n) (spaced (codes "calls") (decimal n) (text_word (codes "calls") refl) (text_decimal n fits))
lacks (Count class n) fits = visible_all (class_word class ++ 32 ∷ decimal n) (spaced (class_word class) (decimal n) (class_bytes class) (text_decimal n fits))
lacks (Call l) fits = visible_all (line_text l) (call_bytes l fits)
lacks End fits = visible_all (codes "end") (text_word (codes "end") refl)

-- the stage of a state whose counts came
called_of : (s : ReportView) → is_counted s ≡ true → is_called s.stage ≡ true
called_of s counted = (and_parts (is_called s.stage) (length s.counts == 9) counted).0

called_is_not_end : (stage : Stage) → is_called stage ≡ true → is_end stage ≡ false
called_is_not_end Empty e = refl
called_is_not_end Headed e = refl
called_is_not_end Called e = refl
called_is_not_end Ended e = absurd cc

unended : (s : ReportView) (l : ReportLine) → MayComeNext s l → is_ended_report s ≡ false
unended s Head may = ap is_end may
unended s (Calls n) may = ap is_end may.0
unended s (Count class n) may = ap is_end may.0
unended s (Call l) may = called_is_not_end s.stage (called_of s may.0)
unended s End may = called_is_not_end s.stage (called_of s may.0)

sound : IsSound report_form is_ended_report
sound = record { lacks = lacks; unended = unended }

-- ---- the lines of a report

-- lines of calls that differ, and the end
last_lines : List Line → List ReportLine
last_lines [] = End ∷ []
last_lines (l ∷ calls) = Call l ∷ last_lines calls

last_text : (calls : List Line) → text_of report_form (last_lines calls) ≡ flat_map (λ l. line (line_text l)) calls ++ line (codes "end")
unfolding last_lines
last_text [] = refl
last_text (l ∷ calls) = ap (λ (t : List ℕ). line (line_text l) ++ t) (last_text calls) ∙ sym (append_assoc (line (line_text l)) (flat_map (λ other. line (line_text other)) calls) (line (codes "end")))

-- lines of counts, and those behind them
abbrev count_lines : List Class → List ℕ → List ReportLine → List ReportLine
count_lines [] counts rest = rest
count_lines (class ∷ classes) [] rest = rest
count_lines (class ∷ classes) (n ∷ counts) rest = Count class n ∷ count_lines classes counts rest

nine : (a b c d e f g h i rest : List ℕ) → a ++ (b ++ (c ++ (d ++ (e ++ (f ++ (g ++ (h ++ (i ++ rest)))))))) ≡ ((a ++ (b ++ (c ++ d))) ++ ((e ++ (f ++ g)) ++ (h ++ i))) ++ rest
nine a b c d e f g h i rest = simp append_assoc

nine_text : (a b c d e f g h i : ℕ) (rest : List ReportLine) → text_of report_form (count_lines all_classes (a ∷ b ∷ c ∷ d ∷ e ∷ f ∷ g ∷ h ∷ i ∷ []) rest) ≡ counts_text (a ∷ b ∷ c ∷ d ∷ e ∷ f ∷ g ∷ h ∷ i ∷ []) ++ text_of report_form rest
nine_text a b c d e f g h i rest = nine (count_line (class_word Same) a) (count_line (class_word NewError) b) (count_line (class_word GoneError) c) (count_line (class_word MutatedError) d) (count_line (class_word RowsModified) e) (count_line (class_word RowsFetched) f) (count_line (class_word RowContents) g) (count_line (class_word Images) h) (count_line (class_word Shape) i) (text_of report_form rest)

-- the report with these lines
abbrev pub report_with : ℕ → List Line → Report
report_with calls lines = record { calls = calls; counts = counts_in calls lines; lines = lines }

all_lines : ℕ → List Line → List ReportLine
all_lines calls lines = Head ∷ Calls calls ∷ count_lines all_classes (counts_in calls lines) (last_lines lines)

all_text : (calls : ℕ) (lines : List Line) → text_of report_form (all_lines calls lines) ≡ report_text (report_with calls lines)
unfolding all_lines
all_text calls lines = ap (λ (t : List ℕ). line (codes "report 1") ++ (count_line (codes "calls") calls ++ t))
    (nine_text (calls - length lines) (count_in lines NewError) (count_in lines GoneError) (count_in lines MutatedError) (count_in lines RowsModified) (count_in lines RowsFetched) (count_in lines RowContents) (count_in lines Images) (count_in lines Shape) (last_lines lines)
    ∙ ap (λ (t : List ℕ). counts_text (counts_in calls lines) ++ t) (last_text lines))

-- ---- from lines to the report

true_is_not_false : (b : Bool) → b ≡ true → b ≡ false → ⊥
true_is_not_false b is isnt = let never : true ≡ false = sym is ∙ isnt in cc

nothing_after : (s : ReportView) (lines : List ReportLine) → is_ended_report s ≡ true → AreLines report_form s lines → lines ≡ []
nothing_after s [] last are = refl
nothing_after s (l ∷ lines) last are = absurd (true_is_not_false (is_ended_report s) last (unended s l are.1))

nine_counts : (s : ReportView) → is_counted s ≡ true → length s.counts ≡ 9
nine_counts s counted = eqb-true (length s.counts) 9 (and_parts (is_called s.stage) (length s.counts == 9) counted).1

few_classes : (class : Class) → class_number class < 9
few_classes Same = lit< tt
few_classes NewError = lit< tt
few_classes GoneError = lit< tt
few_classes MutatedError = lit< tt
few_classes RowsModified = lit< tt
few_classes RowsFetched = lit< tt
few_classes RowContents = lit< tt
few_classes Images = lit< tt
few_classes Shape = lit< tt

no_more_counts : (s : ReportView) (class : Class) → is_counted s ≡ true → length s.counts ≡ class_number class → ⊥
no_more_counts s class counted next = let nine = nine_counts s counted in let few = few_classes class in omega (arith, nine, few, next)

record Adds (s : ReportView) (lines : List ReportLine) (calls : List Line) : Type 0 where
  lines_are : lines ≡ last_lines calls
  from : AreLinesFrom s.calls s.least calls
  counts : s.counts ≡ counts_in s.calls (s.lines ++ calls)
  calls_after : (state_after report_form s lines).calls ≡ s.calls
  lines_after : (state_after report_form s lines).lines ≡ s.lines ++ calls

calls_of : (s : ReportView) (lines : List ReportLine) → is_counted s ≡ true → AreLines report_form s lines → is_ended_report (state_after report_form s lines) ≡ true → (calls : List Line) × Adds s lines calls
unfolding last_lines
calls_of s [] counted are last = absurd (true_is_not_false (is_ended_report s) last (called_is_not_end s.stage (called_of s counted)))
calls_of s (Head ∷ lines) counted are last = absurd (true_is_not_false (is_called s.stage) (called_of s counted) (ap is_called are.1))
calls_of s (Calls n ∷ lines) counted are last = absurd (true_is_not_false (is_called s.stage) (called_of s counted) (ap is_called are.1.0))
calls_of s (Count class n ∷ lines) counted are last = absurd (no_more_counts s class counted are.1.1)
calls_of s (Call l ∷ lines) counted are last =
    let rest = calls_of (with_report_line s (Call l)) lines counted are.2 last in
    let calls = rest.0 in
    let joined : (s.lines ++ l ∷ []) ++ calls ≡ s.lines ++ l ∷ calls = append_assoc s.lines (l ∷ []) calls in (
      l ∷ calls,
      record {
        lines_are = ap (λ (ls : List ReportLine). Call l ∷ ls) rest.1.lines_are;
        from = (are.1.2, record { below = are.1.3; session = are.0.1; place = are.0.2; differs = are.1.1 }, rest.1.from);
        counts = rest.1.counts ∙ ap (counts_in s.calls) joined;
        calls_after = rest.1.calls_after;
        lines_after = rest.1.lines_after ∙ joined;
      },
    )
calls_of s (End ∷ lines) counted are last =
    let none = nothing_after (with_report_line s End) lines refl are.2 in
    let same : s.lines ≡ s.lines ++ [] = sym (append-nil s.lines) in
    let after : state_after report_form (with_report_line s End) lines ≡ with_report_line s End = ap (state_after report_form (with_report_line s End)) none in (
      [],
      record {
        lines_are = ap (λ (ls : List ReportLine). End ∷ ls) none;
        from = tt;
        counts = are.1.1 ∙ ap (counts_in s.calls) same;
        calls_after = ap (λ (v : ReportView). v.calls) after;
        lines_after = ap (λ (v : ReportView). v.lines) after ∙ same;
      },
    )

-- these are the classes from this number on
abbrev Follow : ℕ → List Class → Type 0
Follow k [] = k ≡ 9
Follow k (class ∷ classes) = (class_number class ≡ k) × Follow (k + 1) classes

class_at : ℕ → Class
class_at k = get_or all_classes k Same

at_its_number : (class : Class) → class_at (class_number class) ≡ class
unfolding class_at
at_its_number Same = refl
at_its_number NewError = refl
at_its_number GoneError = refl
at_its_number MutatedError = refl
at_its_number RowsModified = refl
at_its_number RowsFetched = refl
at_its_number RowContents = refl
at_its_number Images = refl
at_its_number Shape = refl

same_class : (class other : Class) → class_number class ≡ class_number other → class ≡ other
same_class class other same = sym (at_its_number class) ∙ ap class_at same ∙ at_its_number other

-- behind these counts too
abbrev with_counts : ReportView → List ℕ → ReportView
with_counts s given = record s { counts = s.counts ++ given }

record Counted (s : ReportView) (classes : List Class) (lines : List ReportLine) : Type 0 where
  given : List ℕ
  rest : List ReportLine
  lines_are : lines ≡ count_lines classes given rest
  enough : length given ≡ length classes
  are : AreLines report_form (with_counts s given) rest
  leads : state_after report_form s lines ≡ state_after report_form (with_counts s given) rest

no_counts : (s : ReportView) → with_counts s [] ≡ s
no_counts s = ap (λ (counts : List ℕ). record s { counts = counts }) (append-nil s.counts)

more_counts : (s : ReportView) (n : ℕ) (given : List ℕ) → with_counts (with_counts s (n ∷ [])) given ≡ with_counts s (n ∷ given)
more_counts s n given = ap (λ (counts : List ℕ). record s { counts = counts }) (append_assoc s.counts (n ∷ []) given)

counts_before : (s : ReportView) (class : Class) (classes : List Class) → Follow (length s.counts) (class ∷ classes) → is_counted s ≡ true → ⊥
counts_before s class classes follow counted = no_more_counts s class counted (sym follow.0)

counts_given : (s : ReportView) (classes : List Class) (lines : List ReportLine) → s.stage ≡ Called → Follow (length s.counts) classes → AreLines report_form s lines → is_ended_report (state_after report_form s lines) ≡ true → Counted s classes lines
counts_given s [] lines stage follow are last = record {
  given = [];
  rest = lines;
  lines_are = refl;
  enough = refl;
  are = subst (λ (v : ReportView). AreLines report_form v lines) (sym (no_counts s)) are;
  leads = ap (λ (v : ReportView). state_after report_form v lines) (sym (no_counts s));
}
counts_given s (class ∷ classes) [] stage follow are last = absurd (true_is_not_false (is_ended_report s) last (ap is_end stage))
counts_given s (class ∷ classes) (Head ∷ lines) stage follow are last = absurd (let never : Called ≡ Empty = sym stage ∙ are.1 in cc)
counts_given s (class ∷ classes) (Calls n ∷ lines) stage follow are last = absurd (let never : Called ≡ Headed = sym stage ∙ are.1.0 in cc)
counts_given s (class ∷ classes) (Count other n ∷ lines) stage follow are last =
    let one_more : length (s.counts ++ n ∷ []) ≡ length s.counts + 1 = length-append s.counts (n ∷ []) in
    let rest = counts_given (with_counts s (n ∷ [])) classes lines stage (subst (λ (k : ℕ). Follow k classes) (sym one_more) follow.1) are.2 last in
    let same : other ≡ class = same_class other class (sym are.1.1 ∙ sym follow.0) in
    record {
      given = n ∷ rest.given;
      rest = rest.rest;
      lines_are = ap (λ (ls : List ReportLine). Count other n ∷ ls) rest.lines_are ∙ ap (λ (c : Class). Count c n ∷ count_lines classes rest.given rest.rest) same;
      enough = ap (λ (k : ℕ). suc k) rest.enough;
      are = subst (λ (v : ReportView). AreLines report_form v rest.rest) (more_counts s n rest.given) rest.are;
      leads = rest.leads ∙ ap (λ (v : ReportView). state_after report_form v rest.rest) (more_counts s n rest.given);
    }
counts_given s (class ∷ classes) (Call l ∷ lines) stage follow are last = absurd (counts_before s class classes follow are.1.0)
counts_given s (class ∷ classes) (End ∷ lines) stage follow are last = absurd (counts_before s class classes follow are.1.0)

-- the report that these lines have said
abbrev pub said : ReportView → Report
said t = report_with t.calls t.lines

record AreOf (lines : List ReportLine) : Type 0 where
  calls : ℕ
  differ : List Line
  lines_are : lines ≡ all_lines calls differ
  whole : IsWhole (report_with calls differ)
  calls_after : (state_after report_form new_report lines).calls ≡ calls
  lines_after : (state_after report_form new_report lines).lines ≡ differ

-- behind the number of calls
abbrev called_with : ℕ → ReportView
called_with n = record { stage = Called; calls = n; counts = []; lines = []; least = 0 }

behind_calls : (n : ℕ) (lines : List ReportLine) → n ≤ call_limit → AreLines report_form (called_with n) lines → is_ended_report (state_after report_form (called_with n) lines) ≡ true → (differ : List Line) × (lines ≡ count_lines all_classes (counts_in n differ) (last_lines differ)) × IsWhole (report_with n differ) × ((state_after report_form (called_with n) lines).calls ≡ n) × ((state_after report_form (called_with n) lines).lines ≡ differ)
behind_calls n lines few are last =
    let head = counts_given (called_with n) all_classes lines refl (refl, (refl, (refl, (refl, (refl, (refl, (refl, (refl, (refl, refl))))))))) are last in
    let s : ReportView = with_counts (called_with n) head.given in
    let counted : is_counted s ≡ true = ap (λ (k : ℕ). k == 9) head.enough in
    let more = calls_of s head.rest counted head.are (sym (ap is_ended_report head.leads) ∙ last) in
    let given : head.given ≡ counts_in n more.0 = more.1.counts in (
      more.0,
      head.lines_are ∙ ap (λ (counts : List ℕ). count_lines all_classes counts head.rest) given ∙ ap (λ (rest : List ReportLine). count_lines all_classes (counts_in n more.0) rest) more.1.lines_are,
      record { limit = few; lines = more.1.from; counts = refl },
      ap (λ (v : ReportView). v.calls) head.leads ∙ more.1.calls_after,
      ap (λ (v : ReportView). v.lines) head.leads ∙ more.1.lines_after,
    )

behind_head : (lines : List ReportLine) → AreLines report_form (record new_report { stage = Headed }) lines → is_ended_report (state_after report_form (record new_report { stage = Headed }) lines) ≡ true → AreOf (Head ∷ lines)
unfolding all_lines
behind_head [] are last = absurd (let never : false ≡ true = last in cc)
behind_head (Head ∷ lines) are last = absurd (let never : Headed ≡ Empty = are.1 in cc)
behind_head (Calls n ∷ lines) are last =
    let found = behind_calls n lines are.1.1 are.2 last in
    record { calls = n; differ = found.0; lines_are = ap (λ (ls : List ReportLine). Head ∷ Calls n ∷ ls) found.1; whole = found.2; calls_after = found.3; lines_after = found.4 }
behind_head (Count class n ∷ lines) are last = absurd (let never : Headed ≡ Called = are.1.0 in cc)
behind_head (Call l ∷ lines) are last = absurd (let never : false ≡ true = are.1.0 in cc)
behind_head (End ∷ lines) are last = absurd (let never : false ≡ true = are.1.0 in cc)

all_of : (lines : List ReportLine) → AreLines report_form new_report lines → is_ended_report (state_after report_form new_report lines) ≡ true → AreOf lines
all_of [] are last = absurd (let never : false ≡ true = last in cc)
all_of (Head ∷ lines) are last = behind_head lines are.2 last
all_of (Calls n ∷ lines) are last = absurd (let never : Empty ≡ Headed = are.1.0 in cc)
all_of (Count class n ∷ lines) are last = absurd (let never : Empty ≡ Called = are.1.0 in cc)
all_of (Call l ∷ lines) are last = absurd (let never : false ≡ true = are.1.0 in cc)
all_of (End ∷ lines) are last = absurd (let never : false ≡ true = are.1.0 in cc)

-- what was read is the text of the report
pub file_read : (bytes : List ℕ) (t : ReportView) → IsFile (Comes report_form) is_ended_report new_report bytes t → IsReport bytes (said t)
file_read bytes t is =
    let has = file_has_lines report_form is_ended_report new_report bytes t is in
    let found = all_of has.lines has.are (sym (ap is_ended_report has.leads) ∙ is.ended) in
    let calls : found.calls ≡ t.calls = sym (ap (λ (s : ReportView). s.calls) has.leads ∙ found.calls_after) in
    let differ : found.differ ≡ t.lines = sym (ap (λ (s : ReportView). s.lines) has.leads ∙ found.lines_after) in
    let same : report_with found.calls found.differ ≡ said t = ap (λ (n : ℕ). report_with n found.differ) calls ∙ ap (report_with t.calls) differ in
    subst (IsReport bytes) same (record { whole = found.whole; text = has.text ∙ ap (text_of report_form) found.lines_are ∙ all_text found.calls found.differ })

-- ---- and back

small_count : (lines : List Line) (class : Class) → length lines ≤ call_limit → count_in lines class < 2 ^ 64
small_count lines class few = let most = count_by-le-length (λ (l : Line). class_number l.class == class_number class) lines in omega (arith, most, few)

few_lines : (calls least : ℕ) (lines : List Line) → AreLinesFrom calls least lines → length lines ≤ calls - least
few_lines calls least [] from = omega arith
few_lines calls least (l ∷ lines) from = let rest = few_lines calls (l.stamp + 1) lines from.2 in let below = from.1.below in omega (arith, rest, below, from.0)

record Leads (s : ReportView) (lines : List ReportLine) (differ : List Line) : Type 0 where
  are : AreLines report_form s lines
  ended : is_ended_report (state_after report_form s lines) ≡ true
  calls_after : (state_after report_form s lines).calls ≡ s.calls
  lines_after : (state_after report_form s lines).lines ≡ s.lines ++ differ

calls_lead : (s : ReportView) (calls : List Line) → is_counted s ≡ true → s.calls ≤ call_limit → AreLinesFrom s.calls s.least calls → s.counts ≡ counts_in s.calls (s.lines ++ calls) → Leads s (last_lines calls) calls
unfolding last_lines
calls_lead s [] counted few from counts =
    let same : s.lines ++ [] ≡ s.lines = append-nil s.lines in
    record { are = (tt, (counted, counts ∙ ap (counts_in s.calls) same), tt); ended = refl; calls_after = refl; lines_after = sym same }
calls_lead s (l ∷ calls) counted few from counts =
    let joined : s.lines ++ l ∷ calls ≡ (s.lines ++ l ∷ []) ++ calls = sym (append_assoc s.lines (l ∷ []) calls) in
    let rest = calls_lead (with_report_line s (Call l)) calls counted few from.2 (counts ∙ ap (counts_in s.calls) joined) in
    let below = from.1.below in
    record {
      are = ((omega (arith, below, few), from.1.session, from.1.place), (counted, from.1.differs, from.0, below), rest.are);
      ended = rest.ended;
      calls_after = rest.calls_after;
      lines_after = rest.lines_after ∙ sym joined;
    }

counts_lead : (n : ℕ) (lines : List Line) (rest : List ReportLine) → n ≤ call_limit → length lines ≤ call_limit → AreLines report_form (record (called_with n) { counts = counts_in n lines }) rest → AreLines report_form (called_with n) (count_lines all_classes (counts_in n lines) rest)
counts_lead n lines rest few short are =
    let same_count : n - length lines < 2 ^ 64 = omega (arith, few) in (
      same_count,
      (refl, refl),
      (
        small_count lines NewError short,
        (refl, refl),
        (
          small_count lines GoneError short,
          (refl, refl),
          (
            small_count lines MutatedError short,
            (refl, refl),
            (
              small_count lines RowsModified short,
              (refl, refl),
              (
                small_count lines RowsFetched short,
                (refl, refl),
                (
                  small_count lines RowContents short,
                  (refl, refl),
                  (
                    small_count lines Images short,
                    (refl, refl),
                    (
                      small_count lines Shape short,
                      (refl, refl),
                      are,
                    ),
                  ),
                ),
              ),
            ),
          ),
        ),
      ),
    )

pub record ReadsAs (bytes : List ℕ) (report : Report) : Type 0 where
  pub after : ReportView
  pub file : IsFile (Comes report_form) is_ended_report new_report bytes after
  pub says : report ≡ said after

read_with : (calls : ℕ) (lines : List Line) → calls ≤ call_limit → AreLinesFrom calls 0 lines → ReadsAs (report_text (report_with calls lines)) (report_with calls lines)
unfolding all_lines
read_with calls lines few from =
    let s : ReportView = record (called_with calls) { counts = counts_in calls lines } in
    let most = few_lines calls 0 lines from in
    let short : length lines ≤ call_limit = omega (arith, most, few) in
    let last = calls_lead s lines refl few from refl in
    let counts = counts_lead calls lines (last_lines lines) few short last.are in
    let are : AreLines report_form new_report (all_lines calls lines) = (tt, refl, (omega (arith, few), (refl, few), counts)) in
    let file = lines_are_file report_form is_ended_report sound new_report (all_lines calls lines) are last.ended in
    let after = state_after report_form new_report (all_lines calls lines) in
    record {
      after = after;
      file = subst (λ (bytes : List ℕ). IsFile (Comes report_form) is_ended_report new_report bytes after) (all_text calls lines) file;
      says = ap (λ (n : ℕ). report_with n lines) (sym last.calls_after) ∙ ap (report_with after.calls) (sym last.lines_after);
    }

-- the bytes of a report are its lines
pub read_bytes : (bytes : List ℕ) (report : Report) → IsReport bytes report → ReadsAs bytes report
read_bytes bytes report is =
    let same : report_with report.calls report.lines ≡ report = ap (λ (counts : List ℕ). record report { counts = counts }) (sym is.whole.counts) in
    let read = subst (λ (r : Report). ReadsAs (report_text r) r) same (read_with report.calls report.lines is.whole.limit is.whole.lines) in
    subst (λ (bs : List ℕ). ReadsAs bs report) (sym is.text) read

-- ---- bytes come to one thing alone

abbrev Verdict : Type 0
Verdict = Result ReportView ℕ

one : (bytes : List ℕ) (v w : Verdict) → Is (Comes report_form) is_ended_report new_report 1 bytes v → Is (Comes report_form) is_ended_report new_report 1 bytes w → v ≡ w
one bytes v w is also = once (Comes report_form) is_ended_report (says_one report_form report_lines) new_report 1 bytes v w is also

-- bytes are the text of one report alone
pub one_file : (bytes : List ℕ) (report other : Report) → IsReport bytes report → IsReport bytes other → report ≡ other
one_file bytes report other is also =
    let first = read_bytes bytes report is in
    let second = read_bytes bytes other also in
    let both = one bytes (Ok first.after) (Ok second.after) first.file second.file in
    let views : first.after ≡ second.after = cc in
    first.says ∙ ap said views ∙ sym second.says

-- bytes with a bad line are no report
pub bad_file : (bytes : List ℕ) (n : ℕ) → IsBadReport bytes n → (report : Report) → ¬ IsReport bytes report
bad_file bytes n bad report is = let read = read_bytes bytes report is in let both = one bytes (Err n) (Ok read.after) bad read.file in cc

-- and it is the first of one number alone
pub one_bad : (bytes : List ℕ) (n other : ℕ) → IsBadReport bytes n → IsBadReport bytes other → n ≡ other
one_bad bytes n other bad also = let both = one bytes (Err n) (Err other) bad also in cc

pub error_read : (bytes : List ℕ) (error : FormErr) → Says {F = ReportView} (Err error) (λ s. s) (Comes report_form) is_ended_report new_report bytes → ReadsFile {X = Report} (Err error) (IsReport bytes) (IsBadReport bytes)
error_read bytes (Bad n) bad = (bad, bad_file bytes n bad)
error_read bytes Memory says = tt

-- what was written is read
pub read_back : (report : Report) → IsWhole report → (result : Result Report FormErr) → ReadsFile result (IsReport (report_text report)) (IsBadReport (report_text report)) → MatchResult result (λ read. read ≡ report) (λ error. error ≡ Memory)
read_back report whole (Ok read) is = one_file (report_text report) read report is (record { whole = whole; text = refl })
read_back report whole (Err (Bad n)) is = absurd (bad_file (report_text report) n is.0 report (record { whole = whole; text = refl }))
read_back report whole (Err Memory) is = refl
