-- The file of a report: which bytes are the text of one, and its lines as a form, which tells the first bad line.
use Rattle.std.specs.Prelude.{◌≡◌, ◌≢◌, ℕ, ◌+◌, ◌-◌, ◌^◌, ◌<◌, ◌≤◌, ◌==◌, ◌&&◌, Bool, true, false, List, [], ◌∷◌, ◌++◌, codes, length, map, count_by}
use Rattle.std.specs.Fmt.{decimal}
use Rattle.file_lines.specs.File.{IsBadAt}
use Rattle.file_lines.specs.Form.{Form, Comes}
use Rattle.replay_history.specs.declared.report.Class.{Class}
use Rattle.replay_history.specs.declared.report.Class.TheVariants.{Same, NewError, GoneError, MutatedError, RowsModified, RowsFetched, RowContents, Images, Shape}
use Rattle.replay_history.specs.declared.report.Line.{Line}
use Rattle.replay_history.specs.declared.report.Report.{Report}
use Rattle.replay_history.specs.Class.{class_number, class_word}
use Rattle.replay_history.specs.Limits.{call_limit}
use Rattle.replay_history.specs.Texts.{line_text, report_text}
use Rattle.report_format.specs.declared.draft.Stage.{Stage}
use Rattle.report_format.specs.declared.draft.Stage.TheVariants.{Empty, Headed, Called, Ended}
use Rattle.report_format.specs.declared.line.ReportLine.{ReportLine}
use Rattle.report_format.specs.declared.line.ReportLine.TheVariants.{Head, Calls, Count, Call, End}

-- ---- a report

-- how many of the lines are of a class
abbrev pub count_in : List Line → Class → ℕ
count_in lines class = count_by (λ l. class_number l.class == class_number class) lines

-- the counts that these lines give, of so many calls: those without a line are the same
abbrev pub counts_in : ℕ → List Line → List ℕ
counts_in calls lines =
    (calls - length lines) ∷ map (count_in lines) (NewError ∷ GoneError ∷ MutatedError ∷ RowsModified ∷ RowsFetched ∷ RowContents ∷ Images ∷ Shape ∷ [])

-- the line of a call that differs, of so many calls, with numbers within their types
pub record IsLineBelow (calls : ℕ) (l : Line) : Type 0 where
  pub below : l.stamp < calls
  pub session : l.session < 2 ^ 32
  pub place : l.place < 2 ^ 32
  pub differs : l.class ≢ Same

-- the lines of such calls, stamps rising from this one on
abbrev pub AreLinesFrom : ℕ → ℕ → List Line → Type 0
AreLinesFrom calls least [] = Unit {0}
AreLinesFrom calls least (l ∷ lines) = (least ≤ l.stamp) × IsLineBelow calls l × AreLinesFrom calls (l.stamp + 1) lines

-- a report of no more calls than a capture has, whose counts are those of its lines
pub record IsWhole (report : Report) : Type 0 where
  pub limit : report.calls ≤ call_limit
  pub lines : AreLinesFrom report.calls 0 report.lines
  pub counts : report.counts ≡ counts_in report.calls report.lines

-- the bytes are the text of this report
pub record IsReport (bytes : List ℕ) (report : Report) : Type 0 where
  pub whole : IsWhole report
  pub text : bytes ≡ report_text report

-- ---- its lines

-- the text of a line, without its line feed
abbrev pub report_line_text : ReportLine → List ℕ
report_line_text Head = codes "report 1"
report_line_text (Calls n) = codes "calls" ++ 32 ∷ decimal n
report_line_text (Count class n) = class_word class ++ 32 ∷ decimal n
report_line_text (Call l) = line_text l
report_line_text End = codes "end"

-- a line that has a text
abbrev pub IsReportLine : ReportLine → Type 0
IsReportLine Head = Unit {0}
IsReportLine (Calls n) = n < 2 ^ 64
IsReportLine (Count class n) = n < 2 ^ 64
IsReportLine (Call l) = (l.stamp < 2 ^ 32) × (l.session < 2 ^ 32) × (l.place < 2 ^ 32)
IsReportLine End = Unit {0}

-- what the lines so far have said: how far they came, how many calls there are, the counts, the calls that differ, and the least
-- stamp that may come next
pub record ReportView : Type 0 where
  pub stage : Stage
  pub calls : ℕ
  pub counts : List ℕ
  pub lines : List Line
  pub least : ℕ

abbrev pub is_called : Stage → Bool
is_called Called = true
is_called other = false

-- all counts came
abbrev pub is_counted : ReportView → Bool
is_counted s = is_called s.stage && (length s.counts == 9)

-- The number of calls comes behind the head, then the counts in the order of the classes, then calls that differ, stamps rising
-- below the number of calls. The end comes where the counts are those of the lines.
abbrev pub MayComeNext : ReportView → ReportLine → Type 0
MayComeNext s Head = s.stage ≡ Empty
MayComeNext s (Calls n) = (s.stage ≡ Headed) × (n ≤ call_limit)
MayComeNext s (Count class n) = (s.stage ≡ Called) × (length s.counts ≡ class_number class)
MayComeNext s (Call l) = (is_counted s ≡ true) × (l.class ≢ Same) × (s.least ≤ l.stamp) × (l.stamp < s.calls)
MayComeNext s End = (is_counted s ≡ true) × (s.counts ≡ counts_in s.calls s.lines)

-- what a line adds
abbrev pub with_report_line : ReportView → ReportLine → ReportView
with_report_line s Head = record s { stage = Headed }
with_report_line s (Calls n) = record s { stage = Called; calls = n }
with_report_line s (Count class n) = record s { counts = s.counts ++ n ∷ [] }
with_report_line s (Call l) = record s { lines = s.lines ++ l ∷ []; least = l.stamp + 1 }
with_report_line s End = record s { stage = Ended }

-- before the first line
abbrev pub new_report : ReportView
new_report = record { stage = Empty; calls = 0; counts = []; lines = []; least = 0 }

abbrev pub is_end : Stage → Bool
is_end Ended = true
is_end other = false

abbrev pub is_ended_report : ReportView → Bool
is_ended_report s = is_end s.stage

abbrev pub report_form : Form ReportView ReportLine
report_form = record { Fits = IsReportLine; text = report_line_text; May = MayComeNext; added = with_report_line }

-- the line of this number is the first that is not whole or may not come
abbrev pub IsBadReport : List ℕ → ℕ → Type 0
IsBadReport bytes n = IsBadAt (Comes report_form) is_ended_report new_report 1 bytes n
