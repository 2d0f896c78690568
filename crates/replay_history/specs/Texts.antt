-- The texts of a history, a report and tables. A file is lines, each ended by a line feed.
use Rattle.std.specs.Prelude.{ℕ, List, [], ◌∷◌, ◌++◌, codes, slice_index}
use Rattle.std.specs.List.{flat_map}
use Rattle.std.specs.Fmt.{decimal}
use Rattle.desk_values.specs.declared.value.Image.{Image}
use Rattle.desk_values.specs.declared.capture.Event.{Event}
use Rattle.desk_values.specs.declared.capture.Event.TheVariants.{Start, Answer}
use Rattle.desk_values.specs.Text.{reply_text, left_text}
use Rattle.replay_history.specs.declared.mode.Mode.{Mode}
use Rattle.replay_history.specs.declared.report.Line.{Line}
use Rattle.replay_history.specs.declared.report.Report.{Report}
use Rattle.replay_history.specs.declared.report.Class.{Class}
use Rattle.replay_history.specs.declared.report.Class.TheVariants.{Same, NewError, GoneError, MutatedError, RowsModified, RowsFetched, RowContents, Images, Shape}
use Rattle.replay_history.specs.Mode.{mode_word}
use Rattle.replay_history.specs.Class.{class_word, class_number}

-- a line, with its line feed
abbrev pub line : List ℕ → List ℕ
line text = text ++ 10 ∷ []

abbrev pub event_text : Event → List ℕ
event_text (Start k pause) = codes "s " ++ (decimal k ++ 32 ∷ decimal pause)
event_text (Answer k reply) = codes "a " ++ (decimal k ++ 32 ∷ reply_text reply)

abbrev pub journal_text : Mode → List Event → List ℕ
journal_text mode history = line (codes "journal 1 " ++ mode_word mode) ++ (flat_map (λ event. line (event_text event)) history ++ line (codes "end"))

-- a word and a number
abbrev pub count_line : List ℕ → ℕ → List ℕ
count_line word count = line (word ++ 32 ∷ decimal count)

-- where a call stands: its stamp, its session and its place there
abbrev pub place_text : Line → List ℕ
place_text l = decimal l.stamp ++ 32 ∷ (decimal l.session ++ 32 ∷ decimal l.place)

abbrev pub line_text : Line → List ℕ
line_text l = place_text l ++ 32 ∷ class_word l.class

-- the word of a class and its count
abbrev pub class_line : List ℕ → Class → List ℕ
class_line counts class = count_line (class_word class) (slice_index counts (class_number class))

-- the counts of the classes, in their order
abbrev pub error_counts : List ℕ → List ℕ
error_counts counts =
    class_line counts Same ++ (class_line counts NewError ++ (class_line counts GoneError ++ class_line counts MutatedError))

abbrev pub row_counts : List ℕ → List ℕ
row_counts counts = class_line counts RowsModified ++ (class_line counts RowsFetched ++ class_line counts RowContents)

abbrev pub other_counts : List ℕ → List ℕ
other_counts counts = class_line counts Images ++ class_line counts Shape

abbrev pub counts_text : List ℕ → List ℕ
counts_text counts = error_counts counts ++ (row_counts counts ++ other_counts counts)

abbrev pub report_text : Report → List ℕ
report_text r = line (codes "report 1") ++ (count_line (codes "calls") r.calls ++ (counts_text r.counts ++ (flat_map (λ l. line (line_text l)) r.lines ++ line (codes "end"))))

-- a committed row: its number, its table and its values
abbrev pub row_text : Image → List ℕ
row_text image = decimal image.row ++ 32 ∷ (decimal image.table ++ 32 ∷ left_text image.left)

abbrev pub tables_text : List Image → List ℕ
tables_text rows = line (codes "tables 1") ++ (flat_map (λ image. line (row_text image)) rows ++ line (codes "end"))
