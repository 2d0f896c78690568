-- Words for the steps of the work.
use Rattle.std.specs.Prelude.{◌≡◌, ℕ, false, List, [], ◌∷◌, ◌++◌, Option, None, Some, slice_get, slice_index_or, slice_set, option_copied, Vec}
use Rattle.std.specs.declared.alloc.Global.{Global}
use denote.Ref.{Bor}
use Rattle.csv.specs.declared.writer.Writer.{Writer}
use Rattle.csv.specs.Writing.{default_writer, fields_written, has_written, writer_pending, writer_setup, writer_under}
use Rattle.desk_values.specs.declared.call.Reply.{Reply}
use Rattle.desk_values.specs.declared.capture.Captured.{Captured}
use Rattle.desk_values.specs.declared.capture.Event.{Event}
use Rattle.replay_history.specs.declared.report.Class.{Class}
use Rattle.replay_history.specs.declared.report.Line.{Line}
use Rattle.desk_values.specs.declared.capture.Event.TheVariants.{Start, Answer}
use Rattle.id_pairs.specs.Pairs.{IdPair, all_new}
use Rattle.replay_job.specs.Runs.{gained}
use Rattle.divergence.specs.Class.{class_between}
use Rattle.replay_report.specs.Differences.{captured_reply, fields_of, record_text}
use Rattle.replay_report.specs.Report.{difference}

-- the writer has its defaults and stands between two records
pub record IsBetween (writer : Writer (Vec ℕ Global)) : Type 0 where
  pub setup : writer_setup writer ≡ default_writer
  pub fields : fields_written writer ≡ 0
  pub blank : has_written writer ≡ false

-- what it has written
abbrev pub written : Writer (Vec ℕ Global) → List ℕ
written writer = (writer_under writer).items ++ writer_pending writer

-- the replies by stamp, with that of the event, where it answers one of these calls
abbrev pub with_answer : List (Option Reply) → Event → List (Option Reply)
with_answer replies (Start k pause) = replies
with_answer replies (Answer k reply) = slice_set replies k (Some reply)

-- the record of a line, where its slot holds the replayed reply
abbrev pub slot_record : List Captured → List (Option (Bor Reply)) → Line → List ℕ
slot_record calls replies l = record_text (fields_of l (captured_reply calls l.stamp) (option_copied (slice_index_or replies l.stamp None)))

-- the lines of calls, where these are their classes
abbrev pub differences : List Captured → List (Option Class) → List Line
differences (call ∷ calls) (class ∷ classes) = difference call class ++ differences calls classes
differences calls classes = []

-- the classes by stamp, with that of the call which is answered so, by these pairs
abbrev pub noted_on : Option Captured → List IdPair → ℕ → Reply → List (Option Class) → List (Option Class)
noted_on None pairs k reply classes = classes
noted_on (Some call) pairs k reply classes = slice_set classes k (Some (class_between pairs call.reply reply))

-- the same of an event and the pairs just behind it
abbrev pub noted : List Captured → List IdPair → Event → List (Option Class) → List (Option Class)
noted calls pairs (Start k pause) classes = classes
noted calls pairs (Answer k reply) classes = noted_on (slice_get calls k) pairs k reply classes

-- the same of each event in turn, behind others that gave these pairs
abbrev pub walked : List Captured → List IdPair → List Event → List (Option Class) → List (Option Class)
walked calls pairs [] classes = classes
walked calls pairs (event ∷ events) classes = let known = all_new pairs (gained calls event) in
    walked calls known events (noted calls known event classes)
