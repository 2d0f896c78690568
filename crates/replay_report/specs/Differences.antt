-- The calls that differ as records of comma-separated fields.
use Rattle.std.specs.Prelude.{ℕ, ◌==◌, if◌then◌else◌, List, [], ◌∷◌, ◌++◌, slice_get, Option, None, Some, codes}
use Rattle.std.specs.List.{flat_map}
use Rattle.std.specs.Option.{option_and_then, option_map}
use Rattle.std.specs.Fmt.{decimal}
use Rattle.csv.specs.Writing.{default_writer, row_text}
use Rattle.desk_values.specs.declared.call.Reply.{Reply}
use Rattle.desk_values.specs.declared.capture.Captured.{Captured}
use Rattle.desk_values.specs.declared.capture.Event.{Event}
use Rattle.desk_values.specs.declared.capture.Event.TheVariants.{Start, Answer}
use Rattle.desk_values.specs.Text.{reply_text}
use Rattle.replay_history.specs.declared.report.Line.{Line}
use Rattle.replay_history.specs.Class.{class_word}
use Rattle.replay_report.specs.Last.{last_of}

-- the reply to the call with this stamp, where the event answers it
abbrev pub reply_at : ℕ → Event → Option Reply
reply_at k (Start j pause) = None
reply_at k (Answer j reply) = if j == k then Some reply else None

-- its last reply: in a legal history it has one alone
abbrev pub reply_in : ℕ → List Event → Option Reply
reply_in k history = last_of (reply_at k) history

-- the two replies to the call with this stamp, where it is one of these calls
abbrev pub captured_reply : List Captured → ℕ → Option Reply
captured_reply calls k = option_map (λ call. call.reply) (slice_get calls k)

abbrev pub replayed_reply : List Captured → List Event → ℕ → Option Reply
replayed_reply calls history k = option_and_then (λ call. reply_in k history) (slice_get calls k)

-- a field is empty where there is no such reply
abbrev pub reply_field : Option Reply → List ℕ
reply_field None = []
reply_field (Some reply) = reply_text reply

-- where the call stands, its class, and its captured and its replayed reply
abbrev pub fields_of : Line → Option Reply → Option Reply → List (List ℕ)
fields_of l captured replayed = decimal l.stamp ∷ decimal l.session ∷ decimal l.place ∷ class_word l.class ∷ reply_field captured ∷ reply_field replayed ∷ []

abbrev pub head_fields : List (List ℕ)
head_fields = codes "stamp" ∷ codes "session" ∷ codes "place" ∷ codes "class" ∷ codes "captured" ∷ codes "replayed" ∷ []

-- a record by the defaults of the CSV writer: commas between, a field in quotes where it holds a comma, a quote or the end
-- of a line, and a line feed behind
abbrev pub record_text : List (List ℕ) → List ℕ
record_text fields = row_text default_writer fields

abbrev pub line_record : List Captured → List Event → Line → List ℕ
line_record calls history l = record_text (fields_of l (captured_reply calls l.stamp) (replayed_reply calls history l.stamp))

abbrev pub csv_text : List Captured → List Event → List Line → List ℕ
csv_text calls history lines = record_text head_fields ++ flat_map (line_record calls history) lines
