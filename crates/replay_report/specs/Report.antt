-- The report on a history: the class of each call, how many calls there are of each class, and a line for each call that differs.
use Rattle.std.specs.Prelude.{ℕ, ◌==◌, if◌then◌else◌, Bool, false, List, [], ◌∷◌, ◌++◌, length, map, count_by, Option, None, Some}
use Rattle.std.specs.List.{flat_map}
use Rattle.desk_values.specs.declared.capture.Captured.{Captured}
use Rattle.desk_values.specs.declared.capture.Event.{Event}
use Rattle.desk_values.specs.declared.capture.Event.TheVariants.{Start, Answer}
use Rattle.id_pairs.specs.Pairs.{IdPair, all_new}
use Rattle.remap_ids.specs.IdMap.{start_pairs}
use Rattle.replay_history.specs.declared.report.Class.{Class}
use Rattle.replay_history.specs.declared.report.Class.TheVariants.{Same}
use Rattle.replay_history.specs.declared.report.Line.{Line}
use Rattle.replay_history.specs.declared.report.Report.{Report}
use Rattle.replay_history.specs.Class.{all_classes, class_number}
use Rattle.replay_job.specs.Job.{JobView}
use Rattle.replay_job.specs.Runs.{gained, learnt_in}
use Rattle.divergence.specs.Class.{class_between}
use Rattle.replay_report.specs.Last.{last_of}

-- ---- the pairs of ids

-- the pairs behind these events
abbrev pub pairs_after : JobView → List Event → List IdPair
pairs_after job history = start_pairs job.start ++ learnt_in job.calls history

-- an event, and the pairs just behind it
abbrev pub Marked : Type 0
Marked = Event × List IdPair

-- how pairs come behind others
abbrev pub Growth : Type 0
Growth = List IdPair → List IdPair → List IdPair

-- the events so, behind others that gave these pairs
abbrev pub marked_by : Growth → List Captured → List IdPair → List Event → List Marked
marked_by grow calls pairs [] = []
marked_by grow calls pairs (event ∷ events) = let known = grow pairs (gained calls event) in (event, known) ∷ marked_by grow calls known events

-- where all pairs come behind those before
abbrev pub marked : List Captured → List IdPair → List Event → List Marked
marked calls pairs events = marked_by (λ known more. known ++ more) calls pairs events

-- ---- the class of a call

-- by an event that answers it, and the pairs just behind that
abbrev pub class_by : Captured → Event → List IdPair → Option Class
class_by call (Start k pause) pairs = None
class_by call (Answer k reply) pairs = if k == call.stamp then Some (class_between pairs call.reply reply) else None

abbrev pub class_at : Captured → Marked → Option Class
class_at call event = class_by call event.0 event.1

-- by its last answer: in a legal history it has one alone. A call that is not answered has no class.
abbrev pub class_of : JobView → List Event → Captured → Option Class
class_of job history call = last_of (class_at call) (marked job.calls (start_pairs job.start) history)

-- ---- the report

abbrev pub is_class : Class → Option Class → Bool
is_class class None = false
is_class class (Some other) = class_number other == class_number class

-- how many there are of each class
abbrev pub counts_of : List (Option Class) → List ℕ
counts_of classes = map (λ class. count_by (is_class class) classes) all_classes

-- the line of a call, where it differs
abbrev pub difference : Captured → Option Class → List Line
difference call None = []
difference call (Some class) = if class_number class == class_number Same then [] else record { stamp = call.stamp; session = call.session; place = call.place; class = class } ∷ []

abbrev pub report_by : JobView → (Captured → Option Class) → Report
report_by job class = record {
  calls = length job.calls;
  counts = counts_of (map class job.calls);
  lines = flat_map (λ call. difference call (class call)) job.calls;
}

abbrev pub report_in : JobView → List Event → Report
report_in job history = report_by job (class_of job history)

-- ---- of replies that another server gave: it may give an id twice, and the first pair of an id stays

abbrev pub heard_class_of : JobView → List Event → Captured → Option Class
heard_class_of job history call = last_of (class_at call) (marked_by all_new job.calls (start_pairs job.start) history)

abbrev pub heard_report_in : JobView → List Event → Report
heard_report_in job history = report_by job (heard_class_of job history)
