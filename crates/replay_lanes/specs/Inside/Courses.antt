-- A replay under way as its lanes see it. It need not be believed.
use Rattle.std.specs.Prelude.{ℕ, ◌+◌, Bool, List, [], ◌∷◌, ◌++◌}
use Rattle.desk_values.specs.declared.capture.Event.{Event}
use Rattle.desk_values.specs.declared.capture.Event.TheVariants.{Start}
use Rattle.replay_job.specs.Job.{JobView}

pub record CourseView : Type 0 where
  pub job : JobView
  -- what was started and answered so far
  pub history : List Event
  -- no lane is to start a call any more
  pub stopped : Bool

abbrev pub course_of : JobView → List Event → Bool → CourseView
course_of job history stopped = record { job = job; history = history; stopped = stopped }

-- the course after the start of a call
abbrev pub started : CourseView → ℕ → ℕ → CourseView
started course k pause = record course { history = course.history ++ Start k pause ∷ [] }
