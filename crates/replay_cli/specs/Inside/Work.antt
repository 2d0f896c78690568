-- The work of a command as the code holds it.
use Rattle.std.specs.Prelude.{◌≤◌, ◌<◌, IfSome, length}
use Rattle.replay_job.specs.Job.{seen}
use Rattle.replay_job.specs.Replays.{IsSoundJob}
use Rattle.prepare_plan.specs.Lists.{lists_of}
use Rattle.replay_cli.specs.declared.capture.Legal.{Legal as Loaded}
use Rattle.replay_cli.specs.declared.capture.Read.{Read as ReadFiles}
use Rattle.replay_cli.specs.declared.work.Work.{Work}
use Rattle.replay_cli.specs.declared.work.Work.TheVariants.{Replaying, Sending, Telling, Serving, Making, Trying, Keeping, Paging, Showing}
use Rattle.desk_words.specs.Within.{IsCallCount, IsLaneCount}
use Rattle.replay_cli.specs.Decision.{Legal, Read, Task, ToReplay, ToSend, ToTell, ToServe, ToMake, ToTry, ToKeep, ToPage, ToShow}
use Rattle.desk_words.specs.Limits.{connection_limit, path_limit}
use Rattle.replay_history.specs.Limits.{call_limit}
use Rattle.replay_page.specs.Data.{IsQuietPage}
use Rattle.replay_show.specs.Shown.{HaveStamps, seen as shown_seen}
use Rattle.replay_show.specs.declared.shown.Shown.{Shown}

-- the files of a capture as contracts see them
abbrev pub read_of : ReadFiles → Read
read_of read = record { start = read.start; sessions = lists_of read.sessions }

-- a legal capture as contracts see it
abbrev pub legal_of : Loaded → Legal
legal_of loaded = record { start = loaded.start; calls = loaded.calls.items; facts = loaded.facts }

-- what the work is of which the code holds this
abbrev pub task_of : Work → Task
task_of (Replaying out job lanes) = ToReplay out (seen job)
task_of (Sending out job lanes port) = ToSend out (seen job) port
task_of (Telling out facts) = ToTell out facts
task_of (Serving out start most port) = ToServe out start most port
task_of (Making n out) = ToMake n out
task_of (Trying n) = ToTry n
task_of (Keeping errand) = ToKeep errand
task_of (Paging page calls divergent) = ToPage page calls divergent
task_of (Showing shown stamp) = ToShow (shown_seen shown) stamp

-- what is shown has facts of each call, which stand at their stamps
pub record IsShowable (shown : Shown) : Type 0 where
  pub facts : length shown.facts ≤ call_limit
  pub count : length shown.calls.items ≤ length shown.facts
  pub stamps : HaveStamps shown.calls.items

-- what the code holds is within the limits, and a job can be replayed
abbrev pub IsWork : Work → Type 0
IsWork (Replaying out job lanes) = (length out ≤ path_limit) × IsSoundJob (seen job) × IsLaneCount lanes
IsWork (Sending out job lanes port) = (length out ≤ path_limit) × IsSoundJob (seen job) × IsLaneCount lanes
IsWork (Telling out facts) = (length out ≤ path_limit) × (length facts ≤ call_limit)
IsWork (Serving out start most port) = (length out ≤ path_limit) × (most ≤ connection_limit)
IsWork (Making n out) = IsCallCount n × (length out ≤ path_limit)
IsWork (Trying n) = IsCallCount n
IsWork (Keeping errand) = Unit {0}
IsWork (Paging page calls divergent) = (length page.out ≤ path_limit) × IsQuietPage page
IsWork (Showing shown stamp) = IsShowable shown × IfSome stamp (λ k. k < length shown.calls.items)
