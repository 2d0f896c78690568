-- What a replay that is done has written. That its job can be replayed follows from what the words and the files come to.
use Rattle.std.specs.Prelude.{◌≡◌, ◌↔◌, ℕ, ◌≤◌, true, List, length, IfSome}
use Rattle.desk_values.specs.declared.call.Reply.{Reply}
use Rattle.desk_values.specs.declared.capture.Captured.{Captured}
use Rattle.desk_values.specs.declared.capture.Event.{Event}
use Rattle.server_words.specs.State.{State}
use Rattle.replay_history.specs.declared.mode.Mode.{Mode}
use Rattle.replay_history.specs.Capture.{commits}
use Rattle.replay_history.specs.Gap.{IsCallAt}
use Rattle.replay_history.specs.History.{AnswersAt, IsAnsweredBefore}
use Rattle.replay_history.specs.Texts.{journal_text}
use Rattle.replay_job.specs.Job.{JobView}
use Rattle.replay_job.specs.Replays.{IsSoundJob}
use Rattle.replay_job.specs.Runs.{Stage, end_tables}
use Rattle.replay_report.specs.JournalFile.{IsJournal}
use Rattle.law_replays.specs.End.Answers.{FencesCommits, HasNoWriteDivergence, IsAgain, IsAnsweredAt, WaitsForCommits}
use Rattle.law_replays.specs.End.Laws.{IsAsCaptured}
use Rattle.law_replays.specs.End.Tables.{AreCarried, CameTo}
use Rattle.law_replays.specs.End.Twins.{CameBefore, IsTwinCall}
use Rattle.law_replays.specs.Reports.Laws.{IsNamed}
use Rattle.fence_law.specs.Laws.{AreSame}
use Rattle.divergence_cause.specs.Causes.{AllAreTiming}
use Rattle.remote_desk.specs.History.{plain}
use Rattle.replay_cli.specs.declared.plan.Plan.{Plan}
use Rattle.replay_cli.specs.declared.told.Told.{Told}
use Rattle.replay_cli.specs.Done.{IsDoneBy, IsQuiet, IsSent, IsToldOf}
use Rattle.replay_cli.specs.Hosting.{Dialling}
use Rattle.replay_cli.specs.Lines.{replayed_line}

-- the journal that is written is that of the replay's history, and of no other
abbrev pub JournalsTellTheirHistory : Type 0
JournalsTellTheirHistory = (out : List ℕ) (job : JobView) (plan : Plan) (history : List Event) (last : Stage)
    → IsDoneBy out job plan history last
    → IsJournal (journal_text job.mode history) job.mode history
    × ((mode : Mode) (other : List Event) → IsJournal (journal_text job.mode history) mode other
    → (mode ≡ job.mode) × (other ≡ history))

-- the same of a replay against another server: the journal is that of its history without what was sent
abbrev pub SentJournalsTellTheirHistory : Type 0
SentJournalsTellTheirHistory = (out : List ℕ) (job : JobView) (plan : Plan) (dial : Dialling) (sent : IsSent out job plan dial)
    → IsJournal (journal_text job.mode (plain sent.events)) job.mode (plain sent.events)
    × ((mode : Mode) (other : List Event) → IsJournal (journal_text job.mode (plain sent.events)) mode other
    → (mode ≡ job.mode) × (other ≡ plain sent.events))

-- and its files and its line are those of one history alone
abbrev pub SentPlansTellTheirHistory : Type 0
SentPlansTellTheirHistory = (out : List ℕ) (job : JobView) (plan : Plan) (dial later : Dialling) (sent : IsSent out job plan dial) (other : IsSent out job plan later)
    → plain other.events ≡ plain sent.events

-- so the files and the line are those of one history alone
abbrev pub PlansTellTheirHistory : Type 0
PlansTellTheirHistory = (out : List ℕ) (job : JobView) (plan : Plan) (history other : List Event) (last later : Stage)
    → IsDoneBy out job plan history last → IsDoneBy out job plan other later → other ≡ history

-- and beside the report on it one thing is told of it
abbrev pub OneIsTold : Type 0
OneIsTold = (job : JobView) (history : List Event) (told other : Told) → IsToldOf job history told → IsToldOf job history other → told ≡ other

-- where a run does again what the capture did, nothing differs: each reply is the captured one, and the tables are so too
abbrev pub RunsAgainAreQuiet : Type 0
RunsAgainAreQuiet = (out : List ℕ) (job : JobView) (plan : Plan) (history : List Event) (last : Stage)
    → IsSoundJob job → IsAgain job → IsDoneBy out job plan history last
    → IsQuiet plan × (plan.line ≡ replayed_line (length job.calls) 0) × IsAsCaptured job history last

-- where calls wait for commits and no commit differs, the tables are the captured ones, each row number and each id replaced
abbrev pub TablesAreCarried : Type 0
TablesAreCarried = (out : List ℕ) (job : JobView) (plan : Plan) (history : List Event) (last : Stage) (captured : State)
    → IsSoundJob job → WaitsForCommits job.mode
    → IsDoneBy out job plan history last → HasNoWriteDivergence job history → CameTo job captured
    → AreCarried last.pairs (end_tables captured) (end_tables last.state)

-- so they are where the run ends with 0
abbrev pub QuietRunsCarryTables : Type 0
QuietRunsCarryTables = (out : List ℕ) (job : JobView) (plan : Plan) (history : List Event) (last : Stage) (captured : State)
    → IsSoundJob job → WaitsForCommits job.mode
    → IsDoneBy out job plan history last → IsQuiet plan → CameTo job captured
    → AreCarried last.pairs (end_tables captured) (end_tables last.state)

-- where numbered commits wait for all calls before them, just those of them are answered before a call that it saw
abbrev pub ReadsMeetTheirCommits : Type 0
ReadsMeetTheirCommits = (out : List ℕ) (job : JobView) (plan : Plan) (history : List Event) (last : Stage)
    → IsSoundJob job → FencesCommits job.mode → IsDoneBy out job plan history last
    → (i k m : ℕ) (call other : Captured) (reply : Reply) → IsCallAt job.calls k call → IsCallAt job.calls m other
    → AnswersAt history i k reply → commits other.reply.outcome ≡ true → IsAnsweredBefore history i m ↔ (other.number ≤ call.seen)

-- and so of a replay against another server
abbrev pub SentReadsMeetTheirCommits : Type 0
SentReadsMeetTheirCommits = (out : List ℕ) (job : JobView) (plan : Plan) (dial : Dialling) (sent : IsSent out job plan dial)
    → IsSoundJob job → FencesCommits job.mode
    → (i k m : ℕ) (call other : Captured) (reply : Reply) → IsCallAt job.calls k call → IsCallAt job.calls m other
    → AnswersAt (plain sent.events) i k reply → commits other.reply.outcome ≡ true → IsAnsweredBefore (plain sent.events) i m ↔ (other.number ≤ call.seen)

-- a call that meets just what it met in the capture, but for ids, is not named
abbrev pub TwinsAreQuiet : Type 0
TwinsAreQuiet = (out : List ℕ) (job : JobView) (plan : Plan) (history : List Event) (last : Stage) (captured : State)
    → IsSoundJob job → IsDoneBy out job plan history last → job.target.schema ≡ job.start.schema
    → (i k : ℕ) (call : Captured) (reply : Reply) (before after : Stage) → IsAnsweredAt job history i k call reply before after
    → CameBefore job k captured → IsTwinCall job call captured before → ¬ IsNamed job history k

-- the plain reads that are told are the same, and where the replay has the captured schema no call differs for the server
abbrev pub ToldIsQuiet : Type 0
ToldIsQuiet = (out : List ℕ) (job : JobView) (plan : Plan) (history : List Event) (last : Stage) (told : Told)
    → IsSoundJob job → IsDoneBy out job plan history last → IsToldOf job history told
    → IfSome told.reads (AreSame job history) × (job.target.schema ≡ job.start.schema → AllAreTiming told.causes)
