-- The laws of whole replays.
use Rattle.std.specs.Prelude.{◌≡◌, ◌↔◌, ℕ, ◌<◌, ◌≤◌, true, List, take}
use Rattle.desk_values.specs.declared.value.Image.{Image}
use Rattle.desk_values.specs.declared.call.Reply.{Reply}
use Rattle.desk_values.specs.declared.capture.Captured.{Captured}
use Rattle.desk_values.specs.declared.capture.Event.{Event}
use Rattle.server_words.specs.State.{State}
use Rattle.replay_history.specs.declared.report.Class.TheVariants.{Same}
use Rattle.replay_history.specs.Capture.{commits}
use Rattle.replay_history.specs.Gap.{IsCallAt}
use Rattle.replay_history.specs.History.{AnswersAt, IsAnsweredBefore}
use Rattle.id_pairs.specs.Pairs.{IdPair, IsIdMap}
use Rattle.replay_job.specs.Job.{IsReplayable, JobView}
use Rattle.replay_job.specs.Runs.{IsCompleteFor, IsLegalFor, IsTruthfulFor, Stage, end_tables}
use Rattle.law_replays.specs.End.Answers.{FencesCommits, HasCommitsBefore, HasNoWriteDivergence, IsAgain, IsAnsweredAt, IsReplay, WaitsForCommits, class_after}
use Rattle.law_replays.specs.End.Tables.{AreCarried, CameTo}
use Rattle.law_replays.specs.End.Twins.{CameBefore, IsTwinCall}

-- ---- answers

-- each call of the capture is answered, at one place
pub record IsAnsweredOnce (job : JobView) (history : List Event) (k : ℕ) (call : Captured) : Type 0 where
  pub place : ℕ
  pub reply : Reply
  pub before : Stage
  pub after : Stage
  pub there : IsAnsweredAt job history place k call reply before after
  pub nowhere_else : (i : ℕ) (other : Reply) → AnswersAt history i k other → i ≡ place

abbrev pub EachIsAnsweredOnce : Type 0
EachIsAnsweredOnce = (job : JobView) (history : List Event) (last : Stage) → IsCompleteFor job history last
    → (k : ℕ) (call : Captured) → IsCallAt job.calls k call → IsAnsweredOnce job history k call

-- and what is answered is a call of it
abbrev pub OnlyCallsAreAnswered : Type 0
OnlyCallsAreAnswered = (job : JobView) (history : List Event) (last : Stage) → IsTruthfulFor job history last
    → (i k : ℕ) (reply : Reply) → AnswersAt history i k reply → (call : Captured) × IsCallAt job.calls k call

-- a history comes to one stage
abbrev pub StagesAreOne : Type 0
StagesAreOne = (job : JobView) (history : List Event) (stage other : Stage) → IsTruthfulFor job history stage
    → IsTruthfulFor job history other → stage ≡ other

-- nor does the capture to two
abbrev pub CapturedStatesAreOne : Type 0
CapturedStatesAreOne = (job : JobView) (state other : State) → CameTo job state → CameTo job other → state ≡ other

-- ---- in the captured order

-- each answer is the captured one, and the server comes to the captured state
pub record IsAsCaptured (job : JobView) (history : List Event) (last : Stage) : Type 0 where
  pub replies : (i k : ℕ) (call : Captured) (reply : Reply) (before after : Stage)
      → IsAnsweredAt job history i k call reply before after → reply ≡ call.reply
  pub classes : (i k : ℕ) (call : Captured) (reply : Reply) (before after : Stage)
      → IsAnsweredAt job history i k call reply before after → class_after after call reply ≡ Same
  pub state : CameTo job last.state

abbrev pub AgainIsAsCaptured : Type 0
AgainIsAsCaptured = (job : JobView) (history : List Event) (last : Stage) → IsReplay job history last
    → IsAgain job → IsAsCaptured job history last

-- ---- commits and tables

-- where calls wait for the commits that they saw, the numbered commits are answered in the captured order
abbrev pub CommitsKeepTheirOrder : Type 0
CommitsKeepTheirOrder = (job : JobView) (history : List Event) → IsReplayable job → IsLegalFor job history → WaitsForCommits job.mode
    → (i j m n : ℕ) (call other : Captured) (reply answer : Reply) → IsCallAt job.calls m call → IsCallAt job.calls n other
    → commits call.reply.outcome ≡ true → commits other.reply.outcome ≡ true → AnswersAt history i m reply
    → AnswersAt history j n answer → m < n → i < j

-- where a numbered commit waits for each call before it too, just those are answered before a call that it saw
abbrev pub SeenCommitsAreAnswered : Type 0
SeenCommitsAreAnswered = (job : JobView) (history : List Event) → IsReplayable job → IsLegalFor job history → FencesCommits job.mode
    → (i k m : ℕ) (call other : Captured) (reply : Reply) → IsCallAt job.calls k call → IsCallAt job.calls m other
    → AnswersAt history i k reply → commits other.reply.outcome ≡ true → IsAnsweredBefore history i m ↔ (other.number ≤ call.seen)

-- Where just the numbered commits of the calls before a stamp are answered before a place, and there was no write divergence before
-- it, the tables there are those that the captured server had just before that stamp, under the pairs there.
abbrev pub TablesSoFarAreCarried : Type 0
TablesSoFarAreCarried = (job : JobView) (history : List Event) (last stage : Stage) (captured : State) (i n : ℕ)
    → IsReplay job history last → WaitsForCommits job.mode → IsTruthfulFor job (take i history) stage
    → HasCommitsBefore job history i n → HasNoWriteDivergence job (take i history)
    → CameBefore job n captured → AreCarried stage.pairs (end_tables captured) (end_tables stage.state)

-- so they are before each answer where a numbered commit waits for each call before it too
abbrev pub TablesBeforeAreCarried : Type 0
TablesBeforeAreCarried = (job : JobView) (history : List Event) (last : Stage) (captured : State)
    → IsReplay job history last → FencesCommits job.mode
    → (i k : ℕ) (call : Captured) (reply : Reply) (before after : Stage) → IsAnsweredAt job history i k call reply before after
    → HasNoWriteDivergence job (take i history)
    → CameBefore job k captured → AreCarried before.pairs (end_tables captured) (end_tables before.state)

-- and without a write divergence the tables at the end are the captured ones under the pairs at the end
abbrev pub EndTablesAreCarried : Type 0
EndTablesAreCarried = (job : JobView) (history : List Event) (last : Stage) (captured : State)
    → IsReplay job history last → WaitsForCommits job.mode
    → HasNoWriteDivergence job history → CameTo job captured → AreCarried last.pairs (end_tables captured) (end_tables last.state)

-- there is one such list of rows
abbrev pub CarriedTablesAreOne : Type 0
CarriedTablesAreOne = (pairs : List IdPair) (captured one other : List Image) → IsIdMap pairs
    → AreCarried pairs captured one → AreCarried pairs captured other → one ≡ other

-- ---- twins

-- where both servers have one schema, a call that meets just what it met in the capture, but for ids, is answered the same
abbrev pub TwinCallsAreSame : Type 0
TwinCallsAreSame = (job : JobView) (history : List Event) (last : Stage) (captured : State)
    → IsReplay job history last → job.target.schema ≡ job.start.schema
    → (i k : ℕ) (call : Captured) (reply : Reply) (before after : Stage) → IsAnsweredAt job history i k call reply before after
    → CameBefore job k captured → IsTwinCall job call captured before → class_after after call reply ≡ Same
