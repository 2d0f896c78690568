-- A replay again, along its history. Words of private clauses; they need not be believed.
use Rattle.std.specs.Prelude.{◌≡◌, ◌≢◌, ◌↔◌, ◌⊎◌, ℕ, ◌+◌, ◌<◌, ◌≤◌, ◌++◌, Bool, true, false, not, ◌&&◌, if◌then◌else◌, List, length, take, replicate, is_some, slice_set}
use Rattle.std.specs.List.{list_any}
use Rattle.desk_values.specs.Limits.{session_limit}
use Rattle.desk_values.specs.declared.call.Reply.{Reply}
use Rattle.desk_values.specs.declared.capture.Captured.{Captured}
use Rattle.desk_values.specs.declared.capture.Event.{Event}
use Rattle.desk_values.specs.declared.capture.Event.TheVariants.{Start, Answer}
use Rattle.server_words.specs.Clean.{is_clean}
use Rattle.server_words.specs.State.{State}
use Rattle.server_words.specs.Step.{Gives}
use Rattle.replay_history.specs.Capture.{binds_of}
use Rattle.replay_history.specs.Gap.{IsCallAt}
use Rattle.replay_history.specs.History.{IsAnsweredBefore}
use Rattle.id_pairs.specs.Carrying.Carried.{carried_row}
use Rattle.id_pairs.specs.Pairs.{HasNoIdTwice, learnt}
use Rattle.remap_ids.specs.Sent.{HasLowIds, sent}
use Rattle.divergence.specs.Class.{is_write_divergence}
use Rattle.replay_job.specs.Job.{JobView}
use Rattle.replay_job.specs.Replays.{IsSoundJob}
use Rattle.replay_job.specs.Runs.{IsTruthfulFor, Stage, first_stage}
use Rattle.law_replays.specs.End.Answers.{IsAnsweredAt}
use Rattle.law_replays.specs.End.Twins.{CameBefore}
use Rattle.replay_walk.specs.declared.servers.Servers.{Servers}
use Rattle.replay_walk.specs.declared.along.Asks.{Asks}
use Rattle.replay_walk.specs.declared.along.Progress.{Progress}
use Rattle.replay_walk.specs.Walked.{IsOpenAnswer, MeetsTheSame, marked_at}
use Rattle.replay_walk.specs.Walks.{answers_in}
use Rattle.replay_walk.specs.Inside.Passing.{AreBoth, HasAside, IsToldTwin, KeepsAside, stage_of}

-- how many tables are looked at
abbrev pub tables_asked : JobView → List Bool → ℕ
tables_asked job twins = if list_any (λ (asked : Bool). asked) twins then length job.start.schema.tables else 0

-- ---- one event

-- before the first event, where so many tables are looked at
pub record HasBegun (job : JobView) (tables : ℕ) (walk : Progress) : Type 0 where
  pub both : IsSoundJob job → AreBoth job walk.servers
  pub stage : stage_of walk.servers ≡ first_stage job
  pub steps : walk.servers.replay.engine.steps ≡ 0
  pub first : walk.servers.behind.at ≡ 0
  pub count : length walk.servers.replay.ledgers.items ≡ tables
  pub quiet : walk.quiet ≡ true
  pub open_calls : walk.open_calls.items ≡ replicate (length job.calls) false
  pub twins : walk.twins.items ≡ replicate (length job.calls) false

-- nothing stands before a call that is answered next, where no commit differed so far
abbrev pub is_open_now : Stage → Captured → Bool
is_open_now stage call = is_clean stage.state call.session && is_some (carried_row stage.pairs (binds_of call.call))

abbrev pub is_open_next : Servers → Captured → Bool
is_open_next servers call = marked_at servers.behind.clean.items call.stamp && is_open_now (stage_of servers) call

-- the captured server may go past a call
pub record MayAsk (job : JobView) (stamp : ℕ) (walk : Progress) : Type 0 where
  pub sound : IsSoundJob job
  pub both : AreBoth job walk.servers
  pub within : stamp < length job.calls

-- the answer to a call can be passed
pub record MayAnswer (job : JobView) (asks : Asks) (k : ℕ) (reply : Reply) (call : Captured) (walk : Progress) : Type 0 where
  pub ask : MayAsk job k walk
  pub at : IsCallAt job.calls k call
  pub stamp : call.stamp ≡ k
  pub session : call.session < session_limit
  pub low : HasLowIds call.call
  pub new_ids : HasNoIdTwice (walk.servers.map.pairs ++ learnt call.reply reply)
  pub room : walk.servers.replay.engine.steps < 1048576
  pub open_calls : length walk.open_calls.items ≡ length job.calls
  pub twins : length walk.twins.items ≡ length job.calls
  pub tables : marked_at asks.twins.now k ≡ true → length walk.servers.replay.ledgers.items ≡ length job.start.schema.tables
  pub once : marked_at asks.twins.now k ≡ true → HasAside walk.servers.behind k ⊎ (walk.servers.behind.at ≤ k)

abbrev pub MayPass : JobView → Asks → Event → Progress → Type 0
MayPass job asks (Start k pause) walk = Unit {0}
MayPass job asks (Answer k reply) walk = (call : Captured) × MayAnswer job asks k reply call walk

-- the captured server is past the call where something is asked of it
pub record HasCome (job : JobView) (asks : Asks) (stamp : ℕ) (old new : Progress) : Type 0 where
  pub both : AreBoth job new.servers
  pub reads : asks.reads ≡ true → stamp < new.servers.behind.at
  pub twins : marked_at asks.twins.now stamp ≡ true → stamp < new.servers.behind.at
  pub kept : (k : ℕ) → KeepsAside asks.twins.now old.servers.behind new.servers.behind k
  pub replay : new.servers.replay ≡ old.servers.replay
  pub map : new.servers.map ≡ old.servers.map
  pub quiet : new.quiet ≡ old.quiet
  pub open_calls : new.open_calls ≡ old.open_calls
  pub twin_marks : new.twins ≡ old.twins

-- it may be told whether a call meets what it met
pub record MayTwin (job : JobView) (asks : Asks) (call : Captured) (walk : Progress) : Type 0 where
  pub sound : IsSoundJob job
  pub at : IsCallAt job.calls call.stamp call
  pub both : AreBoth job walk.servers
  pub tables : marked_at asks.twins.now call.stamp ≡ true → length walk.servers.replay.ledgers.items ≡ length job.start.schema.tables
  pub aside : marked_at asks.twins.now call.stamp ≡ true → HasAside walk.servers.behind call.stamp

-- it is told where it is asked
pub record HasTold (job : JobView) (asks : Asks) (call : Captured) (old new : Progress) (twin : Bool) : Type 0 where
  pub told : marked_at asks.twins.now call.stamp ≡ true → IsToldTwin job call (stage_of old.servers) twin
  pub both : AreBoth job new.servers
  pub replay : new.servers.replay ≡ old.servers.replay
  pub map : new.servers.map ≡ old.servers.map
  pub at : new.servers.behind.at ≡ old.servers.behind.at
  pub others : (k : ℕ) → k ≢ call.stamp → HasAside old.servers.behind k → HasAside new.servers.behind k
  pub quiet : new.quiet ≡ old.quiet
  pub open_calls : new.open_calls ≡ old.open_calls
  pub twins : new.twins ≡ old.twins

-- the server did the call again, the ids of its two replies were learnt, and what is told of it is noted
pub record HasAnswered (job : JobView) (asks : Asks) (k : ℕ) (reply : Reply) (call : Captured) (old new : Progress) : Type 0 where
  pub at : IsCallAt job.calls k call
  pub both : AreBoth job new.servers
  pub given : Reply
  pub gives : Gives old.servers.replay.engine.state call.session (sent old.servers.map.pairs job.remap call.call) given new.servers.replay.engine.state
  pub pairs : new.servers.map.pairs ≡ old.servers.map.pairs ++ learnt call.reply reply
  pub steps : new.servers.replay.engine.steps ≡ old.servers.replay.engine.steps + 1
  pub count : length new.servers.replay.ledgers.items ≡ length old.servers.replay.ledgers.items
  pub kept : (j : ℕ) → j ≢ k → KeepsAside asks.twins.now old.servers.behind new.servers.behind j
  pub quiet : new.quiet ≡ (old.quiet && not (is_write_divergence new.servers.map.pairs call.reply reply))
  -- whether its session was clean in the capture
  pub clean : Bool
  pub was_clean : asks.reads ≡ true → (captured : State) → CameBefore job k captured → clean ≡ is_clean captured call.session
  pub open_calls : asks.reads ≡ true → new.open_calls.items ≡ slice_set old.open_calls.items k (old.quiet && (clean && is_open_now (stage_of old.servers) call))
  pub open_count : length new.open_calls.items ≡ length old.open_calls.items
  pub twin : Bool
  pub twins : new.twins.items ≡ slice_set old.twins.items k twin
  pub told : marked_at asks.twins.now k ≡ true → IsToldTwin job call (stage_of old.servers) twin

abbrev pub HasPassed : JobView → Asks → Event → Progress → Progress → Type 0
HasPassed job asks (Start k pause) old new = new ≡ old
HasPassed job asks (Answer k reply) old new = (call : Captured) × HasAnswered job asks k reply call old new

-- ---- events up to a place

-- none of the answers before this place is a write divergence
abbrev pub IsQuietBefore : JobView → List Event → ℕ → Type 0
IsQuietBefore job history n = (i k : ℕ) (call : Captured) (reply : Reply) (before after : Stage) → i < n
    → IsAnsweredAt job history i k call reply before after → is_write_divergence after.pairs call.reply reply ≡ false

-- nothing stood before the call with this stamp, which is answered before this place
pub record IsOpenBefore (job : JobView) (history : List Event) (n k : ℕ) : Type 0 where
  pub place : ℕ
  pub call : Captured
  pub reply : Reply
  pub before : Stage
  pub after : Stage
  pub captured : State
  pub within : place < n
  pub open_calls : IsOpenAnswer job history k place call reply before after captured

-- The first n events lead to where the walk stands; of the calls that they answer is told what is asked, and what others met that are asked for is set
-- aside where the captured server went past them.
pub record IsWalkedTo (job : JobView) (asks : Asks) (history : List Event) (n : ℕ) (walk : Progress) : Type 0 where
  pub stands : IsTruthfulFor job (take n history) (stage_of walk.servers)
  pub steps : walk.servers.replay.engine.steps ≡ answers_in (take n history)
  pub both : AreBoth job walk.servers
  pub tables : (k : ℕ) → marked_at asks.twins.now k ≡ true → length walk.servers.replay.ledgers.items ≡ length job.start.schema.tables
  pub aside : (k : ℕ) → k < walk.servers.behind.at → marked_at asks.twins.now k ≡ true → ¬ IsAnsweredBefore history n k → HasAside walk.servers.behind k
  pub quiet : (walk.quiet ≡ true) ↔ IsQuietBefore job history n
  pub open_count : length walk.open_calls.items ≡ length job.calls
  pub open_calls : asks.reads ≡ true → (k : ℕ) → (marked_at walk.open_calls.items k ≡ true) ↔ IsOpenBefore job history n k
  pub twins_count : length walk.twins.items ≡ length job.calls
  pub twins : (k : ℕ) → marked_at asks.twins.now k ≡ true → IsAnsweredBefore history n k → (marked_at walk.twins.items k ≡ true) ↔ MeetsTheSame job history k
