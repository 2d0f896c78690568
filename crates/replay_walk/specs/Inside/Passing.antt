-- The captured server beside a replay, and both servers. Words of private clauses; they need not be believed.
use Rattle.std.specs.Prelude.{◌≡◌, ◌≢◌, ◌↔◌, ℕ, ◌+◌, ◌*◌, ◌<◌, ◌≤◌, ◌++◌, Bool, true, List, length, take, slice_index_or, slice_set, Option, None, Some, IsSome, IsTrue}
use Rattle.std.specs.BTreeMap.{get}
use Rattle.std.specs.List.{filter}
use Rattle.std.specs.Ordering.{nat_cmp}
use Rattle.desk_values.specs.declared.call.Reply.{Reply}
use Rattle.desk_values.specs.declared.capture.Captured.{Captured}
use Rattle.machine_model.specs.declared.footing.Footing.{Footing}
use Rattle.server_words.specs.Clean.{is_clean}
use Rattle.machine_model.specs.Footing.{IsFootingOf}
use Rattle.server_words.specs.Request.{request_of, table_in}
use Rattle.server_words.specs.Rows.{IsRising}
use Rattle.server_words.specs.Sound.{IsSoundState}
use Rattle.server_words.specs.State.{State, opening, session_at}
use Rattle.server_words.specs.Step.{Gives}
use Rattle.server_words.specs.View.{commits_seen}
use Rattle.replay_history.specs.Gap.{IsCallAt}
use Rattle.row_versions.specs.History.{History}
use Rattle.id_pairs.specs.Pairs.{learnt}
use Rattle.remap_ids.specs.IdMap.{IdMapView}
use Rattle.remap_ids.specs.Sent.{sent}
use Rattle.law_server.specs.Renaming.Twins.{AreSets, IsRenamedRow}
use Rattle.law_server.specs.Rows.Images.{IsRenamedImage}
use Rattle.law_replays.specs.End.Twins.{CameBefore, IsTwinCall}
use Rattle.replay_job.specs.Job.{JobView}
use Rattle.replay_job.specs.Replays.{IsSoundJob}
use Rattle.replay_job.specs.Runs.{Stage, first_stage}
use Rattle.twin_tables.specs.declared.differences.Differences.{Differences}
use Rattle.twin_tables.specs.declared.judging.Sides.{Sides}
use Rattle.twin_tables.specs.Differences.{AgreeBeside, Both, Follows, HasBegun}
use Rattle.replay_walk.specs.declared.behind.Behind.{Behind}
use Rattle.replay_walk.specs.declared.behind.Met.{Met}
use Rattle.replay_walk.specs.declared.servers.Servers.{Servers}
use Rattle.replay_walk.specs.Walked.{marked_at}
use Rattle.replay_walk.specs.Inside.Serving.{IsKept, IsTelling, list_in}
use Rattle.replay_walk.specs.Inside.Standing.{is_seen}

-- ---- the captured server

-- a call of this session met this in this state, where the captured schema is this job's
pub record IsMet (job : JobView) (state : State) (call : Captured) (met : Met) : Type 0 where
  pub table : met.table ≡ table_in (request_of job.start.schema call.call)
  pub footing : IsFootingOf state call.session met.table met.footing
  pub rising : IsRising met.footing.own.changes

-- it is what the call with this stamp met in the capture, as the server knows that came to this state since
pub record IsMetBy (job : JobView) (now : State) (k : ℕ) (noted : Met) : Type 0 where
  pub met : (call : Captured) (captured : State) → IsCallAt job.calls k call → CameBefore job k captured → IsMet job captured call noted
  pub commits : (call : Captured) (captured : State) → IsCallAt job.calls k call → CameBefore job k captured
      → take noted.footing.commits now.commits ≡ commits_seen (session_at captured call.session).snapshot captured.commits
  pub within : noted.footing.commits ≤ length now.commits

-- of the first n calls those are marked whose sessions had changed nothing just before
pub record AreCleanMarks (job : JobView) (n : ℕ) (marks : List Bool) : Type 0 where
  pub count : length marks ≡ n
  pub each : (k : ℕ) (call : Captured) (captured : State) → k < n → IsCallAt job.calls k call → CameBefore job k captured
      → marked_at marks k ≡ is_clean captured call.session

abbrev pub HasAside : Behind → ℕ → Type 0
HasAside behind k = IsSome (get nat_cmp behind.aside k)

-- it stands just before some call of the capture; what is noted of the calls before that is right
pub record IsBehind (job : JobView) (behind : Behind) : Type 0 where
  pub came : CameBefore job behind.at behind.server.engine.state
  pub steps : behind.server.engine.steps ≡ behind.at
  pub within : behind.at ≤ length job.calls
  pub telling : IsTelling behind.server
  pub clean : AreCleanMarks job behind.at behind.clean.items
  pub aside : (k : ℕ) (met : Met) → get nat_cmp behind.aside k ≡ Some met → IsMetBy job behind.server.engine.state k met

-- before the first call, with so many tables
pub record HasBegunBehind (job : JobView) (tables : ℕ) (begun : Behind) : Type 0 where
  pub behind : IsBehind job begun
  pub first : begun.at ≡ 0
  pub engine : begun.server.engine ≡ record { state = opening job.start; steps = 0 }
  pub count : length begun.server.ledgers.items ≡ tables

-- what a call met that differs is set aside where the server went past it, unless it was not set aside before
abbrev pub KeepsAside : List Bool → Behind → Behind → ℕ → Type 0
KeepsAside differs old new k = k < new.at → marked_at differs k ≡ true → (k < old.at → HasAside old k) → HasAside new k

-- what is set aside for a stamp is taken out, and nothing else changes
pub record HasTaken (stamp : ℕ) (old new : Behind) : Type 0 where
  pub server : new.server ≡ old.server
  pub at : new.at ≡ old.at
  pub clean : new.clean ≡ old.clean
  pub gone : get nat_cmp new.aside stamp ≡ None
  pub others : (k : ℕ) → k ≢ stamp → get nat_cmp new.aside k ≡ get nat_cmp old.aside k

-- ---- both servers

abbrev pub stage_of : Servers → Stage
stage_of servers = record { state = servers.replay.engine.state; pairs = servers.map.pairs }

-- where what is kept of a table for a session stands
abbrev pub seat : ℕ → ℕ → ℕ
seat table session = table * 64 + session

abbrev pub IsKeptAt : Servers → ℕ → ℕ → Differences → Type 0
IsKeptAt servers table session d =
    IsKept servers.map.pairs (list_in servers.behind.server.ledgers.items table) (length servers.behind.server.engine.state.commits)
    (list_in servers.replay.ledgers.items table) (length servers.replay.engine.state.commits) d

-- what is kept of each table for each session is right
pub record AreKept (servers : Servers) : Type 0 where
  pub count : length servers.replay.ledgers.items ≡ length servers.behind.server.ledgers.items
  pub seats : length servers.differences.items ≡ length servers.replay.ledgers.items * 64
  pub each : (table session : ℕ) (d : Differences) → table < length servers.replay.ledgers.items → session < 64
      → IsKeptAt servers table session (slice_index_or servers.differences.items (seat table session) d)

pub record AreBoth (job : JobView) (servers : Servers) : Type 0 where
  pub behind : IsBehind job servers.behind
  pub sound : IsSoundState servers.replay.engine.state
  pub start : servers.replay.engine.state.start ≡ job.target
  pub telling : IsTelling servers.replay
  pub kept : AreKept servers

-- before the first event, with so many tables
pub record HaveBegun (job : JobView) (tables : ℕ) (servers : Servers) : Type 0 where
  pub both : IsSoundJob job → AreBoth job servers
  pub stage : stage_of servers ≡ first_stage job
  pub steps : servers.replay.engine.steps ≡ 0
  pub first : servers.behind.at ≡ 0
  pub count : length servers.replay.ledgers.items ≡ tables

-- the captured server went past a call
pub record HaveCome (job : JobView) (differs : List Bool) (stamp : ℕ) (old new : Servers) : Type 0 where
  pub both : AreBoth job new
  pub past : stamp < new.behind.at
  pub kept : (k : ℕ) → KeepsAside differs old.behind new.behind k
  pub replay : new.replay ≡ old.replay
  pub map : new.map ≡ old.map

-- it may be told whether a call meets what it met, which is set aside
pub record MayTell (job : JobView) (call : Captured) (servers : Servers) : Type 0 where
  pub sound : IsSoundJob job
  pub at : IsCallAt job.calls call.stamp call
  pub both : AreBoth job servers
  pub tables : length servers.replay.ledgers.items ≡ length job.start.schema.tables
  pub aside : HasAside servers.behind call.stamp

-- it may be told whether it meets this
pub record MayTellOf (job : JobView) (call : Captured) (noted : Met) (servers : Servers) : Type 0 where
  pub sound : IsSoundJob job
  pub at : IsCallAt job.calls call.stamp call
  pub both : AreBoth job servers
  pub tables : length servers.replay.ledgers.items ≡ length job.start.schema.tables
  pub met : IsMetBy job servers.behind.server.engine.state call.stamp noted

-- whether the call meets at this stage what it met in the capture
abbrev pub IsToldTwin : JobView → Captured → Stage → Bool → Type 0
IsToldTwin job call stage twin = (captured : State) → CameBefore job call.stamp captured → IsTrue twin ↔ IsTwinCall job call captured stage

-- what was set aside of a call is taken out, and both servers stand where they stood
pub record HaveTold (job : JobView) (stamp : ℕ) (old new : Servers) : Type 0 where
  pub both : AreBoth job new
  pub replay : new.replay ≡ old.replay
  pub map : new.map ≡ old.map
  pub at : new.behind.at ≡ old.behind.at
  pub others : (k : ℕ) → k ≢ stamp → HasAside old.behind k → HasAside new.behind k

-- ---- a table, as two sessions see it

-- the table of both servers, at the commits that the two read
abbrev pub both_on : ℕ → Footing → Footing → Servers → Both
both_on table met meets servers = record {
  pairs = servers.map.pairs;
  captured = list_in servers.behind.server.ledgers.items table;
  captured_at = met.commits;
  replayed = list_in servers.replay.ledgers.items table;
  replayed_at = meets.commits;
}

-- this is compared of a table
pub record IsSidesOf (map : IdMapView) (table : ℕ) (captured : History) (met : Footing) (replayed : History) (meets : Footing) (with : Sides) : Type 0 where
  pub map_is : with.map.now ≡ map
  pub table_is : with.table ≡ table
  pub captured_is : with.captured.now ≡ captured
  pub captured_at : with.captured_at ≡ met.commits
  pub own : with.own.now ≡ met.own.changes
  pub replayed_is : with.replayed.now ≡ replayed
  pub replayed_at : with.replayed_at ≡ meets.commits
  pub others : with.others.now ≡ meets.own.changes

-- what is kept at this place was asked, and is right again
pub record IsAskedAt (place : ℕ) (with : Sides) (old new : List Differences) : Type 0 where
  pub kept : Differences
  pub set : new ≡ slice_set old place kept
  pub follows : Follows with.map.now.pairs with.captured.now.list with.replayed.now.list kept
  pub captured_at : kept.captured_at ≡ with.captured_at
  pub replayed_at : kept.replayed_at ≡ with.replayed_at

pub record MayTellOn (asking place : ℕ) (captured_on replayed_on : Footing) (servers : Servers) : Type 0 where
  pub session : asking < 64
  pub table : place < length servers.replay.ledgers.items
  pub kept : AreKept servers
  pub captured : IsTelling servers.behind.server
  pub replayed : IsTelling servers.replay
  pub met : captured_on.commits ≤ length servers.behind.server.engine.state.commits
  pub meets : replayed_on.commits ≤ length servers.replay.engine.state.commits
  pub own : AreSets (IsRenamedImage servers.map.pairs) captured_on.own.changes replayed_on.own.changes

abbrev pub seen_captured : ℕ → Footing → Servers → ℕ → Bool
seen_captured table met servers row = is_seen (list_in servers.behind.server.ledgers.items table) met.commits met.own.changes table row

abbrev pub seen_replayed : ℕ → Footing → Servers → ℕ → Bool
seen_replayed table meets servers row = is_seen (list_in servers.replay.ledgers.items table) meets.commits meets.own.changes table row

-- others hold the same of the rows that are seen, and those beside own changes are the same
pub record AreTwinOn (table : ℕ) (met meets : Footing) (servers : Servers) : Type 0 where
  pub held : AreSets (IsRenamedRow servers.map.pairs) (filter (seen_captured table met servers) met.held_rows) (filter (seen_replayed table meets servers) meets.held_rows)
  pub rows : AgreeBeside (both_on table met meets servers) table met.own.changes meets.own.changes

abbrev pub IsToldOn : ℕ → Footing → Footing → Servers → Bool → Type 0
IsToldOn table met meets servers twin = IsTrue twin ↔ AreTwinOn table met meets servers

-- ---- what is answered

-- the server did the call again, and the ids of its two replies were learnt
pub record HasDone (job : JobView) (reply : Reply) (call : Captured) (old new : Servers) : Type 0 where
  pub both : AreBoth job new
  pub given : Reply
  pub gives : Gives old.replay.engine.state call.session (sent old.map.pairs job.remap call.call) given new.replay.engine.state
  pub pairs : new.map.pairs ≡ old.map.pairs ++ learnt call.reply reply
  pub steps : new.replay.engine.steps ≡ old.replay.engine.steps + 1
  pub count : length new.replay.ledgers.items ≡ length old.replay.ledgers.items
  pub behind : new.behind ≡ old.behind

-- ---- at the beginning

-- so many more of these, behind the changes of a start
pub record HasMoreAlike (captured replayed count : ℕ) (old new : List Differences) : Type 0 where
  pub length_is : length new ≡ length old + count
  pub first : (k : ℕ) (d : Differences) → k < length old → slice_index_or new k d ≡ slice_index_or old k d
  pub more : (k : ℕ) (d : Differences) → length old ≤ k → k < length old + count → HasBegun captured replayed (slice_index_or new k d)

-- of the first so many tables for each session
pub record AreBegun (captured replayed : List History) (tables : ℕ) (differences : List Differences) : Type 0 where
  pub length_is : length differences ≡ tables * 64
  pub each : (table session : ℕ) (d : Differences) → table < tables → session < 64
      → HasBegun (length (list_in captured table)) (length (list_in replayed table)) (slice_index_or differences (seat table session) d)
