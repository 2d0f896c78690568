-- A remote desk as contracts see it.
use Rattle.std.specs.Prelude.{◌≡◌, ℕ, Bool, false, List, [], ◌∷◌, ◌++◌}
use Rattle.std.specs.List.{AllByRecursion}
use Rattle.desk_values.specs.declared.call.Call.{Call}
use Rattle.desk_values.specs.declared.call.Reply.{Reply}
use Rattle.desk_values.specs.declared.capture.Captured.{Captured}
use Rattle.replay_history.specs.Gap.{IsCallAt}
use Rattle.replay_history.specs.History.{IsAnswered, IsWaiting}
use Rattle.id_pairs.specs.Pairs.{IdPair, all_new, learnt}
use Rattle.remap_ids.specs.IdMap.{start_pairs}
use Rattle.remap_ids.specs.Sent.{sent}
use Rattle.replay_job.specs.Events.{IsEvent}
use Rattle.replay_job.specs.Job.{IsReplayable, JobView}
use Rattle.remote_desk.specs.declared.event.RemoteEvent.{RemoteEvent}
use Rattle.remote_desk.specs.declared.event.RemoteEvent.TheVariants.{Start, Sent, Answer}
use Rattle.remote_desk.specs.History.{IsRemoteHistory, IsSent, pairs_behind, plain}
use Rattle.remote_desk.specs.Said.{AreInOrder}

pub record RemoteView : Type 0 where
  pub job : JobView
  -- what was started, sent and answered so far, and the pairs of ids behind it
  pub events : List RemoteEvent
  pub pairs : List IdPair
  -- no lane is to start a call any more
  pub stopped : Bool

-- nothing is started yet
abbrev pub new_desk : JobView → RemoteView
new_desk job = record { job = job; events = []; pairs = start_pairs job.start; stopped = false }

-- what a desk keeps: its job can be replayed, and its history is a legal remote one that leads to its pairs, in which each start and
-- each answer has a text
pub record IsKept (desk : RemoteView) : Type 0 where
  pub replayable : IsReplayable desk.job
  pub remote : IsRemoteHistory desk.job desk.events
  pub pairs : desk.pairs ≡ pairs_behind desk.job desk.events
  -- in each session its first calls are sent, in order
  pub order : AreInOrder desk.job desk.events
  pub texts : AllByRecursion IsEvent (plain desk.events)

-- the call is started and not sent
abbrev pub MayDispatch : List RemoteEvent → ℕ → Type 0
MayDispatch events k = IsWaiting (plain events) k × (IsSent events k → ⊥)

-- it is sent and not answered
abbrev pub MayAnswer : List RemoteEvent → ℕ → Type 0
MayAnswer events k = IsSent events k × (IsAnswered (plain events) k → ⊥)

-- the desk after the start of a call
abbrev pub with_start : RemoteView → ℕ → ℕ → RemoteView
with_start desk k pause = record desk { events = desk.events ++ Start k pause ∷ [] }

-- after this was sent in the place of a call
abbrev pub IsDispatched : RemoteView → ℕ → Call → RemoteView → Type 0
IsDispatched old k call new = (captured : Captured) × IsCallAt old.job.calls k captured × (call ≡ sent old.pairs old.job.remap captured.call)
    × (new ≡ record old { events = old.events ++ Sent k call ∷ [] })

-- after this reply came to it
abbrev pub IsHeard : RemoteView → ℕ → Reply → RemoteView → Type 0
IsHeard old k reply new = (captured : Captured) × IsCallAt old.job.calls k captured
    × (new ≡ record old { events = old.events ++ Answer k reply ∷ []; pairs = all_new old.pairs (learnt captured.reply reply) })
