-- What holds of the fields of a remote desk. It need not be believed.
use Rattle.std.specs.Prelude.{◌≡◌, ◌↔◌, ℕ, ◌+◌, ◌*◌, ◌<◌, ◌≤◌, true, false, List, [], length, replicate}
use Rattle.std.specs.List.{AllByRecursion}
use Rattle.commit_gate.specs.Gates.{is_in}
use Rattle.remap_ids.specs.IdMap.{start_pairs}
use Rattle.replay_job.specs.Events.{IsEvent}
use Rattle.replay_job.specs.declared.job.Job.{Job}
use Rattle.replay_schedule.specs.Gates.Following.{size}
use Rattle.replay_schedule.specs.Schedule.{Follows}
use Rattle.desk_values.specs.declared.capture.Captured.{Captured}
use Rattle.replay_history.specs.Gap.{IsCallAt}
use Rattle.remote_desk.specs.declared.event.RemoteEvent.{RemoteEvent}
use Rattle.remote_desk.specs.Said.{AreInOrder, sent_in}
use Rattle.remote_desk.specs.declared.desk.Parts.{Parts}
use Rattle.remote_desk.specs.declared.desk.RemoteDesk.TheInside.{Inside}
use Rattle.remote_desk.specs.History.{IsRemoteHistory, IsSent, pairs_behind, plain}

-- the calls of a session for which something was sent are its first ones
abbrev pub ByPlace : List Captured → List RemoteEvent → Type 0
ByPlace calls events = (k : ℕ) (call : Captured) → IsCallAt calls k call → IsSent events k ↔ (call.place < length (sent_in calls events call.session))

pub record IsDesk (a : Inside) : Type 0 where
  pub follows : Follows a.schedule (plain a.events.items)
  pub remote : IsRemoteHistory a.schedule.job a.events.items
  pub pairs : a.map.pairs ≡ pairs_behind a.schedule.job a.events.items
  pub own : a.map.own ≡ length (start_pairs a.schedule.job.start)
  pub texts : AllByRecursion IsEvent (plain a.events.items)
  pub order : AreInOrder a.schedule.job a.events.items
  pub places : ByPlace a.schedule.job.calls a.events.items
  pub sent_len : length a.sent.items ≡ length a.schedule.job.calls
  pub sent : (k : ℕ) → (is_in a.sent.items k ≡ true) ↔ IsSent a.events.items k
  pub count : length a.events.items ≡ length (plain a.events.items) + size a.sent.items
  -- for a start, a sent call and an answer of each call
  pub room : 3 * length a.schedule.job.calls ≤ a.events.spare + length a.events.items

-- what a desk begins with beside its schedule
pub record AreParts (job : Job) (parts : Parts) : Type 0 where
  pub pairs_are : parts.map.pairs ≡ start_pairs job.start
  pub own_are : parts.map.own ≡ length parts.map.pairs
  pub no_event : parts.events.items ≡ []
  pub none_sent : parts.sent.items ≡ replicate (length job.calls.items) false
  pub room : 3 * length job.calls.items ≤ parts.events.spare
