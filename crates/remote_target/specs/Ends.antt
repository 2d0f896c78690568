-- How a replay against another server ends, and what is known then.
use Rattle.std.specs.Prelude.{◌≡◌, ◌≢◌, ◌⊎◌, ℕ, ◌≤◌, List, [], ◌++◌, length, map, slice_get, Option, Some, IfSome, Result, Ok, Err, ⊤}
use Rattle.std.specs.List.{AllByRecursion}
use Rattle.desk_values.specs.Good.{IsGoodReply}
use Rattle.desk_files.specs.Outside.{HasRisen, Told}
use Rattle.replay_job.specs.Job.{IsReplayable, JobView, seen}
use Rattle.remote_link.specs.declared.heard.Heard.{Heard}
use Rattle.replay_lanes.specs.Sessions.{sessions}
use Rattle.remote_desk.specs.Desk.{IsKept, RemoteView}
use Rattle.remote_desk.specs.Said.{said_in}
use Rattle.remote_target.specs.declared.remote_err.RemoteErr.{RemoteErr}
use Rattle.remote_target.specs.declared.remote_err.RemoteErr.TheVariants.{Link, OtherJob, Mismatch, Memory}
use Rattle.remote_target.specs.Agreement.{DiffersAt, kept_of}
use Rattle.remote_target.specs.Lines.{AreLinesInOrder}
use Rattle.remote_target.specs.Spoken.{IsOwn, IsUnbroken}

-- a desk of the job and the line of one of its sessions, which was given back with one of these lists, differ: this is the line's
-- session, the first place where they do, and what stands there on both sides. The line may have refused one call behind what it tells.
pub record IsFoundIn (job : JobView) (lists : List (List Heard)) (session place : ℕ) (kept answered : Option Heard) : Type 0 where
  pub desk : RemoteView
  pub job_is : desk.job ≡ job
  pub is_kept : IsKept desk
  pub line : ℕ
  pub own : List Heard
  pub list : List Heard
  pub session_is : slice_get (sessions job.calls) line ≡ Some session
  pub list_is : slice_get lists line ≡ Some list
  pub told : IsOwn own list
  pub differs : DiffersAt desk.stopped (kept_of desk session) own place kept answered

-- what was said on the lines that were given back, by how the replay ended: just what the desk keeps of each session with a call,
-- ascending, which are its calls in order; or where a line failed, calls of each of these sessions, in order, and none behind one that
-- has no reply; where one could not be dialled, nothing on any; else a list of each of them, of which one shows what differs, unless
-- memory was short
abbrev pub GaveAs : JobView → Result RemoteView RemoteErr → List (List Heard) → Type 0
GaveAs job (Ok desk) lists = (lists ≡ map (said_in job.calls desk.events) (sessions job.calls)) × AreLinesInOrder job.calls (sessions job.calls) lists
GaveAs job (Err Link) lists =
    AreLinesInOrder job.calls (sessions job.calls) lists
    × AllByRecursion IsUnbroken lists
    × ((length lists ≡ length (sessions job.calls)) ⊎ AllByRecursion (λ (list : List Heard). list ≡ []) lists)
GaveAs job (Err (OtherJob other)) lists = length lists ≡ length (sessions job.calls)
GaveAs job (Err (Mismatch session place kept answered)) lists = (length lists ≡ length (sessions job.calls)) × IsFoundIn job lists session place kept answered
GaveAs job (Err Memory) lists = length lists ≤ length (sessions job.calls)

-- they were added to what the dial tells
abbrev pub GaveBack : JobView → Result RemoteView RemoteErr → Option (List (List Heard)) → Option (List (List Heard)) → Type 0
GaveBack job result before after = Told before (λ told. (lists : List (List Heard)) × GaveAs job result lists × (after ≡ Some (told ++ lists)))

-- and whatever the replay came to, each of them has a reply to each call, but for the last one at most
abbrev pub AddsUnbroken : Option (List (List Heard)) → Option (List (List Heard)) → Type 0
AddsUnbroken before after = Told before (λ told. (lists : List (List Heard)) × AllByRecursion IsUnbroken lists × (after ≡ Some (told ++ lists)))

-- the dial counts no fault in a replay to its end, a failure of the link comes only where it counted one, and its count never falls
abbrev pub EndsSo : Result RemoteView RemoteErr → ℕ → ℕ → Type 0
EndsSo (Ok desk) before after = after ≡ before
EndsSo (Err Link) before after = HasRisen before after × (before ≤ after)
EndsSo (Err error) before after = before ≤ after

abbrev pub IsGoodHeard : Option Heard → Type 0
IsGoodHeard one = IfSome one (λ heard. IfSome heard.reply IsGoodReply)

-- each reply of what differs can be written
abbrev pub HasGoodReplies : RemoteErr → Type 0
HasGoodReplies (Mismatch session place kept answered) = IsGoodHeard kept × IsGoodHeard answered
HasGoodReplies other = ⊤

-- a desk of the job keeps other than what was heard in a session with a call, first at this place
pub record IsFound (job : JobView) (session place : ℕ) (kept answered : Option Heard) : Type 0 where
  pub desk : RemoteView
  pub line : ℕ
  pub heard : List Heard
  pub job_is : desk.job ≡ job
  pub is_kept : IsKept desk
  pub session_is : slice_get (sessions job.calls) line ≡ Some session
  pub differs : DiffersAt desk.stopped (kept_of desk session) heard place kept answered

-- the two values in which a desk and what it is compared with differ: another job is one that a desk can carry, and each reply can be
-- written
abbrev pub IsDifference : JobView → RemoteErr → Type 0
IsDifference job (OtherJob kept) = (seen kept ≢ job) × IsReplayable (seen kept)
IsDifference job (Mismatch session place kept answered) = (kept ≢ answered) × IsGoodHeard kept × IsGoodHeard answered × IsFound job session place kept answered
IsDifference job Link = ⊤
IsDifference job Memory = ⊤
