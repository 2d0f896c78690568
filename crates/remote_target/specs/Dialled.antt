-- How often a replay against another server dials, and how many lines it gives back.
use Rattle.std.specs.Prelude.{◌≡◌, ◌⊎◌, ℕ, zero, suc, ◌+◌, ◌≤◌, List, ◌++◌, length, Option, Some, Result, Ok, Err}
use Rattle.desk_values.specs.declared.capture.Captured.{Captured}
use Rattle.desk_files.specs.Outside.{HasRisen, Told, risen_by}
use Rattle.remote_link.specs.declared.heard.Heard.{Heard}
use Rattle.remote_link.specs.Dials.{DialAccount}
use Rattle.replay_lanes.specs.Sessions.{sessions}
use Rattle.remote_desk.specs.Desk.{RemoteView}
use Rattle.remote_target.specs.declared.remote_err.RemoteErr.{RemoteErr}
use Rattle.remote_target.specs.declared.remote_err.RemoteErr.TheVariants.{Link, OtherJob, Mismatch, Memory}

-- one dial for each session with a call, and a line given back for each
abbrev pub AreAllOnce : List Captured → ℕ → ℕ → Type 0
AreAllOnce calls dials lines = (dials ≡ length (sessions calls)) × (lines ≡ dials)

-- a line given back for each dial but one, where the count of faults rose, as it does with a dial that fails
pub record IsCutShort (calls : List Captured) (dials lines faults faults_after : ℕ) : Type 0 where
  pub but_one : lines + 1 ≡ dials
  pub few : dials ≤ length (sessions calls)
  pub risen : HasRisen faults faults_after

-- so many dials and lines given back, by how the replay ended: one of each for each session with a call; or, with a failure of the link
-- or want of memory, one line less than dials, where the count of faults rose; and where memory was short, as many of the one as of the
-- other
abbrev pub IsOnceEach : List Captured → Result RemoteView RemoteErr → ℕ → ℕ → ℕ → ℕ → Type 0
IsOnceEach calls (Ok desk) dials lines faults faults_after = AreAllOnce calls dials lines
IsOnceEach calls (Err Link) dials lines faults faults_after = AreAllOnce calls dials lines ⊎ IsCutShort calls dials lines faults faults_after
IsOnceEach calls (Err (OtherJob kept)) dials lines faults faults_after = AreAllOnce calls dials lines
IsOnceEach calls (Err (Mismatch session place kept answered)) dials lines faults faults_after = AreAllOnce calls dials lines
IsOnceEach calls (Err Memory) dials lines faults faults_after =
    ((lines ≡ dials) × (dials ≤ length (sessions calls))) ⊎ IsCutShort calls dials lines faults faults_after

-- how many of the lines that were given back are told: all, but where memory was short
abbrev pub AreTold : Result RemoteView RemoteErr → ℕ → ℕ → Type 0
AreTold (Err Memory) told lines = told ≤ lines
AreTold other told lines = told ≡ lines

-- the counts of dials and of lines given back rose so, and where the dial tells of the lines, so many came to them
pub record DialsOnce (calls : List Captured) (result : Result RemoteView RemoteErr) (before after : Option (List (List Heard))) (old new : DialAccount) : Type 0 where
  pub dials : ℕ
  pub lines : ℕ
  pub counted : new.dials ≡ risen_by dials old.dials
  pub returned : new.backs ≡ risen_by lines old.backs
  pub once : IsOnceEach calls result dials lines old.faults new.faults
  pub given : Told before (λ told. (lists : List (List Heard)) × AreTold result (length lists) lines × (after ≡ Some (told ++ lists)))

-- the port that was asked for last, after so many dials of this one
abbrev pub asked_for : ℕ → ℕ → Option ℕ → Option ℕ
asked_for zero port last = last
asked_for (suc n) port last = Some port

-- However a replay ends: so many lines were had, and so many dials failed, one dial for each session with a call at most. Lines and failed
-- dials together are the dials, each line that was had was given back, and the port that was asked for last is this one.
pub record IsHandedBack (calls : List Captured) (port : ℕ) (old new : DialAccount) : Type 0 where
  pub lines : ℕ
  pub failed : ℕ
  pub few : lines + failed ≤ length (sessions calls)
  pub dialled : new.dials ≡ risen_by (lines + failed) old.dials
  pub refused : new.failed ≡ risen_by failed old.failed
  pub returned : new.backs ≡ risen_by lines old.backs
  pub asked : new.port ≡ asked_for (lines + failed) port old.port
