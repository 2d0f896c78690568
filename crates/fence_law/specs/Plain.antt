-- Which calls of a replay are plain reads: a SELECT that holds nothing, of a session that has changed nothing, before which no
-- commit differed.
use Rattle.std.specs.Prelude.{◌≡◌, ◌↔◌, ℕ, ◌+◌, ◌≤◌, Bool, true, false, not, List, [], ◌∷◌, take, Option, None, Some, is_some}
use Rattle.std.specs.List.{Contains}
use Rattle.desk_values.specs.declared.call.Call.{Call}
use Rattle.desk_values.specs.declared.call.Call.TheVariants.{Connect, Sql, Disconnect}
use Rattle.desk_values.specs.declared.call.Reply.{Reply}
use Rattle.desk_values.specs.declared.capture.Captured.{Captured}
use Rattle.desk_values.specs.declared.capture.Event.{Event}
use Rattle.sql_tree.specs.Plain.{Name, Plan, select}
use Rattle.sql_reader.specs.Reading.{statement_of}
use Rattle.server_words.specs.Clean.{is_clean}
use Rattle.server_words.specs.State.{State}
use Rattle.replay_history.specs.Capture.{binds_of}
use Rattle.id_pairs.specs.Carrying.Carried.{carried_row}
use Rattle.replay_job.specs.Job.{JobView}
use Rattle.replay_job.specs.Runs.{Stage}
use Rattle.law_replays.specs.End.Answers.{HasNoWriteDivergence, IsAnsweredAt}
use Rattle.law_replays.specs.End.Twins.{CameBefore}

-- it reads rows and holds none
abbrev pub holds_nothing : Plan Name → Bool
holds_nothing (select table asked condition keys held) = not held
holds_nothing other = false

abbrev pub reads_only : Option (Plan Name) → Bool
reads_only None = false
reads_only (Some parsed) = holds_nothing parsed

-- the call's text spells a SELECT without FOR UPDATE, whatever a check says of it
abbrev pub is_plain_select : Call → Bool
is_plain_select (Connect service) = false
is_plain_select (Sql text binds) = reads_only (statement_of text)
is_plain_select Disconnect = false

-- the call with this stamp is a plain read, answered at this place
pub record IsPlainAnswer (job : JobView) (history : List Event) (k place : ℕ) (call : Captured) (reply : Reply)
    (before after : Stage) (captured : State) : Type 0 where
  pub there : IsAnsweredAt job history place k call reply before after
  pub came : CameBefore job k captured
  pub reads : is_plain_select call.call ≡ true
  -- its session has changed nothing, in the capture and in the replay
  pub clean : is_clean captured call.session ≡ true
  pub still_clean : is_clean before.state call.session ≡ true
  -- each id among its binds has an image
  pub images : is_some (carried_row before.pairs (binds_of call.call)) ≡ true
  -- no commit differed before
  pub quiet : HasNoWriteDivergence job (take place history)

abbrev pub IsPlainRead : JobView → List Event → ℕ → Type 0
IsPlainRead job history k = (place : ℕ) × (call : Captured) × (reply : Reply) × (before : Stage) × (after : Stage) × (captured : State)
    × IsPlainAnswer job history k place call reply before after captured

-- the stamps rise, from this one on
abbrev pub StampsRiseFrom : ℕ → List ℕ → Type 0
StampsRiseFrom n [] = Unit {0}
StampsRiseFrom n (stamp ∷ stamps) = (n ≤ stamp) × StampsRiseFrom (stamp + 1) stamps

-- they are those of the plain reads, ascending
pub record ArePlainReads (job : JobView) (history : List Event) (stamps : List ℕ) : Type 0 where
  pub rise : StampsRiseFrom 0 stamps
  pub each : (k : ℕ) → Contains stamps k ↔ IsPlainRead job history k
