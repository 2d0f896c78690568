-- What may be found to differ of what was served.
use Rattle.std.specs.Prelude.{◌≡◌, ℕ, true, false, List, Option, Result, Ok, Err, ⊤}
use Rattle.desk_files.specs.Outside.{Ending, Answered, DeviceFailed}
use Rattle.desk_files.specs.Hosts.{Connections}
use Rattle.desk_schema.specs.Start.{StartView}
use Rattle.capture_recorder.specs.declared.door.Said.{Said}
use Rattle.capture_recorder.specs.declared.door.Turned.{Turned}
use Rattle.capture_recorder.specs.declared.gathering.GatherErr.{GatherErr}
use Rattle.capture_recorder.specs.declared.gathering.GatherErr.TheVariants as gather
use Rattle.capture_recorder.specs.Gathering.{Gathers}
use Rattle.capture_recorder.specs.Recording.{IsRecording, Recording}
use Rattle.capture_serve.specs.Service.{HasGivenBack, HasGivenBackAll, HasLost}
use Rattle.capture_serve.specs.declared.failing.ServeErr.{ServeErr}
use Rattle.capture_serve.specs.declared.failing.ServeErr.TheVariants as serve
use Rattle.capture_serve.specs.declared.failing.Finding.{Finding}
use Rattle.capture_serve.specs.declared.failing.Finding.TheVariants as found

-- what is told of where a recorder and the doors do not agree
abbrev pub err_of : GatherErr → ServeErr
err_of (gather.OtherStart kept) = serve.Differs found.Start
err_of (gather.Mismatch session place kept answered) = serve.Differs (found.Mismatch session place kept answered)
err_of (gather.Refusal session n entry) = serve.Differs (found.Refusal session n)
err_of gather.Memory = serve.Memory

-- A recorder was compared with what doors said and turned away, over this start, and this is where they first differ.
pub record IsFinding (start : StartView) (finding : Finding) : Type 0 where
  pub recording : Recording
  pub said : List (List Said)
  pub turned : List (List Turned)
  pub error : GatherErr
  pub is_recording : IsRecording recording
  pub gathers : Gathers start recording said turned (Err error)
  pub told : err_of error ≡ serve.Differs finding

-- how serving this start may fail: a device failed, something differs, or memory was short
abbrev pub Fails : StartView → ServeErr → Type 0
Fails start (serve.Failed short) = ⊤
Fails start (serve.Differs finding) = IsFinding start finding
Fails start serve.Memory = ⊤

-- what was given back at a failure: all that were to be served or that there were, where something differs; where the host failed, those that
-- were taken, unless memory was short as well, and then just not all of them are told
abbrev pub GivesBack : ℕ → Option Connections → Option Connections → ServeErr → Type 0
GivesBack most before after (serve.Failed short) = (short ≡ false → HasGivenBack most before after) × (short ≡ true → HasLost before after)
GivesBack most before after (serve.Differs finding) = HasGivenBackAll most before after
GivesBack most before after serve.Memory = ⊤

-- how serving ends for the host
abbrev pub serve_ending : {X : Type 0} → Result X ServeErr → Ending
serve_ending (Ok done) = Answered
serve_ending (Err (serve.Failed short)) = DeviceFailed
serve_ending (Err (serve.Differs finding)) = Answered
serve_ending (Err serve.Memory) = Answered
