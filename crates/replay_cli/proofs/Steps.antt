-- The steps of a run, of a preparation and of a service.
use Rattle.std.proofs.Common.{ℕ, List, Option, Result, Ok, Err, refl}
use Rattle.desk_files.specs.Outside.{FileMap}
use Rattle.capture_format.specs.declared.start.StartFile.{StartFile}
use Rattle.captured_calls.specs.Verdict.{verdict}
use Rattle.remap_ids.specs.Services.{ServicePair}
use Rattle.replay_cli.specs.declared.failure.Failure.{Failure}
use Rattle.replay_cli.specs.declared.failure.Refusal.{Refusal}
use Rattle.desk_words.specs.declared.ways.Ways.{Ways}
use Rattle.desk_schema.specs.Start.{StartView}
use Rattle.replay_cli.specs.Decision.{PrepareIn, Read, ReadIn, RemapIn, RunIn, ServeIn, StartIn, TargetIn, Task, ToServe, ToTell, legal_from, run_job, run_task}
use Rattle.replay_cli.specs.Steps.{Is, Then}
use Rattle.replay_cli.specs.Inside.Steps.{Answered, FaultFree, Step}
use Rattle.replay_cli.proofs.StepLaws.{step_pure, step_stops, step_then}

module _ (capture out : List ℕ) (read : Read) (c0 c1 : Option FileMap) (f0 f1 : ℕ) (reads : Step (λ files. ReadIn files capture) c0 c1 f0 f1 (Ok read)) where
  -- what was read is tested and told
  abbrev Told : Read → Result Task Refusal → Type 0
  Told r = Then (Is (legal_from r.start (verdict r.start r.sessions))) (λ legal. Is (Ok (ToTell out legal.facts)))

  pub told_tested : (answer : Result Task Failure) → Answered (Told read) answer → FaultFree answer → Step (λ files. PrepareIn files capture out) c0 c1 f0 f1 answer
  told_tested answer says free = step_then (λ files. Told) _ _ _ _ _ _ read answer reads (step_pure (λ files. Told read) _ _ answer (λ files. says) free)

  module _ (ways : Ways) where
    -- what was read is tested and replayed so
    abbrev Tested : Read → List ServicePair → StartView → Result Task Refusal → Type 0
    Tested r remap target = Then (Is (legal_from r.start (verdict r.start r.sessions))) (λ legal. Is (Ok (run_task out (run_job legal target remap ways) ways.target)))

    abbrev Changed : FileMap → Read → List ServicePair → Result Task Refusal → Type 0
    Changed files r remap = Then (TargetIn files r.start ways.change) (Tested r remap)

    abbrev Remapped : FileMap → Read → Result Task Refusal → Type 0
    Remapped files r = Then (RemapIn files ways.remap) (Changed files r)

    pub run_cut : (c2 : Option FileMap) (f2 : ℕ) (failure : Failure) → Step (λ files. RemapIn files ways.remap) c1 c2 f1 f2 (Err failure) → Step (λ files. RunIn files capture out ways) c0 c2 f0 f2 (Err failure)
    run_cut c2 f2 failure stops = step_then Remapped _ _ _ _ _ _ read (Err failure) reads (step_stops (λ files. Changed files read) _ _ _ _ failure stops)

    module _ (c2 : Option FileMap) (f2 : ℕ) (remap : List ServicePair) (remaps : Step (λ files. RemapIn files ways.remap) c1 c2 f1 f2 (Ok remap)) where
      pub run_unchanged : (c3 : Option FileMap) (f3 : ℕ) (failure : Failure) → Step (λ files. TargetIn files read.start ways.change) c2 c3 f2 f3 (Err failure) → Step (λ files. RunIn files capture out ways) c0 c3 f0 f3 (Err failure)
      run_unchanged c3 f3 failure stops =
          step_then Remapped _ _ _ _ _ _ read (Err failure) reads (step_then (λ files. Changed files read) _ _ _ _ _ _ remap (Err failure) remaps (step_stops (λ files. Tested read remap) _ _ _ _ failure stops))

      pub run_tested : (c3 : Option FileMap) (f3 : ℕ) (target : StartView) → Step (λ files. TargetIn files read.start ways.change) c2 c3 f2 f3 (Ok target)
          → (answer : Result Task Failure) → Answered (Tested read remap target) answer → FaultFree answer → Step (λ files. RunIn files capture out ways) c0 c3 f0 f3 answer
      run_tested c3 f3 target changes answer says free =
          step_then Remapped _ _ _ _ _ _ read answer reads
          (step_then (λ files. Changed files read) _ _ _ _ _ _ remap answer remaps
          (step_then (λ files. Tested read remap) _ _ _ _ _ _ target answer changes (step_pure (λ files. Tested read remap target) _ _ answer (λ files. says) free)))

-- the start that was read is served
pub served_from : (capture start : List ℕ) (connections port : ℕ) (c0 c1 : Option FileMap) (f0 f1 : ℕ) (file : StartFile) → Step (λ files. StartIn files start) c0 c1 f0 f1 (Ok file)
    → Step (λ files. ServeIn files capture start connections port) c0 c1 f0 f1 (Ok (ToServe capture file.start connections port))
served_from capture start connections port c0 c1 f0 f1 file reads =
    let task : Result Task Failure = Ok (ToServe capture file.start connections port) in
    step_then (λ files served. Is (Ok (ToServe capture served.start connections port))) _ _ _ _ _ _ file task reads (step_pure (λ files. Is (Ok (ToServe capture file.start connections port))) _ _ task (λ files. refl) tt)
