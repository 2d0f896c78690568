-- The generated capture, by its names.
use Rattle.std.proofs.Common.{◌≡◌, ◌∙◌, ◌≤◌, ℕ, List, [], ◌∷◌, ◌++◌, length, Some, Result, Ok, Err, sym, ap, subst, arith}
use Rattle.std.specs.Prelude.{IfOk, slice_get}
use Rattle.std.specs.List.{AllByRecursion}
use Rattle.desk_values.specs.Room.{Room}
use Rattle.desk_values.specs.declared.capture.Captured.{Captured}
use Rattle.desk_schema.specs.Start.{StartView}
use Rattle.capture_format.specs.SessionFile.{MayTellAll}
use Rattle.capture_format.specs.StartFile.{start_text}
use Rattle.capture_recorder.specs.Limits.{generated_sessions}
use Rattle.capture_recorder.specs.Generated.{generated}
use Rattle.capture_recorder.specs.Recording.{IsRecording, Recording}
use Rattle.captured_calls.specs.Sessions.{AreSessionsFrom, session_lists}
use Rattle.captured_calls.specs.Stamped.{HasText}
use Rattle.prepare_plan.specs.Lists.{lists_of}
use Rattle.replay_cli.specs.declared.plan.Plan.{Plan}
use Rattle.replay_cli.specs.Decision.{ToMake, ToTry}
use Rattle.replay_cli.specs.Done.{IsDoneAlone, IsQuiet, IsReplayOf, IsTried, made_calls, made_lists, made_start, session_files, trial_job}
use Rattle.replay_cli.specs.Lines.{generated_line, trial_line}
use Rattle.replay_history.specs.Capture.{commits_in}
use Rattle.desk_values.specs.declared.capture.Event.{Event}
use Rattle.replay_history.specs.declared.mode.Mode.{Mode}
use Rattle.replay_history.specs.declared.mode.Mode.TheVariants.{Order}
use Rattle.object_depends.specs.declared.fact.Fact.{Fact}
use Rattle.remap_ids.specs.Services.{ServicePair}
use Rattle.replay_job.specs.Job.{HasMoments, JobView}
use Rattle.replay_job.specs.Replays.{IsToldReplay}
use Rattle.replay_job.specs.Runs.{IsCompleteFor, Stage}
use Rattle.replay_job.specs.Jobs.{IsTrial}
use Rattle.captured_calls.specs.Verdict.{IsLegal}
use Rattle.replay_cli.specs.FileNames.{start_name}
use Rattle.replay_cli.proofs.Sessions.{count_lists}
use Rattle.captured_calls.proofs.Members.{each_get}

start_is : (r : Recording) (n : ℕ) → r ≡ generated n → r.start ≡ made_start n
unfolding made_start
start_is r n e = ap (λ (s : Recording). s.start) e

calls_are : (r : Recording) (n : ℕ) → r ≡ generated n → r.calls ≡ made_calls n
unfolding made_calls
calls_are r n e = ap (λ (s : Recording). s.calls) e

pub start_made : {E : Type 0} (result : Result Recording E) (n : ℕ) → IfOk result (λ r. r ≡ generated n) → IfOk result (λ r. r.start ≡ made_start n)
start_made (Ok r) n e = start_is r n e
start_made (Err error) n e = e

pub calls_made : {E : Type 0} (result : Result Recording E) (n : ℕ) → IfOk result (λ r. r ≡ generated n) → IfOk result (λ r. r.calls ≡ made_calls n)
calls_made (Ok r) n e = calls_are r n e
calls_made (Err error) n e = e

-- ---- the calls of its sessions

lists_are : (lists : List (Room Captured)) (items : List Captured) (n : ℕ) → lists_of lists ≡ session_lists generated_sessions items → items ≡ made_calls n → lists_of lists ≡ made_lists n
unfolding made_lists
lists_are lists items n e same = e ∙ ap (session_lists generated_sessions) same

pub lists_made : {E : Type 0} (result : Result (List (Room Captured)) E) (items : List Captured) (n : ℕ) → IfOk result (λ lists. lists_of lists ≡ session_lists generated_sessions items) → items ≡ made_calls n → IfOk result (λ lists. lists_of lists ≡ made_lists n)
lists_made (Ok lists) items n e same = lists_are lists items n e same
lists_made (Err error) items n e same = e

pub files_made : {E : Type 0} (result : Result (List (Room Captured)) E) (recording : Recording) (items : List Captured) → IfOk result (λ lists. (r : Recording) → IsRecording r → r.calls ≡ items → AreSessionsFrom 0 (lists_of lists)) → IsRecording recording → recording.calls ≡ items → IfOk result (λ lists. AreSessionsFrom 0 (lists_of lists))
files_made (Ok lists) recording items are is same = are recording is same
files_made (Err error) recording items are is same = are

pub told_made : {E : Type 0} (result : Result (List (Room Captured)) E) (recording : Recording) (items : List Captured) → IfOk result (λ lists. (r : Recording) → IsRecording r → r.calls ≡ items → AllByRecursion (MayTellAll r.start.schema.version) (lists_of lists)) → IsRecording recording → recording.calls ≡ items
    → IfOk result (λ lists. AllByRecursion (MayTellAll recording.start.schema.version) (lists_of lists))
told_made (Ok lists) recording items told is same = told recording is same
told_made (Err error) recording items told is same = told

pub four_lists : {E : Type 0} (result : Result (List (Room Captured)) E) (items : List Captured) → IfOk result (λ lists. lists_of lists ≡ session_lists generated_sessions items) → IfOk result (λ lists. length lists ≤ 64)
four_lists (Ok lists) items e = let count = count_lists lists in let four : length (lists_of lists) ≡ 4 = ap (λ (ls : List (List Captured)). length ls) e in omega (arith, count, four)
four_lists (Err error) items e = e

-- ---- plans

pub plan_made : {E : Type 0} (result : Result Plan E) (n : ℕ) (out : List ℕ) (start : StartView) (lists : List (List Captured)) → start ≡ made_start n → lists ≡ made_lists n → IfOk result (λ plan. plan.line ≡ generated_line n) → IfOk result IsQuiet
    → IfOk result (λ plan. plan.writes ≡ session_files out start.schema.version 0 lists ++ record { name = start_name out; bytes = start_text start generated_sessions } ∷ []) → IfOk result (λ plan. IsDoneAlone (ToMake n out) plan)
plan_made (Ok plan) n out start lists start_is lists_is line quiet writes =
    (line, quiet, writes ∙ ap (λ (ls : List (List Captured)). session_files out start.schema.version 0 ls ++ record { name = start_name out; bytes = start_text start generated_sessions } ∷ []) lists_is ∙ ap (λ (s : StartView). session_files out s.schema.version 0 (made_lists n) ++ record { name = start_name out; bytes = start_text s generated_sessions } ∷ []) start_is)
plan_made (Err error) n out start lists start_is lists_is line quiet writes = line

pub legal_made : (recording : Recording) (start : StartView) (calls : List Captured) → IsRecording recording → start ≡ recording.start → calls ≡ recording.calls → IsLegal start calls
legal_made recording start calls is start_is calls_is =
    subst (λ (s : StartView). IsLegal s calls) (sym start_is) (subst (λ (cs : List Captured). IsLegal recording.start cs) (sym calls_is) is.legal)

pub moments_made : (recording : Recording) (calls : List Captured) → IsRecording recording → calls ≡ recording.calls → HasMoments calls
moments_made recording calls is calls_is k call at = (each_get HasText recording.calls k call is.texts (subst (λ (cs : List Captured). slice_get cs k ≡ Some call) calls_is at)).began

-- a replay of a trial, whatever is known of its calls: in the captured order that is not asked
trial_as : (start begins target : StartView) (calls copies : List Captured) (facts : List Fact) (remap : List ServicePair) (mode : Mode) (think connect : ℕ) (history : List Event) (last : Stage)
    → begins ≡ start → target ≡ start → copies ≡ calls → remap ≡ [] → mode ≡ Order → think ≡ 0 → connect ≡ 0
    → IsCompleteFor (record { start = begins; target = target; calls = copies; facts = facts; remap = remap; mode = mode; think = think; connect = connect }) history last → IsCompleteFor (trial_job start calls) history last
trial_as start begins target calls copies facts remap mode think connect history last begins_is target_is copies_are no_remap order no_think no_connect complete = rw (begins_is, target_is, copies_are, no_remap, order, no_think, no_connect) at complete

pub trial_replay : (start : StartView) (calls : List Captured) (job : JobView) (history : List Event) (last : Stage) → IsTrial start calls job → IsToldReplay job history last → IsReplayOf (trial_job start calls) history last
trial_replay start calls job history last is told = (
  trial_as start job.start job.target calls job.calls job.facts job.remap job.mode job.think job.connect history last is.start is.target is.calls is.remap is.mode is.think is.connect told.replay.complete,
  told.texts,
)

pub plan_tried : {E : Type 0} (result : Result Plan E) (n : ℕ) (start : StartView) (calls : List Captured) → start ≡ made_start n → calls ≡ made_calls n → IfOk result (λ plan. plan.line ≡ trial_line n (length calls) (commits_in calls))
    → IfOk result (λ plan. IsTried start calls) → IfOk result IsQuiet → IfOk result (λ plan. plan.writes ≡ []) → IfOk result (λ plan. IsDoneAlone (ToTry n) plan)
plan_tried (Ok plan) n start calls start_is calls_is line replay quiet writes = (
  line ∙ ap (λ (cs : List Captured). trial_line n (length cs) (commits_in cs)) calls_is,
  subst (λ (s : StartView). IsTried s (made_calls n)) start_is (subst (λ (cs : List Captured). IsTried start cs) calls_is replay),
  quiet,
  writes,
)
plan_tried (Err error) n start calls start_is calls_is line replay quiet writes = line
