-- What a replay against another server comes to, by how it ended.
use Rattle.std.proofs.Common.{◌≡◌, ◌≤◌, ◌∙◌, ◌++◌, ℕ, List, Some, Result, Err, Ok, refl, sym, ap, subst, arith}
use Rattle.std.specs.Prelude.{IfErr, IfOk}
use Rattle.desk_values.specs.declared.memory.Memory.{Memory as NoMemory}
use Rattle.desk_files.proofs.WriteLaws.{told}
use Rattle.replay_history.specs.History.{AnswersAll}
use Rattle.replay_job.specs.Job.{JobView}
use Rattle.remote_link.specs.declared.heard.Heard.{Heard}
use Rattle.remote_desk.specs.Desk.{IsKept, RemoteView}
use Rattle.remote_desk.specs.History.{plain}
use Rattle.remote_target.specs.declared.remote_err.RemoteErr.{RemoteErr}
use Rattle.remote_target.specs.declared.remote_err.RemoteErr.TheVariants as remote
use Rattle.remote_target.specs.Dialled.{DialsOnce}
use Rattle.desk_files.specs.Outside.{risen_by}
use Rattle.remote_target.specs.Ends.{EndsSo, GaveBack, IsDifference}
use Rattle.replay_cli.specs.declared.plan.Plan.{Plan}
use Rattle.replay_cli.specs.declared.failure.Failure.{Failure}
use Rattle.replay_cli.specs.declared.failure.Failure.TheVariants.{OutOfMemory}
use Rattle.replay_cli.specs.declared.unsent.Unsent.{Unsent}
use Rattle.replay_cli.specs.declared.unsent.Unsent.TheVariants as unsent
use Rattle.replay_cli.specs.Done.{IsSent}
use Rattle.replay_cli.specs.Ending.{IsUnsent, unsent_of}
use Rattle.replay_cli.specs.Hosting.{Dialling}
use Rattle.replay_cli.specs.Inside.Serving.{DialFaults, IsToldSent, SendFails, failed_as}
use Rattle.replay_cli.proofs.Dialled.{all_dialled}

-- to its end
own_sent : (out : List ℕ) (desk : RemoteView) (plan : Plan) (dial : Dialling) → IsKept desk → AnswersAll desk.job.calls (plain desk.events) → IsToldSent out desk plan
    → GaveBack desk.job (Ok desk) dial.before dial.after → DialsOnce desk.job.calls (Ok desk) dial.before dial.after dial.counts_before dial.counts_after
    → EndsSo (Ok desk) dial.counts_before.faults dial.counts_after.faults → IsSent out desk.job plan dial
own_sent out desk plan dial kept whole is back dials ends = record {
  events = desk.events;
  history = kept.remote;
  whole = whole;
  texts = kept.texts;
  line = is.line;
  differs = is.differs;
  writes = is.writes;
  lines = told dial.before (λ lists gave. gave.2 ∙ ap (λ (more : List (List Heard)). Some (lists ++ more)) gave.1.0) back;
  faultless = ends;
  dialled = dials.counted ∙ ap (λ (k : ℕ). risen_by k dial.counts_before.dials) dials.once.0;
  returned = dials.returned ∙ ap (λ (k : ℕ). risen_by k dial.counts_before.backs) (dials.once.1 ∙ dials.once.0);
}

sent_so : (out : List ℕ) (job : JobView) (desk : RemoteView) (plan : Plan) (dial : Dialling) → desk.job ≡ job → IsKept desk → AnswersAll desk.job.calls (plain desk.events) → IsToldSent out desk plan
    → GaveBack job (Ok desk) dial.before dial.after → DialsOnce job.calls (Ok desk) dial.before dial.after dial.counts_before dial.counts_after
    → EndsSo (Ok desk) dial.counts_before.faults dial.counts_after.faults → IsSent out job plan dial
sent_so out job desk plan dial same kept whole is back dials ends =
    subst (λ (j : JobView). IsSent out j plan dial) same
    (own_sent out desk plan dial kept whole is (subst (λ (j : JobView). GaveBack j (Ok desk) dial.before dial.after) (sym same) back)
    (subst (λ (j : JobView). DialsOnce j.calls (Ok desk) dial.before dial.after dial.counts_before dial.counts_after) (sym same) dials) ends)

count_grows : (desk : RemoteView) (before after : ℕ) → EndsSo (Ok desk) before after → before ≤ after
count_grows desk before after same = let is : after ≡ before = same in omega (arith, is)

-- what is told of it, or want of memory
module _ (job : JobView) (desk : RemoteView) (dial : Dialling) (ends : EndsSo (Ok desk) dial.counts_before.faults dial.counts_after.faults) where
  pub planned_sent : (out : List ℕ) (done : Result Plan Failure) (told : Result Plan NoMemory) → desk.job ≡ job → IsKept desk → AnswersAll desk.job.calls (plain desk.events) → GaveBack job (Ok desk) dial.before dial.after
      → DialsOnce job.calls (Ok desk) dial.before dial.after dial.counts_before dial.counts_after → IfOk done (λ plan. told ≡ Ok plan) → IfOk told (IsToldSent out desk) → IfOk done (λ plan. IsSent out job plan dial)
  planned_sent out (Ok plan) told same kept whole back dials is says = sent_so out job desk plan dial same kept whole (subst (λ (r : Result Plan NoMemory). IfOk r (IsToldSent out desk)) is says) back dials ends
  planned_sent out (Err failure) told same kept whole back dials is says = tt

  pub planned_fails : (done : Result Plan Failure) → DialsOnce job.calls (Ok desk) dial.before dial.after dial.counts_before dial.counts_after
      → IfErr done (λ failure. failure ≡ OutOfMemory) → IfErr done (SendFails job dial)
  planned_fails (Ok plan) dials short = tt
  planned_fails (Err failure) dials short =
      subst (SendFails job dial) (sym short) (count_grows desk dial.counts_before.faults dial.counts_after.faults ends, all_dialled job.calls dial.before dial.after dial.counts_before dial.counts_after desk dials)

  pub planned_counts : (done : Result Plan Failure) → IfErr done (λ failure. failure ≡ OutOfMemory) → DialFaults done dial
  planned_counts (Ok plan) short = count_grows desk dial.counts_before.faults dial.counts_after.faults ends
  planned_counts (Err failure) short = subst (λ (f : Failure). DialFaults (Err f) dial) (sym short) (count_grows desk dial.counts_before.faults dial.counts_after.faults ends)

-- to none
module _ (job : JobView) (dial : Dialling) where
  unsent_so : (error : RemoteErr) (cause : Unsent) → unsent_of error ≡ Some cause → GaveBack job (Err error) dial.before dial.after
      → DialsOnce job.calls (Err error) dial.before dial.after dial.counts_before dial.counts_after → EndsSo (Err error) dial.counts_before.faults dial.counts_after.faults → IsDifference job error → IsUnsent job cause dial
  unsent_so error cause is back dials ends differs = record { error = error; told = is; back = back; once = dials; ends = ends; differs = differs }

  fails_as : (error : RemoteErr) → GaveBack job (Err error) dial.before dial.after → DialsOnce job.calls (Err error) dial.before dial.after dial.counts_before dial.counts_after
      → EndsSo (Err error) dial.counts_before.faults dial.counts_after.faults → IsDifference job error → SendFails job dial (failed_as error)
  fails_as remote.Link back dials ends differs = unsent_so remote.Link unsent.Link refl back dials ends differs
  fails_as (remote.OtherJob kept) back dials ends differs = unsent_so (remote.OtherJob kept) unsent.Job refl back dials ends differs
  fails_as (remote.Mismatch session place kept answered) back dials ends differs =
      unsent_so (remote.Mismatch session place kept answered) (unsent.Mismatch session place kept answered) refl back dials ends differs
  fails_as remote.Memory back dials ends differs = (ends, dials)

  pub fails_so : (error : RemoteErr) (failure : Failure) → failure ≡ failed_as error → GaveBack job (Err error) dial.before dial.after
      → DialsOnce job.calls (Err error) dial.before dial.after dial.counts_before dial.counts_after → EndsSo (Err error) dial.counts_before.faults dial.counts_after.faults → IsDifference job error → SendFails job dial failure
  fails_so error failure is back dials ends differs = subst (SendFails job dial) (sym is) (fails_as error back dials ends differs)

counts_as : (error : RemoteErr) (dial : Dialling) → EndsSo (Err error) dial.counts_before.faults dial.counts_after.faults → DialFaults (Err (failed_as error)) dial
counts_as remote.Link dial ends = ends
counts_as (remote.OtherJob kept) dial ends = ends
counts_as (remote.Mismatch session place kept answered) dial ends = ends
counts_as remote.Memory dial ends = ends

pub counts_so : (error : RemoteErr) (failure : Failure) (dial : Dialling) → failure ≡ failed_as error → EndsSo (Err error) dial.counts_before.faults dial.counts_after.faults → DialFaults (Err failure) dial
counts_so error failure dial is ends = subst (λ (f : Failure). DialFaults (Err f) dial) (sym is) (counts_as error dial ends)
