use Rattle.std.proofs.Common.{◌≡◌, ◌∙◌, ℕ, Bool, List, length, ap, subst, sym, arith}
use Rattle.std.proofs.lemmas.Result.{IfOk-weaker}
use Rattle.desk_values.specs.declared.capture.Captured.{Captured}
use Rattle.desk_values.specs.declared.capture.Event.{Event}
use Rattle.desk_schema.specs.Start.{StartView}
use Rattle.replay_history.specs.declared.mode.Mode.TheVariants.{Fence}
use Rattle.replay_job.specs.Job.{seen}
use Rattle.replay_job.specs.Replays.{IsReplay}
use Rattle.replay_job.specs.Runs.{Stage}
use Rattle.law_replays.specs.End.Answers.{FencesCommits}
use Rattle.replay_walk.specs.Walked.{AreOpen}
use Rattle.fence_law.specs.Inside.{AreReadMarks, stamps_in}
use Rattle.fence_law.specs.Laws.{AreSame}
use Rattle.fence_law.specs.Plain.{ArePlainReads}
use Rattle.fence_law.proofs.Found.{are_plain_reads}
use Rattle.fence_law.proofs.Reading.{reads_same}
use Rattle.fence_law.proofs.reads.reads_in.Goals as goal

pub stamps_of-requires : goal.stamps_of-requires
stamps_of-requires c = omega (arith, ap length c.as_slice-3.ensures.value, c.in_ok-marks.ensures.count, ap length c.as_slice.ensures, c.requires.replayable.legal.count)

pub returns-clause-reads : goal.returns-clause-reads
returns-clause-reads c =
    let job = seen c.args.job.now in
    let open_calls = c.args.walked.now.open_calls.items in
    let marks = c.in_ok-marks.marks.items in
    let are = subst (λ (calls : List Captured). AreReadMarks calls open_calls (length calls) marks) c.as_slice.ensures (subst (λ (o : List Bool). AreReadMarks c.as_slice.result.now o (length c.as_slice.result.now) marks) c.as_slice-2.ensures.value c.in_ok-marks.ensures) in
    IfOk-weaker c.stamps_of.result (λ (stamps : List ℕ). stamps ≡ stamps_in 0 c.as_slice-3.result.now) (λ (stamps : List ℕ). (history : List Event) → AreOpen job history open_calls → ArePlainReads job history stamps)
    (λ stamps is history are_open. subst (ArePlainReads job history) (sym (is ∙ ap (stamps_in 0) c.as_slice-3.ensures.value)) (are_plain_reads job history open_calls marks are_open are)) c.stamps_of.ensures

pub returns-clause-same : goal.returns-clause-same
returns-clause-same c =
    let job = seen c.args.job.now in
    let open_calls = c.args.walked.now.open_calls.items in
    let marks = c.in_ok-marks.marks.items in
    let are = subst (λ (calls : List Captured). AreReadMarks calls open_calls (length calls) marks) c.as_slice.ensures (subst (λ (o : List Bool). AreReadMarks c.as_slice.result.now o (length c.as_slice.result.now) marks) c.as_slice-2.ensures.value c.in_ok-marks.ensures) in
    IfOk-weaker c.stamps_of.result (λ (stamps : List ℕ). stamps ≡ stamps_in 0 c.as_slice-3.result.now)
    (λ (stamps : List ℕ). (history : List Event) (last : Stage) → IsReplay job history last → job.mode ≡ Fence → job.target ≡ job.start → AreOpen job history open_calls → AreSame job history stamps)
    (λ stamps is history last replay fence target are_open. subst (AreSame job history) (sym (is ∙ ap (stamps_in 0) c.as_slice-3.ensures.value))
    (reads_same job history last replay (subst FencesCommits (sym fence) tt) (ap (λ (s : StartView). s.schema) target) (stamps_in 0 marks) (are_plain_reads job history open_calls marks are_open are))) c.stamps_of.ensures
