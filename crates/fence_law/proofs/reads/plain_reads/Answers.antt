use Rattle.std.proofs.Common.{◌≡◌, ◌∙◌, ℕ, List, length, refl, ap}
use Rattle.std.specs.Prelude.{false}
use Rattle.std.proofs.lemmas.List.{length-replicate}
use Rattle.std.proofs.lemmas.Result.{IfOk-weaker}
use Rattle.desk_values.specs.declared.capture.Event.{Event}
use Rattle.replay_history.specs.declared.mode.Mode.TheVariants.{Fence}
use Rattle.replay_job.specs.Job.{seen}
use Rattle.replay_job.specs.Replays.{IsReplay}
use Rattle.replay_job.specs.Runs.{Stage}
use Rattle.replay_walk.specs.Walked.{AreOpen}
use Rattle.fence_law.specs.Laws.{AreSame}
use Rattle.fence_law.specs.Plain.{ArePlainReads}
use Rattle.fence_law.proofs.reads.plain_reads.Goals as goal

pub walk-requires-clause-twins : goal.walk-requires-clause-twins
walk-requires-clause-twins c = ap length (c.as_slice.ensures.value ∙ c.in_ok-none.ensures.items_if_clones_equal (λ y same. same)) ∙ length-replicate c.len.result false ∙ c.len.ensures

pub returns-clause-reads : goal.returns-clause-reads
returns-clause-reads c =
    let job = seen c.args.job.now in
    let history = c.args.history.now.items in
    let open_calls = c.in_ok-walked.walked.open_calls.items in
    IfOk-weaker c.reads_in.result (λ (stamps : List ℕ). (events : List Event) → AreOpen job events open_calls → ArePlainReads job events stamps) (λ (stamps : List ℕ). ArePlainReads job history stamps)
    (λ stamps are. are history (c.in_ok-walked.ensures.open_calls refl)) c.reads_in.ensures.reads

pub returns-clause-same : goal.returns-clause-same
returns-clause-same c =
    let job = seen c.args.job.now in
    let history = c.args.history.now.items in
    let open_calls = c.in_ok-walked.walked.open_calls.items in
    let last = c.requires.complete.0 in
    let replay : IsReplay job history last = record { sound = c.requires.sound; complete = c.requires.complete.1 } in
    IfOk-weaker c.reads_in.result
    (λ (stamps : List ℕ). (events : List Event) (end : Stage) → IsReplay job events end → job.mode ≡ Fence → job.target ≡ job.start → AreOpen job events open_calls → AreSame job events stamps) (λ (stamps : List ℕ). AreSame job history stamps)
    (λ stamps same. same history last replay c.requires.fence c.requires.target (c.in_ok-walked.ensures.open_calls refl)) c.reads_in.ensures.same
