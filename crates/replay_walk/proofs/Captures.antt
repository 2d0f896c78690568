-- A capture, call by call.
use Rattle.std.proofs.Common.{◌≡◌, ℕ, zero, suc, ◌<◌, List, [], ◌∷◌, take, refl, sym, subst, arith}
use Rattle.std.proofs.lemmas.Option.{slice_get_within}
use Rattle.desk_values.specs.declared.capture.Captured.{Captured}
use Rattle.server_words.specs.State.{State, opening}
use Rattle.server_words.specs.Step.{Gives}
use Rattle.replay_history.specs.Capture.{IsRun}
use Rattle.replay_history.specs.Gap.{IsCallAt}
use Rattle.replay_job.specs.Job.{IsReplayable, JobView}
use Rattle.law_replays.specs.End.Twins.{CameBefore}
use Rattle.law_replays.proofs.End.Stages.{run_gives}
use Rattle.replay_walk.specs.Walks.{CallsAreSteps}

run_on : (first : State) (calls : List Captured) (k : ℕ) (call : Captured) (before after : State) → IsRun Gives first (take k calls) before → IsCallAt calls k call
    → Gives before call.session call.call call.reply after → IsRun Gives first (take (suc k) calls) after
run_on first [] k call before after run at gives = absurd cc
run_on first (c ∷ calls) zero call before after run at gives =
    let same : call ≡ c = cc in
    (after, subst (λ (s : State). Gives s c.session c.call c.reply after) (sym run) (subst (λ (d : Captured). Gives before d.session d.call d.reply after) same gives), refl)
run_on first (c ∷ calls) (suc k) call before after run at gives = (run.0, run.1, run_on run.0 calls k call before after run.2 at gives)

run_front : (first : State) (calls : List Captured) (last : State) (k : ℕ) → IsRun Gives first calls last → (state : State) × IsRun Gives first (take k calls) state
run_front first [] last zero run = (first, refl)
run_front first [] last (suc k) run = (first, refl)
run_front first (c ∷ calls) last zero run = (first, refl)
run_front first (c ∷ calls) last (suc k) run = let t = run_front run.0 calls last k run.2 in (t.0, (run.0, run.1, t.1))

-- the captured server came to some state before each stamp
pub came_to : (job : JobView) → IsReplayable job → (k : ℕ) → (state : State) × CameBefore job k state
came_to job replayable k = let run = replayable.legal.replies in run_front (opening job.start) job.calls run.0 k run.1

pub next_call : CallsAreSteps
next_call job k call state replayable at came =
    let run = replayable.legal.replies in
    let fits = replayable.legal.each k call at in
    let given = run_gives (opening job.start) job.calls run.0 run.1 k call state at came in
    record {
      session = fits.session;
      stamp = fits.stamp;
      few = let within = slice_get_within job.calls k call at in omega (arith, within, replayable.legal.count);
      next = λ reply after gives. run_on (opening job.start) job.calls k call state after came at (given.1.0, gives.1);
    }
