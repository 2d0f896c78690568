-- A whole replay, event by event.
use Rattle.std.proofs.Common.{◌≡◌, ◌∙◌, ℕ, zero, suc, ◌<◌, List, [], ◌∷◌, ◌++◌, take, sym, ap, subst, arith}
use Rattle.desk_values.specs.declared.call.Reply.{Reply}
use Rattle.desk_values.specs.declared.capture.Captured.{Captured}
use Rattle.desk_values.specs.declared.capture.Event.{Event}
use Rattle.desk_values.specs.declared.capture.Event.TheVariants.{Start, Answer}
use Rattle.server_words.specs.State.{State}
use Rattle.replay_history.specs.History.{AnswersAt, IsAnswered, IsTruthfulHistory, StartsAt}
use Rattle.replay_history.specs.Limits.{call_limit}
use Rattle.id_pairs.specs.Pairs.{HasNoIdTwice, learnt}
use Rattle.replay_job.specs.Job.{JobView}
use Rattle.replay_job.specs.Runs.{Executes, Stage, first_stage}
use Rattle.law_replays.specs.End.Answers.{IsAnsweredAt, IsReplay}
use Rattle.law_replays.proofs.End.Ends.{answered_within, taken_at}
use Rattle.law_replays.proofs.End.Stages.{one_end}
use Rattle.law_replays.proofs.End.Truth.{step_at}
use Rattle.law_replays.proofs.End.Whole.{after_map, pairs_map, step_there}
use Rattle.replay_walk.specs.Walks.{AnswersAreSteps, StartsChangeNothing, answers_in}
use Rattle.replay_walk.proofs.Counts.{as_many, at_most, one_more}
use Rattle.replay_walk.proofs.Ids.{has_low_ids}

module _ (job : JobView) (history : List Event) (last : Stage) (replay : IsReplay job history last) where
  few_before : (n k : ℕ) (reply : Reply) → AnswersAt history n k reply → answers_in (take n history) < call_limit
  few_before n k reply e =
      let most = at_most _ (take (suc n) history)
      (λ i j m one other f g. replay.complete.legal.answers_once i j m one other (taken_at history (suc n) i _ f) (taken_at history (suc n) j _ g))
      (λ m there. answered_within job history last replay m (there.0, there.1, taken_at history (suc n) there.0 _ there.2)) in
      omega (arith, most, one_more history n k reply e, replay.sound.replayable.legal.count)

pub next_answer : AnswersAreSteps
next_answer job history last replay n k reply stage e stood =
    let is_map = pairs_map job history last replay in
    let s = step_at (Executes job) (first_stage job) history n k reply last e replay.complete.truthful in
    let call = s.step.0 in
    let there : IsAnsweredAt job history n k call reply stage s.after = record { is_call = s.step.1; answers = e; stood = stood; stands = s.stands } in
    let made = step_there job history last replay is_map n k call reply stage s.after there in (
      call,
      record {
        at = s.step.1;
        session = (replay.sound.replayable.legal.each k call s.step.1).session;
        low = has_low_ids job replay.sound.replayable k call s.step.1;
        few = few_before job history last replay n k reply e;
        new_ids = subst HasNoIdTwice made.pairs (after_map job history last replay is_map n k call reply stage s.after there).once;
        next = λ given state gives.
            let states : s.after.state ≡ state = made.given.1 ∙ sym gives.1 in
            let behind : Stage = record { state = state; pairs = stage.pairs ++ learnt call.reply reply } in
            let is : s.after ≡ behind = λ i. record { state = states i; pairs = made.pairs i } in
            subst (λ (t : Stage). IsAnsweredAt job history n k call reply stage t) is there;
        more = one_more history n k reply e;
      },
    )

stands_still : {S : Type 0} (does : S → ℕ → Reply → S → Type 0) (first : S) (history : List Event) (n k pause : ℕ) (stage : S) → StartsAt history n k pause
    → IsTruthfulHistory does first (take n history) stage → IsTruthfulHistory does first (take (suc n) history) stage
stands_still does first [] n k pause stage e stood = absurd cc
stands_still does first (Start j other ∷ events) zero k pause stage e stood = stood
stands_still does first (Start j other ∷ events) (suc n) k pause stage e stood = stands_still does first events n k pause stage e stood
stands_still does first (Answer j reply ∷ events) zero k pause stage e stood = absurd cc
stands_still does first (Answer j reply ∷ events) (suc n) k pause stage e stood = (stood.0, stood.1, stands_still does stood.0 events n k pause stage e stood.2)

pub no_answer : StartsChangeNothing
no_answer job history n k pause stage e stood = record {
  stands = stands_still (Executes job) (first_stage job) history n k pause stage e stood;
  as_many = as_many history n k pause e;
  none = λ m reply f. absurd (let same = sym e ∙ f in cc);
}
