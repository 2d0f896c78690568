-- Where each call waits for the commits before it, and each commit for every call before it: what is committed before a call.
use Rattle.std.proofs.Common.{◌≡◌, ◌∙◌, ℕ, ◌<◌, ◌≤◌, true, List, length, sym, subst, arith, ⊎_elim}
use Rattle.std.specs.Prelude.{◌↔◌, nat_le}
use Rattle.std.proofs.lemmas.Bool.{cases_order, and_from, and_parts, le-leb, leb-true}
use Rattle.std.proofs.lemmas.Option.{slice_get_within}
use Rattle.desk_values.specs.declared.call.Reply.{Reply}
use Rattle.desk_values.specs.declared.capture.Captured.{Captured}
use Rattle.desk_values.specs.declared.capture.Event.{Event}
use Rattle.replay_history.specs.declared.mode.Mode.TheVariants.{Scn}
use Rattle.replay_history.specs.Capture.{commits}
use Rattle.replay_history.specs.Gap.{IsCallAt}
use Rattle.replay_history.specs.History.{AnswersAt, IsAnsweredBefore}
use Rattle.object_depends.specs.Facts.{fact_at, is_commit}
use Rattle.object_depends.specs.Required.{has_seen}
use Rattle.object_depends.proofs.Sound.{awaited_required, required_before}
use Rattle.replay_job.specs.Job.{IsReplayable, JobView}
use Rattle.replay_job.specs.Runs.{IsLegalFor, Requires}
use Rattle.law_replays.specs.End.Answers.{FencesCommits, HasCommitsBefore}
use Rattle.law_replays.specs.End.Laws.{SeenCommitsAreAnswered}
use Rattle.law_replays.proofs.End.Written.{fences_wait, needs_all, needs_commit, numbered, numbered_fact, numbered_is, waits}

module _ (job : JobView) (history : List Event) (replayable : IsReplayable job) (legal : IsLegalFor job history) (may : FencesCommits job.mode) where
  needs : (m n : ℕ) → m < n → n < length job.calls → numbered job replayable m ≡ true → Requires job n m
  needs m n less within is = needs_commit job replayable (fences_wait job.mode may) m n less within is

  -- a numbered commit that is answered before a call stands before it
  lower_before : (i k m : ℕ) (other : Captured) (reply : Reply) → IsCallAt job.calls m other → AnswersAt history i k reply → numbered job replayable m ≡ true → IsAnsweredBefore history i m → m < k
  lower_before i k m other reply there e is before = ⊎_elim
      (λ same. absurd (omega (arith, before.2, legal.answers_once i before.0 k reply before.1 e (subst (λ (n : ℕ). AnswersAt history before.0 n before.1) same before.3))))
      (λ apart. ⊎_elim (λ less. less) (λ more. absurd (omega (arith, before.2, waits job history legal i before.0 k m reply before.1 e before.3 (needs_all job replayable may k m more (slice_get_within job.calls m other there) is)))) apart)
      (cases_order m k)

  -- and one that stands before it is answered before it
  before_lower : (i k m : ℕ) (call : Captured) (reply : Reply) → IsCallAt job.calls k call → AnswersAt history i k reply → numbered job replayable m ≡ true → m < k → IsAnsweredBefore history i m
  before_lower i k m call reply at e is less =
      let s = legal.answer_started i k reply e in
      let w = legal.required_waits s.0 k s.1 s.3 m (needs m k less (slice_get_within job.calls k call at) is) in
      (w.0, w.1, omega (arith, s.2, w.2), w.3)

  -- so the numbered commits that are answered before a call are those that stand before it
  pub before_answer : (i k : ℕ) (call : Captured) (reply : Reply) → IsCallAt job.calls k call → AnswersAt history i k reply → HasCommitsBefore job history i k
  before_answer i k call reply at e m other there writes =
      let is = numbered_is job replayable m other there ∙ writes in
      (λ before. lower_before i k m other reply there e is before, λ less. before_lower i k m call reply at e is less)

  -- a numbered commit stands before a call exactly where the call saw it
  stands_seen : (k m : ℕ) (call other : Captured) → IsCallAt job.calls k call → IsCallAt job.calls m other → numbered job replayable m ≡ true → (m < k) ↔ (other.number ≤ call.seen)
  stands_seen k m call other at there is =
      let within = slice_get_within job.calls k call at in
      let fact : is_commit (fact_at job.facts m) ≡ true = sym (numbered_fact job replayable m) ∙ is in
      let here = replayable.known.each k call at in
      let that = replayable.known.each m other there in
      let sound = replayable.known.sound in
      let lt : k < length job.facts = omega (arith, within, replayable.known.count) in (
        λ less.
            let seen : has_seen (fact_at job.facts k) (fact_at job.facts m) ≡ true = awaited_required Scn job.facts sound k m lt less fact in
            let saw = leb-true _ _ (and_parts (is_commit (fact_at job.facts m)) (nat_le (fact_at job.facts m).number (fact_at job.facts k).seen) seen).1 in
            omega (arith, saw, here.seen, that.number),
        λ le. required_before Scn job.facts sound k m lt (and_from (is_commit (fact_at job.facts m)) (nat_le (fact_at job.facts m).number (fact_at job.facts k).seen) fact (le-leb _ _ (omega (arith, le, here.seen, that.number)))),
      )

pub commits_seen : SeenCommitsAreAnswered
commits_seen job history replayable legal may i k m call other reply at there e writes =
    let before = before_answer job history replayable legal may i k call reply at e m other there writes in
    let seen = stands_seen job history replayable legal may k m call other at there (numbered_is job replayable m other there ∙ writes) in
    (λ answered. seen.0 (before.0 answered), λ le. before.1 (seen.1 le))
