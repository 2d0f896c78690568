-- What commits write, in the order of their answers.
use Rattle.std.proofs.Common.{◌≡◌, ℕ, zero, suc, ◌+◌, ◌<◌, Bool, true, false, if◌then◌else◌, ◌||◌, List, [], ◌∷◌, ◌++◌, length, Option, None, Some, refl, sym, ap, subst, ◌∙◌, append-nil, append_assoc, arith, ⊎_elim}
use Rattle.std.specs.Prelude.{slice_get}
use Rattle.std.specs.List.{filter}
use Rattle.std.proofs.lemmas.Bool.{cases_order, lt-ltb}
use Rattle.desk_values.specs.declared.value.Image.{Image}
use Rattle.desk_values.specs.declared.call.Outcome.{Outcome}
use Rattle.desk_values.specs.declared.call.Outcome.TheVariants.{Rows, Count, Committed, RolledBack, Marked, Connected, Disconnected, Refused}
use Rattle.desk_values.specs.declared.call.Reply.{Reply}
use Rattle.desk_values.specs.declared.capture.Captured.{Captured}
use Rattle.desk_values.specs.declared.capture.Event.{Event}
use Rattle.server_words.specs.State.{State}
use Rattle.server_words.specs.Step.{Gives, committed_in, reply_in, with_commit}
use Rattle.replay_history.specs.declared.mode.Mode.{Mode}
use Rattle.replay_history.specs.declared.mode.Mode.TheVariants.{Off, Scn, Object, Order, Fence}
use Rattle.replay_history.specs.Capture.{IsRun, commits, commits_before}
use Rattle.replay_history.specs.Gap.{IsCallAt}
use Rattle.replay_history.specs.History.{AnswersAt, IsAnswered}
use Rattle.object_depends.specs.declared.fact.Fact.{Fact}
use Rattle.object_depends.specs.Facts.{AreSound, fact_at, is_commit}
use Rattle.object_depends.specs.Required.{is_required}
use Rattle.object_depends.proofs.Sound.{awaited_required}
use Rattle.replay_job.specs.Job.{IsReplayable, JobView}
use Rattle.replay_job.specs.Runs.{IsLegalFor, Requires}
use Rattle.law_replays.specs.End.Answers.{FencesCommits, WaitsForCommits}
use Rattle.law_replays.proofs.End.Order.{IsInOrder, answered, recorded}

-- ---- order

module _ (job : JobView) (history : List Event) (legal : IsLegalFor job history) where
  -- what a call requires is answered before it
  pub waits : (i j m n : ℕ) (reply other : Reply) → AnswersAt history i m reply → AnswersAt history j n other → Requires job n m → i < j
  waits i j m n reply other e f needed =
      let s = legal.answer_started j n other f in
      let w = legal.required_waits s.0 n s.1 s.3 m needed in
      omega (arith, s.2, w.2, legal.answers_once i w.0 m reply w.1 e w.3)

  -- so those that each later call requires are answered in order
  pub in_order : (test : ℕ → Bool) → ((m n : ℕ) → m < n → IsAnswered history n → test m ≡ true → Requires job n m) → IsInOrder test history
  in_order test needs = record {
    rises = λ i j m n reply other e f s t lt. ⊎_elim
        (λ same. absurd (omega (arith, lt, legal.answers_once i j n reply other (subst (λ (k : ℕ). AnswersAt history i k reply) same e) f)))
        (λ apart. ⊎_elim (λ less. less) (λ more. absurd (omega (arith, lt, waits j i n m other reply f e (needs n m more (i, reply, e) t)))) apart)
        (cases_order m n);
  }

-- ---- numbered commits

waits_for : (mode : Mode) (facts : List Fact) → AreSound facts → WaitsForCommits mode → (n m : ℕ) → n < length facts → m < n → is_commit (fact_at facts m) ≡ true → is_required mode facts n m ≡ true
waits_for Off facts sound never n m within less is = absurd never
waits_for Scn facts sound may n m within less is = awaited_required Scn facts sound n m within less is
waits_for Object facts sound never n m within less is = absurd never
waits_for Order facts sound may n m within less is = awaited_required Order facts sound n m within less refl
waits_for Fence facts sound may n m within less is = awaited_required Fence facts sound n m within less (elim (is_commit (fact_at facts n)) as (λ b. (b || is_commit (fact_at facts m)) ≡ true) [ true ↦ refl | false ↦ is ])

-- where commits are fenced each call waits for the commits before it, and each commit for every call before it
pub fences_wait : (mode : Mode) → FencesCommits mode → WaitsForCommits mode
fences_wait Off never = absurd never
fences_wait Scn never = absurd never
fences_wait Object never = absurd never
fences_wait Order may = tt
fences_wait Fence may = tt

fences_all : (mode : Mode) (facts : List Fact) → AreSound facts → FencesCommits mode → (n m : ℕ) → n < length facts → m < n → is_commit (fact_at facts n) ≡ true → is_required mode facts n m ≡ true
fences_all Off facts sound never n m within less is = absurd never
fences_all Scn facts sound never n m within less is = absurd never
fences_all Object facts sound never n m within less is = absurd never
fences_all Order facts sound may n m within less is = awaited_required Order facts sound n m within less refl
fences_all Fence facts sound may n m within less is = awaited_required Fence facts sound n m within less (rw is refl)

module _ (job : JobView) (replayable : IsReplayable job) where
  pub numbered : ℕ → Bool
  numbered k = is_commit (fact_at job.facts k)

  pub numbered_fact : (k : ℕ) → numbered k ≡ is_commit (fact_at job.facts k)
  unfolding numbered
  numbered_fact k = refl

  -- the facts tell which calls are numbered commits
  pub numbered_is : (k : ℕ) (call : Captured) → IsCallAt job.calls k call → numbered k ≡ commits call.reply.outcome
  unfolding numbered
  numbered_is k call at =
      let number = (replayable.known.each k call at).number ∙ (replayable.legal.each k call at).number in
      elim (commits call.reply.outcome) as (λ b. (fact_at job.facts k).number ≡ (if b then commits_before job.calls k + 1 else 0) → numbered k ≡ b) [
        | true ↦ λ e. lt-ltb 0 _ (omega (arith, e))
        | false ↦ λ e. rw e refl
      ] number

  pub needs_commit : WaitsForCommits job.mode → (m n : ℕ) → m < n → n < length job.calls → numbered m ≡ true → Requires job n m
  unfolding numbered
  needs_commit may m n less within is = waits_for job.mode job.facts replayable.known.sound may n m (omega (arith, within, replayable.known.count)) less is

  pub needs_all : FencesCommits job.mode → (m n : ℕ) → m < n → n < length job.calls → numbered n ≡ true → Requires job n m
  unfolding numbered
  needs_all may m n less within is = fences_all job.mode job.facts replayable.known.sound may n m (omega (arith, within, replayable.known.count)) less is

-- ---- what is written

abbrev pub written : Outcome → List (List Image)
written outcome = with_commit [] (committed_in outcome)

with_written : (commits : List (List Image)) (images : List Image) → with_commit commits images ≡ commits ++ with_commit [] images
with_written commits [] = sym (append-nil commits)
with_written commits (image ∷ images) = refl

pub step_writes : (old : State) (session : ℕ) (call : _) (reply : Reply) (new : State) → Gives old session call reply new → new.commits ≡ old.commits ++ written reply.outcome
step_writes old session call reply new given =
    ap (λ (s : State). s.commits) given.1 ∙ with_written old.commits (committed_in (reply_in old session call).outcome) ∙ ap (λ (r : Reply). old.commits ++ written r.outcome) (sym given.0)

writes_none : (outcome : Outcome) → commits outcome ≡ false → written outcome ≡ []
writes_none (Committed (image ∷ images)) e = absurd cc
writes_none (Committed []) e = refl
writes_none (Rows rows) e = refl
writes_none (Count n) e = refl
writes_none RolledBack e = refl
writes_none Marked e = refl
writes_none Connected e = refl
writes_none Disconnected e = refl
writes_none (Refused fault) e = refl

module _ (calls : List Captured) where
  abbrev pub written_of : Option Captured → List (List Image)
  written_of None = []
  written_of (Some call) = written call.reply.outcome

  -- what the captured calls with these stamps wrote
  abbrev pub written_by : List ℕ → List (List Image)
  written_by [] = []
  written_by (k ∷ ks) = written_of (slice_get calls k) ++ written_by ks

  -- only numbered commits write
  pub writers : (test : ℕ → Bool) → ((k : ℕ) (call : Captured) → IsCallAt calls k call → test k ≡ commits call.reply.outcome) → (ks : List ℕ) → written_by (filter test ks) ≡ written_by ks
  writers test is [] = refl
  writers test is (k ∷ ks) = elim (test k) as (λ b. test k ≡ b → written_by (if b then k ∷ filter test ks else filter test ks) ≡ written_by (k ∷ ks)) [
    | true ↦ λ is_so. ap (λ l. written_of (slice_get calls k) ++ l) (writers test is ks)
    | false ↦ λ isnt. writers test is ks ∙ ap (λ l. l ++ written_by ks) (sym (none k isnt (slice_get calls k) refl))
  ] refl
    where
      none : (j : ℕ) → test j ≡ false → (o : Option Captured) → slice_get calls j ≡ o → written_of o ≡ []
      none j isnt None e = refl
      none j isnt (Some call) e = writes_none call.reply.outcome (sym (is j call e) ∙ isnt)

  -- the captured server's commits are what its calls wrote
  pub run_writes : (rest : List Captured) (k : ℕ) (first last : State) → ((i j : ℕ) (call : Captured) → j ≡ k + i → IsCallAt rest i call → IsCallAt calls j call) → IsRun Gives first rest last → last.commits ≡ first.commits ++ written_by (answered (recorded k rest))
  run_writes [] k first last within run = ap (λ (s : State). s.commits) (sym run) ∙ sym (append-nil first.commits)
  run_writes (c ∷ rest) k first last within run =
      let here : slice_get calls k ≡ Some c = within 0 k c (omega arith) refl in
      let later = run_writes rest (suc k) run.0 last (λ i j call e at. within (suc i) j call (omega (arith, e)) at) run.2 in
      let others = written_by (answered (recorded (suc k) rest)) in
      later ∙ ap (λ l. l ++ others) (step_writes first c.session c.call c.reply run.0 run.1) ∙ append_assoc first.commits (written c.reply.outcome) others ∙ ap (λ (o : Option Captured). first.commits ++ (written_of o ++ others)) (sym here)

-- ---- the captured order of stamps

module _ (calls : List Captured) where
  pub recorded_at : (k : ℕ) (rest : List Captured) (i n : ℕ) (reply : Reply) → AnswersAt (recorded k rest) i n reply → (n ≡ k + i) × (i < length rest)
  recorded_at k [] i n reply e = absurd cc
  recorded_at k (c ∷ rest) zero n reply e = let same : n ≡ k = cc in (omega (arith, same), omega arith)
  recorded_at k (c ∷ rest) (suc i) n reply e = let t = recorded_at (suc k) rest i n reply e in (omega (arith, t.0), omega (arith, t.1))

  -- and it is the captured call's
  pub recorded_call : (k : ℕ) (rest : List Captured) (i n : ℕ) (reply : Reply) → AnswersAt (recorded k rest) i n reply → (call : Captured) × IsCallAt rest i call
  recorded_call k [] i n reply e = absurd cc
  recorded_call k (c ∷ rest) zero n reply e = (c, refl)
  recorded_call k (c ∷ rest) (suc i) n reply e = recorded_call (suc k) rest i n reply e

  pub at_recorded : (k : ℕ) (rest : List Captured) (i : ℕ) → i < length rest → (n : ℕ) → n ≡ k + i → IsAnswered (recorded k rest) n
  at_recorded k [] i within n e = absurd (omega (arith, within))
  at_recorded k (c ∷ rest) zero within n e = let same : k ≡ n = omega (arith, e) in subst (λ (j : ℕ). IsAnswered (recorded k (c ∷ rest)) j) same (0, c.reply, refl)
  at_recorded k (c ∷ rest) (suc i) within n e = let t = at_recorded (suc k) rest i (omega (arith, within)) n (omega (arith, e)) in (suc t.0, t.1, t.2)

  pub recorded_in_order : (test : ℕ → Bool) → IsInOrder test (recorded 0 calls)
  recorded_in_order test = record { rises = λ i j m n reply other e f s t lt. omega (arith, lt, (recorded_at 0 calls i m reply e).0, (recorded_at 0 calls j n other f).0) }
