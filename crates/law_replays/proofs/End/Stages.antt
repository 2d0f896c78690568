-- The stages that a replay of a job comes to.
use Rattle.std.proofs.Common.{◌≡◌, ℕ, zero, suc, List, [], ◌∷◌, ◌++◌, take, drop, refl, sym, ap, subst, ◌∙◌, append-nil, append_assoc}
use Rattle.std.specs.Prelude.{Some}
use Rattle.desk_values.specs.declared.call.Call.{Call}
use Rattle.desk_values.specs.declared.call.Reply.{Reply}
use Rattle.desk_values.specs.declared.capture.Captured.{Captured}
use Rattle.desk_values.specs.declared.capture.Event.{Event}
use Rattle.desk_values.specs.declared.capture.Event.TheVariants.{Start, Answer}
use Rattle.desk_schema.specs.Sound.{IsSoundStart}
use Rattle.desk_schema.specs.Start.{StartView}
use Rattle.server_words.specs.Sound.{HasSoundChanges, IsSoundState}
use Rattle.server_words.specs.State.{State, disconnected, opening}
use Rattle.server_words.specs.Step.{Gives}
use Rattle.server_words.proofs.Members.{each_repeated}
use Rattle.server_words.proofs.SoundRows.{sound_none}
use Rattle.server_words.proofs.SoundSteps.{step_sound}
use Rattle.std.proofs.lemmas.List.{length-replicate}
use Rattle.replay_history.specs.Capture.{IsRun}
use Rattle.replay_history.specs.Gap.{IsCallAt}
use Rattle.replay_history.specs.History.{IsTruthfulHistory}
use Rattle.id_pairs.specs.Pairs.{IdPair, learnt}
use Rattle.remap_ids.specs.Sent.{sent}
use Rattle.replay_job.specs.Job.{JobView}
use Rattle.replay_job.specs.Runs.{Executes, IsTruthfulFor, Stage, first_stage}
use Rattle.law_replays.specs.End.Answers.{IsAnsweredAt, IsReplay}
use Rattle.law_replays.proofs.End.Truth.{one_stage, step_at}

pub one_call : (calls : List Captured) (k : ℕ) (call other : Captured) → IsCallAt calls k call → IsCallAt calls k other → other ≡ call
one_call calls k call other e f = let is : Some call ≡ Some other = sym e ∙ f in cc

same_given : (state one other : State) (session : ℕ) (call : Call) (reply : Reply) → Gives state session call reply one → Gives state session call reply other → other ≡ one
same_given state one other session call reply g h = h.1 ∙ sym g.1

module _ (job : JobView) where
  -- executing a call leaves one stage
  pub one_execution : (s t u : Stage) (k : ℕ) (reply : Reply) → Executes job s k reply t → Executes job s k reply u → u ≡ t
  one_execution s t u k reply one other =
      let is = one_call job.calls k one.0 other.0 one.1 other.1 in
      let states = same_given s.state t.state u.state one.0.session (sent s.pairs job.remap one.0.call) reply one.2 (subst (λ (c : Captured). Gives s.state c.session (sent s.pairs job.remap c.call) reply u.state) is other.2) in
      let pairs : u.pairs ≡ t.pairs = other.3 ∙ ap (λ (c : Captured). s.pairs ++ learnt c.reply reply) is ∙ sym one.3 in
      λ i. record { state = states i; pairs = pairs i }

  pub one_end : (first : Stage) (events : List Event) (last other : Stage) → IsTruthfulHistory (Executes job) first events last → IsTruthfulHistory (Executes job) first events other → last ≡ other
  one_end = one_stage (Executes job) one_execution

  -- the pairs only become more
  pub more_pairs : (first : Stage) (events : List Event) (last : Stage) → IsTruthfulHistory (Executes job) first events last → (more : List IdPair) × (last.pairs ≡ first.pairs ++ more)
  more_pairs first [] last h = ([], ap (λ (s : Stage). s.pairs) (sym h) ∙ sym (append-nil first.pairs))
  more_pairs first (Start k pause ∷ events) last h = more_pairs first events last h
  more_pairs first (Answer k reply ∷ events) last h =
      let rest = more_pairs h.0 events last h.2 in
      let new = learnt h.1.0.reply reply in
      (new ++ rest.0, rest.1 ∙ ap (λ (pairs : List IdPair). pairs ++ rest.0) h.1.3 ∙ append_assoc first.pairs new rest.0)

  -- a sound server stays sound, and keeps its start
  pub stays_sound : (first : Stage) (events : List Event) (last : Stage) → IsTruthfulHistory (Executes job) first events last → IsSoundState first.state → IsSoundState last.state × (last.state.start ≡ first.state.start)
  stays_sound first [] last h sound = (subst (λ (s : Stage). IsSoundState s.state) h sound, ap (λ (s : Stage). s.state.start) (sym h))
  stays_sound first (Start k pause ∷ events) last h sound = stays_sound first events last h sound
  stays_sound first (Answer k reply ∷ events) last h sound =
      let is = h.1.2.1 in
      let call = sent first.pairs job.remap h.1.0.call in
      let rest = stays_sound h.0 events last h.2 (subst IsSoundState (sym is) (step_sound first.state h.1.0.session call sound)) in
      (rest.0, rest.1 ∙ ap (λ (s : State). s.start) is)

  -- the step that is made at the place of an answer
  pub record IsMade (history : List Event) (i k : ℕ) (call : Captured) (reply : Reply) (before after last : Stage) : Type 0 where
    pub given : Gives before.state call.session (sent before.pairs job.remap call.call) reply after.state
    pub pairs : after.pairs ≡ before.pairs ++ learnt call.reply reply
    pub rest : IsTruthfulHistory (Executes job) after (drop (suc i) history) last

  pub made : (history : List Event) (last : Stage) → IsTruthfulFor job history last → (i k : ℕ) (call : Captured) (reply : Reply) (before after : Stage) → IsAnsweredAt job history i k call reply before after → IsMade history i k call reply before after last
  made history last h i k call reply before after there =
      let s = step_at (Executes job) (first_stage job) history i k reply last there.answers h in
      let is = one_call job.calls k call s.step.0 there.is_call s.step.1 in
      let stood = one_end (first_stage job) (take i history) s.before before s.stood there.stood in
      let stands = one_end (first_stage job) (take (suc i) history) s.after after s.stands there.stands in
      let P : Stage → Stage → Captured → Type 0 = λ b a c. Gives b.state c.session (sent b.pairs job.remap c.call) reply a.state × (a.pairs ≡ b.pairs ++ learnt c.reply reply) in
      let done = subst (λ (c : Captured). P before after c) is (subst (λ (a : Stage). P before a s.step.0) stands (subst (λ (b : Stage). P b s.after s.step.0) stood (s.step.2, s.step.3))) in
      record { given = done.0; pairs = done.1; rest = subst (λ (a : Stage). IsTruthfulHistory (Executes job) a (drop (suc i) history) last) stands s.rest }

-- ---- the captured server

pub run_sound : (first : State) (calls : List Captured) (last : State) → IsRun Gives first calls last → IsSoundState first → IsSoundState last × (last.start ≡ first.start)
run_sound first [] last run sound = (subst IsSoundState run sound, ap (λ (s : State). s.start) (sym run))
run_sound first (call ∷ calls) last run sound =
    let is = run.1.1 in
    let rest = run_sound run.0 calls last run.2 (subst IsSoundState (sym is) (step_sound first call.session call.call sound)) in
    (rest.0, rest.1 ∙ ap (λ (s : State). s.start) is)

-- its reply to a call, at the state before it
pub run_gives : (first : State) (calls : List Captured) (last : State) → IsRun Gives first calls last → (k : ℕ) (call : Captured) (before : State) → IsCallAt calls k call → IsRun Gives first (take k calls) before → (after : State) × Gives before call.session call.call call.reply after
run_gives first [] last run k call before at stood = absurd cc
run_gives first (c ∷ calls) last run zero call before at stood =
    let is = one_call (c ∷ calls) 0 call c at refl in
    (run.0, subst (λ (s : State). Gives s call.session call.call call.reply run.0) stood (subst (λ (d : Captured). Gives first d.session d.call d.reply run.0) is run.1))
run_gives first (c ∷ calls) last run (suc k) call before at stood =
    run_gives stood.0 calls last (subst (λ (s : State). IsRun Gives s calls last) (same_given first stood.0 run.0 c.session c.call c.reply stood.1 run.1) run.2) k call before at stood.2

pub one_run : (first : State) (calls : List Captured) (last other : State) → IsRun Gives first calls last → IsRun Gives first calls other → last ≡ other
one_run first [] last other run more = sym run ∙ more
one_run first (c ∷ calls) last other run more =
    one_run run.0 calls last other run.2 (subst (λ (s : State). IsRun Gives s calls other) (same_given first run.0 more.0 c.session c.call c.reply run.1 more.1) more.2)

-- ---- sound jobs

pub opens_sound : (start : StartView) → IsSoundStart start → IsSoundState (opening start)
opens_sound start is = record { start = is; commits = tt; next_values = is.sound.sequences.counts; count = length-replicate 64 disconnected; sessions = each_repeated HasSoundChanges 64 disconnected (record { own = sound_none; kept = tt }) }

module _ (job : JobView) (history : List Event) (last : Stage) (replay : IsReplay job history last) where
  pub captured_sound : IsSoundState (opening job.start)
  captured_sound = opens_sound job.start replay.sound.replayable.sound

  pub replayed_sound : IsSoundState (opening job.target)
  replayed_sound = opens_sound job.target replay.sound.target
