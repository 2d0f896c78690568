-- The tables of a replay up to a place before which there was no write divergence.
use Rattle.std.proofs.Common.{◌≡◌, ℕ, zero, suc, ◌+◌, ◌<◌, Bool, true, false, List, [], ◌∷◌, ◌++◌, take, drop, length, slice_get, Some, sym, ap, subst, ◌∙◌, arith, append-nil, append_assoc}
use Rattle.std.specs.List.{AllByRecursion, AllZip, Contains}
use Rattle.std.proofs.lemmas.List.{take_all}
use Rattle.std.proofs.lemmas.Option.{slice_get_within}
use Rattle.desk_values.specs.declared.value.Image.{Image}
use Rattle.desk_values.specs.declared.call.Call.{Call}
use Rattle.desk_values.specs.declared.call.Outcome.{Outcome}
use Rattle.desk_values.specs.declared.call.Outcome.TheVariants.{Committed}
use Rattle.desk_values.specs.declared.call.Reply.{Reply}
use Rattle.desk_values.specs.declared.capture.Captured.{Captured}
use Rattle.desk_values.specs.declared.capture.Event.{Event}
use Rattle.desk_values.specs.declared.capture.Event.TheVariants.{Start, Answer}
use Rattle.desk_values.specs.Good.{IsShapedOutcome}
use Rattle.desk_schema.specs.Start.{StartView}
use Rattle.server_words.specs.Rows.{IsRising, lay_all}
use Rattle.server_words.specs.Sound.{AreSound, IsSoundState}
use Rattle.server_words.specs.State.{State, opening}
use Rattle.server_words.specs.Step.{Gives, committed_in}
use Rattle.server_words.proofs.Members.{each_weaker}
use Rattle.server_words.proofs.SoundRows.{ascending_rises}
use Rattle.server_words.proofs.SoundSteps.{reply_shaped, step_sound, tables_stand}
use Rattle.replay_history.specs.Capture.{IsRun, commits}
use Rattle.replay_history.specs.Gap.{IsCallAt}
use Rattle.replay_history.specs.History.{IsAnswered, IsAnsweredBefore, IsTruthfulHistory}
use Rattle.id_pairs.specs.Pairs.{IdPair, IsIdMap}
use Rattle.remap_ids.specs.Sent.{sent}
use Rattle.law_server.specs.Rows.Images.{IsRenamedImage}
use Rattle.law_server.specs.Renaming.Twins.{AreSets}
use Rattle.law_server.proofs.Renaming.Rising.{rising_bags}
use Rattle.divergence.specs.Class.{is_write_divergence}
use Rattle.replay_job.specs.Job.{JobView}
use Rattle.replay_job.specs.Runs.{Executes, IsTruthfulFor, Stage, end_tables, first_stage}
use Rattle.replay_job.specs.Replays.{IsSoundJob}
use Rattle.law_replays.specs.End.Answers.{HasCommitsBefore, HasNoWriteDivergence, IsReplay, WaitsForCommits}
use Rattle.law_replays.specs.End.Tables.{AreCarried}
use Rattle.law_replays.specs.End.Twins.{CameBefore}
use Rattle.law_replays.proofs.End.Truth.{Both, split_at, step_at, with_each, without}
use Rattle.law_replays.proofs.End.Stages.{more_pairs, one_end, opens_sound, run_sound, stays_sound}
use Rattle.law_replays.proofs.End.Order.{IsInOrder, answered, recorded, same_order, tested}
use Rattle.law_replays.proofs.End.Written.{at_recorded, in_order, needs_commit, numbered, numbered_is, recorded_at, recorded_call, recorded_in_order, run_writes, step_writes, writers, written, written_by, written_of}
use Rattle.law_replays.proofs.End.Longer.{image_longer, map_before, zipped_longer}
use Rattle.law_replays.proofs.End.Own.{own_rows}
use Rattle.law_ids.proofs.Replays.Starts.{each_in}
use Rattle.law_replays.proofs.End.Laid.{sets_laid_all}
use Rattle.law_replays.proofs.End.Classes.{quiet_written}

-- ---- what is committed rises

pub rises : (outcome : Outcome) → IsShapedOutcome outcome → IsRising (committed_in outcome)
rises (Committed images) shaped = ascending_rises images shaped.1
rises other shaped = tt

pub reply_rises : (state next : State) (session : ℕ) (call : Call) (reply : Reply) → IsSoundState state → Gives state session call reply next → IsRising (committed_in reply.outcome)
reply_rises state next session call reply sound given = subst (λ (r : Reply). IsRising (committed_in r.outcome)) (sym given.0) (rises _ (reply_shaped state session call sound).outcome)

pub run_rises : (first : State) (calls : List Captured) (last : State) → IsRun Gives first calls last → IsSoundState first → (k : ℕ) (call : Captured) → IsCallAt calls k call → IsRising (committed_in call.reply.outcome)
run_rises first [] last run sound k call at = absurd cc
run_rises first (c ∷ calls) last run sound zero call at = let same : c ≡ call = cc in subst (λ (d : Captured). IsRising (committed_in d.reply.outcome)) same (reply_rises first run.0 c.session c.call c.reply sound run.1)
run_rises first (c ∷ calls) last run sound (suc k) call at = run_rises run.0 calls last run.2 (subst IsSoundState (sym run.1.1) (step_sound first c.session c.call sound)) k call at

pub commits_rise : (state : State) → IsSoundState state → AllByRecursion IsRising state.commits
commits_rise state sound = each_weaker AreSound IsRising (λ images are. are.rising) state.commits sound.commits

zipped_join : {A B : Type 0} (R : A → B → Type 0) (xs : List A) (ys : List B) (us : List A) (vs : List B) → AllZip R xs ys → AllZip R us vs → AllZip R (xs ++ us) (ys ++ vs)
zipped_join R [] [] us vs z w = w
zipped_join R (x ∷ xs) (y ∷ ys) us vs z w = (z.0, zipped_join R xs ys us vs z.1 w)
zipped_join R [] (y ∷ ys) us vs z w = absurd z
zipped_join R (x ∷ xs) [] us vs z w = absurd z

-- ---- what the replay commits

module _ (job : JobView) where
  -- the call is no write divergence
  abbrev IsQuiet : Stage → ℕ → Reply → Stage → Type 0
  IsQuiet before k reply after = (call : Captured) → IsCallAt job.calls k call → is_write_divergence after.pairs call.reply reply ≡ false

  -- what is committed from one stage to another: what the captured calls wrote, renamed
  record Commits (first last : Stage) (events : List Event) : Type 0 where
    added : List (List Image)
    are : last.state.commits ≡ first.state.commits ++ added
    renamed : AllZip (AreSets (IsRenamedImage last.pairs)) (written_by job.calls (answered events)) added

  -- every captured call wrote in order
  abbrev AllRise : Type 0
  AllRise = (k : ℕ) (call : Captured) → IsCallAt job.calls k call → IsRising (committed_in call.reply.outcome)

  replay_commits : AllRise → (events : List Event) (first last : Stage) → IsTruthfulHistory (Both (Executes job) IsQuiet) first events last → IsSoundState first.state → IsIdMap last.pairs → Commits first last events
  replay_commits up [] first last h sound is_map = record { added = []; are = ap (λ (s : Stage). s.state.commits) (sym h) ∙ sym (append-nil first.state.commits); renamed = tt }
  replay_commits up (Start k pause ∷ events) first last h sound is_map = let t = replay_commits up events first last h sound is_map in record { added = t.added; are = t.are; renamed = t.renamed }
  replay_commits up (Answer k reply ∷ events) first last h sound is_map =
      let next = h.0 in
      let done = h.1.0 in
      let call = done.0 in
      let more = more_pairs job next events last (without (Executes job) IsQuiet next events last h.2) in
      let next_map = map_before next.pairs more.0 (subst IsIdMap more.1 is_map) in
      let sent_call = sent first.pairs job.remap call.call in
      let one = quiet_written next.pairs next_map call.reply reply (h.1.1 call done.1) (up k call done.1) (reply_rises first.state next.state call.session sent_call reply sound done.2) in
      let longer = subst (λ (pairs : List IdPair). AllZip (AreSets (IsRenamedImage pairs)) (written call.reply.outcome) (written reply.outcome)) (sym more.1) (zipped_longer next.pairs more.0 (written call.reply.outcome) (written reply.outcome) one) in
      let here = subst (λ o. AllZip (AreSets (IsRenamedImage last.pairs)) (written_of job.calls o) (written reply.outcome)) (sym done.1) longer in
      let rest = replay_commits up events next last h.2 (subst IsSoundState (sym done.2.1) (step_sound first.state call.session sent_call sound)) is_map in
      record {
        added = written reply.outcome ++ rest.added;
        are = rest.are ∙ ap (λ l. l ++ rest.added) (step_writes first.state call.session sent_call reply next.state done.2) ∙ append_assoc first.state.commits (written reply.outcome) rest.added;
        renamed = zipped_join (AreSets (IsRenamedImage last.pairs)) _ _ _ _ here rest.renamed;
      }

-- ---- what stands before a place

pub taken_at : {A : Type 0} (xs : List A) (n i : ℕ) (x : A) → slice_get (take n xs) i ≡ Some x → slice_get xs i ≡ Some x
taken_at xs zero i x at = absurd cc
taken_at [] (suc n) i x at = absurd cc
taken_at (c ∷ xs) (suc n) zero x at = at
taken_at (c ∷ xs) (suc n) (suc i) x at = taken_at xs n i x at

pub within_taken : {A : Type 0} (xs : List A) (n i : ℕ) (x : A) → slice_get (take n xs) i ≡ Some x → i < n
within_taken xs zero i x at = absurd cc
within_taken [] (suc n) i x at = absurd cc
within_taken (c ∷ xs) (suc n) zero x at = omega arith
within_taken (c ∷ xs) (suc n) (suc i) x at = omega (arith, within_taken xs n i x at)

pub at_taken : {A : Type 0} (xs : List A) (n i : ℕ) (x : A) → i < n → slice_get xs i ≡ Some x → slice_get (take n xs) i ≡ Some x
at_taken xs zero i x less at = absurd (omega (arith, less))
at_taken [] (suc n) i x less at = absurd cc
at_taken (c ∷ xs) (suc n) zero x less at = at
at_taken (c ∷ xs) (suc n) (suc i) x less at = at_taken xs n i x (omega (arith, less)) at

pub taken_before : (history : List Event) (i k : ℕ) → IsAnswered (take i history) k → IsAnsweredBefore history i k
taken_before history i k there = (there.0, there.1, within_taken history i there.0 _ there.2, taken_at history i there.0 _ there.2)

pub before_taken : (history : List Event) (i k : ℕ) → IsAnsweredBefore history i k → IsAnswered (take i history) k
before_taken history i k there = (there.0, there.1, at_taken history i there.0 _ there.2 there.3)

-- ---- the tables there

module _ (job : JobView) (sound : IsSoundJob job) (events : List Event) (stage : Stage) (truthful : IsTruthfulFor job events stage) (quiet : HasNoWriteDivergence job events) (is_map : IsIdMap stage.pairs) (n : ℕ) (captured : State) (came : CameBefore job n captured) where
  abbrev test : ℕ → Bool
  test = numbered job sound.replayable

  starts_sound : IsSoundState (opening job.start)
  starts_sound = opens_sound job.start sound.replayable.sound

  targets_sound : IsSoundState (opening job.target)
  targets_sound = opens_sound job.target sound.target

  pub start_rows : AreSets (IsRenamedImage stage.pairs) job.start.rows job.target.rows
  start_rows =
      let more = more_pairs job (first_stage job) events stage truthful in
      let own : (x : Image) → Contains job.start.rows x → IsRenamedImage stage.pairs x x = λ x c. subst (λ (pairs : List IdPair). IsRenamedImage pairs x x) (sym more.1) (image_longer (first_stage job).pairs more.0 x x (each_in _ job.start.rows (own_rows job.start) x c)) in
      subst (AreSets (IsRenamedImage stage.pairs) job.start.rows) (sym sound.replayable.target.rows) (record { forth = λ x c. (x, c, own x c); back = λ x c. (x, c, own x c) })

  all_tables : (state : State) (start : StartView) → state.start ≡ start → end_tables state ≡ lay_all start.rows state.commits
  all_tables state start e = ap (λ (s : StartView). lay_all s.rows (take (length state.commits) state.commits)) e ∙ ap (lay_all start.rows) (take_all (length state.commits) state.commits (omega arith))

  module _ (same : tested test events ≡ tested test (recorded 0 (take n job.calls))) where
    -- the captured server committed what the calls with the answered stamps wrote
    captured_commits : captured.commits ≡ written_by job.calls (answered events)
    captured_commits =
        let is = numbered_is job sound.replayable in
        run_writes job.calls (take n job.calls) 0 (opening job.start) captured (λ i j call e at. subst (λ (m : ℕ). IsCallAt job.calls m call) (omega (arith, e)) (taken_at job.calls n i call at)) came
        ∙ sym (writers job.calls test is (answered (recorded 0 (take n job.calls)))) ∙ ap (written_by job.calls) (sym same) ∙ writers job.calls test is (answered events)

    replayed_commits : Commits job (first_stage job) stage events
    replayed_commits = replay_commits job (run_rises (opening job.start) job.calls sound.replayable.legal.replies.0 sound.replayable.legal.replies.1 starts_sound) events (first_stage job) stage
        (with_each (Executes job) (IsQuiet job) (first_stage job) events stage truthful
        (λ i k reply before after e stood stands call at. quiet i k call reply before after (record { is_call = at; answers = e; stood = stood; stands = stands })))
        targets_sound is_map

    pub commits_renamed : AllZip (AreSets (IsRenamedImage stage.pairs)) captured.commits stage.state.commits
    commits_renamed = subst (λ l. AllZip (AreSets (IsRenamedImage stage.pairs)) l stage.state.commits) (sym captured_commits) (subst (AllZip (AreSets (IsRenamedImage stage.pairs)) (written_by job.calls (answered events))) (sym replayed_commits.are) replayed_commits.renamed)

    pub tables_carried : AreCarried stage.pairs (end_tables captured) (end_tables stage.state)
    tables_carried =
        let one = run_sound (opening job.start) (take n job.calls) captured came starts_sound in
        let other = stays_sound job (first_stage job) events stage truthful targets_sound in
        let start_up = (tables_stand (opening job.start) 0 starts_sound).rising in
        let target_up = (tables_stand (opening job.target) 0 targets_sound).rising in
        let sets = sets_laid_all stage.pairs is_map.once captured.commits stage.state.commits (commits_rise captured one.0) (commits_rise stage.state other.0) commits_renamed job.start.rows job.target.rows start_up target_up start_rows in
        let R = AreSets (IsRenamedImage stage.pairs) in
        let carried = subst (λ l. R l (end_tables stage.state)) (sym (all_tables captured job.start one.1)) (subst (R (lay_all job.start.rows captured.commits)) (sym (all_tables stage.state job.target other.1)) sets) in
        let up = (tables_stand captured (length captured.commits) one.0).rising in
        let also = (tables_stand stage.state (length stage.state.commits) other.0).rising in
        record { rows = rising_bags stage.pairs is_map.once (end_tables captured) (end_tables stage.state) up also carried; ascending = also }

-- ---- a replay

module _ (job : JobView) (history : List Event) (last : Stage) (replay : IsReplay job history last) where
  pub call_of : (k : ℕ) → IsAnswered history k → (call : Captured) × IsCallAt job.calls k call
  call_of k there = let s = step_at (Executes job) (first_stage job) history there.0 k there.1 last there.2 replay.complete.truthful in (s.step.0, s.step.1)

  pub answered_within : (k : ℕ) → IsAnswered history k → k < length job.calls
  answered_within k there = let c = call_of k there in slice_get_within job.calls k c.0 c.1

  pub in_recorded : (k : ℕ) → IsAnswered history k → IsAnswered (recorded 0 job.calls) k
  in_recorded k there = at_recorded job.calls 0 job.calls k (answered_within k there) k (omega arith)

  pub of_recorded : (k : ℕ) → IsAnswered (recorded 0 job.calls) k → IsAnswered history k
  of_recorded k there = let t = recorded_at job.calls 0 job.calls there.0 k there.1 there.2 in replay.complete.whole k (omega (arith, t.0, t.1))

  -- at the end just the commits of all calls are answered
  pub all_before : HasCommitsBefore job history (length history) (length job.calls)
  all_before m call at writes = (
    λ before. slice_get_within job.calls m call at,
    λ less. let there = replay.complete.whole m less in (there.0, there.1, slice_get_within history there.0 _ there.2, there.2),
  )

  module _ (waits : WaitsForCommits job.mode) (i n : ℕ) (before : HasCommitsBefore job history i n) where
    abbrev chosen : ℕ → Bool
    chosen = numbered job replay.sound.replayable

    -- the numbered commits stand before the place as in the capture before the stamp
    pub commits_in_order : tested chosen (take i history) ≡ tested chosen (recorded 0 (take n job.calls))
    commits_in_order =
        let is = numbered_is job replay.sound.replayable in
        let calls = take n job.calls in
        let whole = in_order job history replay.complete.legal chosen (λ m k less there t. needs_commit job replay.sound.replayable waits m k less (answered_within k there) t) in
        let part : IsInOrder chosen (take i history) = record { rises = λ a b m k r o f g s t lt. whole.rises a b m k r o (taken_at history i a _ f) (taken_at history i b _ g) s t lt } in
        same_order chosen (take i history) (recorded 0 calls) part (recorded_in_order calls chosen)
        (λ m there t.
        let c = call_of m (there.0, there.1, taken_at history i there.0 _ there.2) in
        let less = (before m c.0 c.1 (sym (is m c.0 c.1) ∙ t)).0 (taken_before history i m there) in
        at_recorded calls 0 calls m (slice_get_within calls m c.0 (at_taken job.calls n m c.0 less c.1)) m (omega arith))
        (λ m there t.
        let r = recorded_at calls 0 calls there.0 m there.1 there.2 in
        let c = recorded_call calls 0 calls there.0 m there.1 there.2 in
        let here : IsCallAt calls m c.0 = subst (λ (j : ℕ). IsCallAt calls j c.0) (omega (arith, r.0)) c.1 in
        let at = taken_at job.calls n m c.0 here in
        before_taken history i m ((before m c.0 at (sym (is m c.0 at) ∙ t)).1 (within_taken job.calls n m c.0 here)))

    module _ (is_map : IsIdMap last.pairs) (stage : Stage) (stood : IsTruthfulFor job (take i history) stage) where
      pub stage_map : IsIdMap stage.pairs
      stage_map =
          let s = split_at (Executes job) (first_stage job) history i last replay.complete.truthful in
          let more = more_pairs job s.0 (drop i history) last s.2 in
          subst (λ (t : Stage). IsIdMap t.pairs) (one_end job (first_stage job) (take i history) s.0 stage s.1 stood) (map_before s.0.pairs more.0 (subst IsIdMap more.1 is_map))

      pub part_carried : HasNoWriteDivergence job (take i history) → (captured : State) → CameBefore job n captured → AreCarried stage.pairs (end_tables captured) (end_tables stage.state)
      part_carried quiet captured came = tables_carried job replay.sound (take i history) stage stood quiet stage_map n captured came commits_in_order
