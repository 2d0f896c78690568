-- The laws, of whole replays.
use Rattle.std.proofs.Common.{◌≡◌, ℕ, suc, ◌<◌, Bool, true, List, [], ◌∷◌, ◌++◌, take, drop, length, refl, sym, ap, subst, ◌∙◌, arith}
use Rattle.std.specs.List.{filter}
use Rattle.std.proofs.lemmas.Bool.{lt-ltb}
use Rattle.std.proofs.lemmas.List.{take_all}
use Rattle.std.proofs.lemmas.Option.{slice_get_within}
use Rattle.desk_values.specs.declared.call.Reply.{Reply}
use Rattle.desk_values.specs.declared.capture.Captured.{Captured}
use Rattle.desk_values.specs.declared.capture.Event.{Event}
use Rattle.desk_schema.specs.Schema.{SchemaView}
use Rattle.desk_schema.specs.Start.{StartView}
use Rattle.server_words.specs.Sound.{IsSoundState}
use Rattle.server_words.specs.State.{State, opening}
use Rattle.server_words.specs.Step.{Gives, committed_in, reply_in}
use Rattle.server_words.specs.Rows.{IsRising}
use Rattle.replay_history.specs.declared.mode.Mode.{Mode}
use Rattle.replay_history.specs.declared.mode.Mode.TheVariants.{Order}
use Rattle.replay_history.specs.declared.report.Class.TheVariants.{Same}
use Rattle.replay_history.specs.Capture.{IsRun}
use Rattle.replay_history.specs.Gap.{IsCallAt}
use Rattle.replay_history.specs.History.{IsTruthfulHistory}
use Rattle.object_depends.specs.Required.{is_required}
use Rattle.id_pairs.specs.Pairs.{HasNoIdTwice, IdPair, IsIdMap, learnt}
use Rattle.remap_ids.specs.IdMap.{start_pairs}
use Rattle.remap_ids.specs.Sent.{sent}
use Rattle.law_server.specs.Renaming.Replies.{IsRenamedOutcome, IsRenamedReply}
use Rattle.law_server.specs.Renaming.Twins.{AreTwinCalls}
use Rattle.law_server.proofs.Renaming.Answering.{replies_renamed}
use Rattle.replay_job.specs.Job.{JobView}
use Rattle.replay_job.specs.Runs.{Executes, IsTruthfulFor, Stage, first_stage}
use Rattle.law_replays.specs.End.Answers.{HasNoWriteDivergence, IsAgain, IsAnsweredAt, IsReplay, class_after}
use Rattle.law_replays.specs.End.Tables.{CameTo}
use Rattle.law_replays.specs.End.Twins.{CameBefore, IsTwinCall}
use Rattle.law_replays.specs.End.Laws.{AgainIsAsCaptured, CapturedStatesAreOne, CommitsKeepTheirOrder, EachIsAnsweredOnce, EndTablesAreCarried, IsAsCaptured, OnlyCallsAreAnswered, StagesAreOne, TablesSoFarAreCarried, TablesBeforeAreCarried, TwinCallsAreSame}
use Rattle.law_replays.proofs.End.Truth.{Both, step_at, without}
use Rattle.law_replays.proofs.End.Stages.{IsMade, captured_sound, made, more_pairs, one_end, one_run, replayed_sound, run_gives, run_sound, stays_sound}
use Rattle.law_replays.proofs.End.Order.{answered, recorded, same_order}
use Rattle.law_replays.proofs.End.Written.{fences_wait, in_order, needs_commit, numbered_is, recorded_in_order, waits}
use Rattle.law_replays.proofs.End.Longer.{map_before}
use Rattle.law_replays.proofs.End.Classes.{renamed_same}
use Rattle.law_replays.proofs.End.Ends.{all_before, in_recorded, of_recorded, part_carried, reply_rises}
use Rattle.law_replays.proofs.End.Seen.{before_answer}
use Rattle.law_ids.proofs.Replays.Pairs.{one_to_one}
use Rattle.law_replays.proofs.End.Again.{IsAsWas, StandsOwn, all_again, first_own}

-- ---- answers

pub each_once : EachIsAnsweredOnce
each_once job history last complete k call at =
    let there = complete.whole k (slice_get_within job.calls k call at) in
    let s = step_at (Executes job) (first_stage job) history there.0 k there.1 last there.2 complete.truthful in
    record {
      place = there.0;
      reply = there.1;
      before = s.before;
      after = s.after;
      there = record { is_call = at; answers = there.2; stood = s.stood; stands = s.stands };
      nowhere_else = λ i other e. complete.legal.answers_once i there.0 k other there.1 e there.2;
    }

pub only_calls : OnlyCallsAreAnswered
only_calls job history last truthful i k reply e = let s = step_at (Executes job) (first_stage job) history i k reply last e truthful in (s.step.0, s.step.1)

pub stages_one : StagesAreOne
stages_one job history stage other one two = one_end job (first_stage job) history stage other one two

pub captured_one : CapturedStatesAreOne
captured_one job state other one two = one_run (opening job.start) job.calls state other one two

-- ---- commits

pub commits_ordered : CommitsKeepTheirOrder
commits_ordered job history replayable legal may i j m n call other reply answer at there writes also e f less =
    waits job history legal i j m n reply answer e f (needs_commit job replayable may m n less (slice_get_within job.calls n other there) (numbered_is job replayable m call at ∙ writes))

-- ---- stages in between

module _ (job : JobView) (history : List Event) (last : Stage) (replay : IsReplay job history last) (is_map : IsIdMap last.pairs) (i k : ℕ) (call : Captured) (reply : Reply) (before after : Stage) (there : IsAnsweredAt job history i k call reply before after) where
  pub step_there : IsMade job history i k call reply before after last
  step_there = made job history last replay.complete.truthful i k call reply before after there

  pub after_map : IsIdMap after.pairs
  after_map = let more = more_pairs job after (drop (suc i) history) last step_there.rest in map_before after.pairs more.0 (subst IsIdMap more.1 is_map)

  pub before_map : IsIdMap before.pairs
  before_map = map_before before.pairs (learnt call.reply reply) (subst IsIdMap step_there.pairs after_map)

  pub before_sound : IsSoundState before.state × (before.state.start ≡ job.target)
  before_sound = stays_sound job (first_stage job) (take i history) before there.stood (replayed_sound job history last replay)

  pub answer_rises : IsRising (committed_in reply.outcome)
  answer_rises = reply_rises before.state after.state call.session (sent before.pairs job.remap call.call) reply before_sound.0 step_there.given

  -- ---- twins

  twin_same : job.target.schema ≡ job.start.schema → (captured : State) → CameBefore job k captured → IsTwinCall job call captured before → class_after after call reply ≡ Same
  twin_same schemas captured came twin =
      let run = replay.sound.replayable.legal.replies in
      let sound = run_sound (opening job.start) (take k job.calls) captured came (captured_sound job history last replay) in
      let given = run_gives (opening job.start) job.calls run.0 run.1 k call captured there.is_call came in
      let sent_call = sent before.pairs job.remap call.call in
      let schema : captured.start.schema ≡ before.state.start.schema = ap (λ (s : StartView). s.schema) sound.1 ∙ sym schemas ∙ sym (ap (λ (s : StartView). s.schema) before_sound.1) in
      let pairs = before.pairs ++ learnt call.reply reply in
      let P : Reply → Reply → Type 0 = λ r s. HasNoIdTwice (before.pairs ++ learnt r s) → IsRenamedReply (before.pairs ++ learnt r s) r s in
      let law : P (reply_in captured call.session call.call) (reply_in before.state call.session sent_call) = λ once. replies_renamed before.pairs captured before.state call.session call.session call.call sent_call sound.0 before_sound.0 schema before_map once twin.views (subst (λ (sc : SchemaView). AreTwinCalls sc before.pairs call.call sent_call) (sym (ap (λ (s : StartView). s.schema) sound.1)) twin.calls) in
      let told = subst (λ (r : Reply). P r reply) (sym given.1.0) (subst (P (reply_in captured call.session call.call)) (sym step_there.given.0) law) (subst HasNoIdTwice step_there.pairs after_map.once) in
      let outcome = subst (λ (ps : List IdPair). IsRenamedOutcome ps call.reply.outcome reply.outcome) (sym step_there.pairs) told.outcome in
      renamed_same after.pairs after_map.once call.reply reply outcome answer_rises

-- ---- again

all_true : (ks : List ℕ) → filter (λ k. true) ks ≡ ks
all_true [] = refl
all_true (k ∷ ks) = ap (λ l. k ∷ l) (all_true ks)

order_requires : (mode : Mode) → mode ≡ Order → (facts : _) (n m : ℕ) → m < n → is_required mode facts n m ≡ true
order_requires mode is facts n m less = subst (λ (md : Mode). is_required md facts n m ≡ true) (sym is) (lt-ltb m n less)

module _ (job : JobView) (history : List Event) (last : Stage) (replay : IsReplay job history last) (is_map : IsIdMap last.pairs) (again : IsAgain job) where
  abbrev always : ℕ → Bool
  always k = true

  stamps_rise : answered history ≡ answered (recorded 0 job.calls)
  stamps_rise = sym (all_true (answered history)) ∙ same_order always history (recorded 0 job.calls) (in_order job history replay.complete.legal always (λ m n less there t. order_requires job.mode again.order job.facts n m less)) (recorded_in_order job.calls always) (λ k a is. in_recorded job history last replay k a) (λ k a is. of_recorded job history last replay k a) ∙ all_true (answered (recorded 0 job.calls))

  as_was : IsTruthfulHistory (Both (Executes job) (IsAsWas job)) (first_stage job) history last × (last.state ≡ replay.sound.replayable.legal.replies.0)
  as_was =
      let legal = replay.sound.replayable.legal in
      all_again job legal again.services history 0 job.calls (first_stage job) last legal.replies.0 stamps_rise (λ i j c e at. subst (λ (n : ℕ). IsCallAt job.calls n c) (omega (arith, e)) at) replay.complete.truthful
      (subst (λ (s : StartView). IsRun Gives (opening s) job.calls legal.replies.0) (sym again.target) legal.replies.1)
      (subst (λ (s : StartView). StandsOwn job 0 (record { state = opening s; pairs = start_pairs job.start })) (sym again.target) (first_own job))
      is_map.once

  at_place : (i k : ℕ) (call : Captured) (reply : Reply) (before after : Stage) → IsAnsweredAt job history i k call reply before after → (reply ≡ call.reply) × IsRenamedOutcome after.pairs call.reply.outcome reply.outcome
  at_place i k call reply before after there =
      let both = Both (Executes job) (IsAsWas job) in
      let s = step_at both (first_stage job) history i k reply last there.answers as_was.0 in
      let stands = one_end job (first_stage job) (take (suc i) history) s.after after (without (Executes job) (IsAsWas job) (first_stage job) (take (suc i) history) s.after s.stands) there.stands in
      subst (λ (t : Stage). (reply ≡ call.reply) × IsRenamedOutcome t.pairs call.reply.outcome reply.outcome) stands (s.step.1 call there.is_call)

  as_captured : IsAsCaptured job history last
  as_captured = record {
    replies = λ i k call reply before after there. (at_place i k call reply before after there).0;
    classes = λ i k call reply before after there. renamed_same after.pairs (after_map job history last replay is_map i k call reply before after there).once call.reply reply (at_place i k call reply before after there).1 (answer_rises job history last replay is_map i k call reply before after there);
    state = subst (CameTo job) (sym as_was.1) replay.sound.replayable.legal.replies.1;
  }

-- ---- the laws

pub pairs_map : (job : JobView) (history : List Event) (last : Stage) → IsReplay job history last → IsIdMap last.pairs
pairs_map job history last replay = one_to_one job history last replay.sound.replayable replay.complete.legal replay.complete.truthful

pub again_as_captured : AgainIsAsCaptured
again_as_captured job history last replay again = as_captured job history last replay (pairs_map job history last replay) again

pub so_far_carried : TablesSoFarAreCarried
so_far_carried job history last stage captured i n replay may stood before quiet came = part_carried job history last replay may i n before (pairs_map job history last replay) stage stood quiet captured came

pub before_carried : TablesBeforeAreCarried
before_carried job history last captured replay may i k call reply before after there quiet came =
    so_far_carried job history last before captured i k replay (fences_wait job.mode may) there.stood
    (before_answer job history replay.sound.replayable replay.complete.legal may i k call reply there.is_call there.answers) quiet came

-- the end is the place behind all events
pub tables_carried : EndTablesAreCarried
tables_carried job history last captured replay may quiet came =
    let all : take (length history) history ≡ history = take_all (length history) history (omega arith) in
    let calls : take (length job.calls) job.calls ≡ job.calls = take_all (length job.calls) job.calls (omega arith) in
    so_far_carried job history last last captured (length history) (length job.calls) replay may
    (subst (λ (events : List Event). IsTruthfulFor job events last) (sym all) replay.complete.truthful)
    (all_before job history last replay)
    (subst (HasNoWriteDivergence job) (sym all) quiet)
    (subst (λ (captured_calls : List Captured). IsRun Gives (opening job.start) captured_calls captured) (sym calls) came)

pub twins_same : TwinCallsAreSame
twins_same job history last captured replay schemas i k call reply before after there came twin = twin_same job history last replay (pairs_map job history last replay) i k call reply before after there schemas captured came twin
