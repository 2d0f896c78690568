-- Each step of a sound state is sound, and so each reply has a good shape.
use Rattle.std.proofs.Common.{◌≡◌, ◌∙◌, ℕ, suc, ◌+◌, List, [], ◌∷◌, length, take, true, refl, ap, length-set}
use Rattle.std.specs.Prelude.{Option, None, Some}
use Rattle.std.specs.List.{AllByRecursion}
use Rattle.std.proofs.lemmas.List.{length-replicate}
use Rattle.desk_values.specs.declared.value.Value.{Value}
use Rattle.desk_values.specs.declared.value.Image.{Image}
use Rattle.desk_values.specs.declared.call.Call.{Call}
use Rattle.desk_values.specs.declared.call.Outcome.{Outcome}
use Rattle.desk_values.specs.declared.call.Outcome.TheVariants.{Committed}
use Rattle.desk_values.specs.Good.{HasGoodShape, IsShapedOutcome}
use Rattle.desk_schema.specs.Start.{StartView}
use Rattle.desk_schema.specs.File.{IsStart}
use Rattle.desk_schema.proofs.Files.{sound_start}
use Rattle.server_words.specs.State.{State, disconnected, opening, session_at, tables}
use Rattle.server_words.specs.Rows.{is_there}
use Rattle.server_words.specs.View.{view_of}
use Rattle.server_words.proofs.Laying.{rising_lay_all}
use Rattle.server_words.specs.Request.{request_of, table_in}
use Rattle.server_words.specs.Draws.{moved}
use Rattle.server_words.specs.Step.{answer_in, committed_in, replies_of, reply_in, session_after, step, with_commit}
use Rattle.server_words.specs.Sound.{AreSound, AreStanding, HasSoundChanges, IsSoundState}
use Rattle.server_words.proofs.Members.{each_joined, each_taken, each_weaker, each_repeated, each_set, one_of}
use Rattle.server_words.proofs.SoundRows.{AreShaped, IsStanding, ascending_rises, sound_none, stand_first, stand_laid_all, stand_seen, stands_there}
use Rattle.server_words.proofs.SoundPlans.{sound_request}
use Rattle.server_words.proofs.SoundAnswers.{IsSoundAnswer, IsSoundView, answer_sound}

nobody_sound : HasSoundChanges disconnected
nobody_sound = record { own = sound_none; kept = tt }

pub opening_sound : (start : StartView) → IsStart start → IsSoundState (opening start)
opening_sound start is =
    let first = sound_start start is in
    record { start = first; commits = tt; next_values = first.sound.sequences.counts; count = length-replicate 64 disconnected; sessions = each_repeated HasSoundChanges 64 disconnected nobody_sound }

pub tables_stand : (state : State) (n : ℕ) → IsSoundState state → AreStanding (tables state n)
tables_stand state n is =
    let schema = is.start.is_schema in
    let first = stand_first state.start.schema.tables state.start.next_values schema.tables schema.columns state.start.rows is.start.sound.sound_rows.each in
    let commits = take n state.commits in
    let shaped : AllByRecursion AreShaped commits = each_weaker AreSound AreShaped (λ images sound. sound.shaped) commits (each_taken AreSound n state.commits is.commits) in
    record {
      there = each_weaker IsStanding (λ (image : Image). is_there image ≡ true) stands_there (tables state n) (stand_laid_all state.start.rows commits first shaped);
      rising = rising_lay_all state.start.rows commits (ascending_rises state.start.rows is.start.sound.sound_rows.rising);
    }

-- ---- answers

module _ (state : State) (is : IsSoundState state) (session : ℕ) where
  own_sound : HasSoundChanges (session_at state session)
  own_sound = one_of HasSoundChanges state.sessions session disconnected nobody_sound is.sessions

  view_sound : (table : Option ℕ) → IsSoundView (view_of state session table)
  view_sound None = record { rows = tt; own = own_sound.own; kept = own_sound.kept }
  view_sound (Some table) =
      let schema = is.start.is_schema in
      let first = stand_first state.start.schema.tables state.start.next_values schema.tables schema.columns state.start.rows is.start.sound.sound_rows.each in
      record { rows = stand_seen state.start.rows state.commits (session_at state session) table first is.commits own_sound.own; own = own_sound.own; kept = own_sound.kept }

  pub answered : (call : Call) → IsSoundAnswer (answer_in state session call)
  answered call =
      let request = request_of state.start.schema call in
      answer_sound state.start.schema is.start.is_schema (view_of state session (table_in request)) (view_sound (table_in request)) state.next_values is.next_values state.next_row request (sound_request state.start.schema call)

pub reply_shaped : (state : State) (session : ℕ) (call : Call) → IsSoundState state → HasGoodShape (reply_in state session call)
reply_shaped state session call is = (answered state is session call).reply

-- ---- steps

committed_sound : (outcome : Outcome) → IsShapedOutcome outcome → AreSound (committed_in outcome)
committed_sound (Committed images) shaped = record { shaped = shaped.0; rising = ascending_rises images shaped.1 }
committed_sound other shaped = sound_none

commits_sound : (commits : List (List Image)) (images : List Image) → AllByRecursion AreSound commits → AreSound images → AllByRecursion AreSound (with_commit commits images)
commits_sound commits [] sound new = sound
commits_sound commits (image ∷ images) sound new = each_joined AreSound commits ((image ∷ images) ∷ []) sound (new, tt)

pub length_moved : (draws : List Value) (sequence : ℕ) (ns : List ℕ) → length (moved draws sequence ns) ≡ length ns
length_moved draws sequence [] = refl
length_moved draws sequence (n ∷ ns) = ap suc (length_moved draws (sequence + 1) ns)

pub step_sound : (state : State) (session : ℕ) (call : Call) → IsSoundState state → IsSoundState (step state session call)
step_sound state session call is =
    let a = answer_in state session call in
    let sound = answered state is session call in
    let left = session_after (session_at state session) (length state.commits) a in
    record {
      start = is.start;
      commits = commits_sound state.commits (committed_in a.reply.outcome) is.commits (committed_sound a.reply.outcome sound.reply.outcome);
      next_values = length_moved a.reply.draws 0 state.next_values ∙ is.next_values;
      count = length-set state.sessions session left ∙ is.count;
      sessions = each_set HasSoundChanges state.sessions session left (record { own = sound.own; kept = sound.kept }) is.sessions;
    }

-- ---- runs

run_shaped : (state : State) (calls : List (ℕ × Call)) → IsSoundState state → AllByRecursion HasGoodShape (replies_of state calls)
run_shaped state [] is = tt
run_shaped state (call ∷ calls) is = (reply_shaped state call.0 call.1 is, run_shaped (step state call.0 call.1) calls (step_sound state call.0 call.1 is))

pub opened_run_shaped : (start : StartView) (calls : List (ℕ × Call)) → IsStart start → AllByRecursion HasGoodShape (replies_of (opening start) calls)
opened_run_shaped start calls is = run_shaped (opening start) calls (opening_sound start is)
