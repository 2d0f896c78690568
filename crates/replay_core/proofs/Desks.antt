-- What the fields of a desk tell of its calls.
use Rattle.std.proofs.Common.{◌≡◌, ℕ, ◌<◌, ◌⊎◌, List, [], ◌∷◌, ◌++◌, length, get_or, refl, ap, subst, ◌∙◌, arith}
use Rattle.std.proofs.lemmas.Option.{slice_get_within}
use Rattle.desk_values.specs.declared.call.Call.{Call}
use Rattle.desk_values.specs.declared.call.Reply.{Reply}
use Rattle.desk_values.specs.declared.capture.Captured.{Captured}
use Rattle.desk_values.specs.declared.capture.Event.TheVariants.{Answer}
use Rattle.server_words.specs.State.{State}
use Rattle.server_words.specs.Step.{Gives}
use Rattle.id_pairs.specs.Pairs.{IdPair, learnt}
use Rattle.remap_ids.specs.Sent.{sent}
use Rattle.remap_ids.specs.Services.{ServicePair}
use Rattle.replay_job.specs.Job.{JobView}
use Rattle.replay_job.specs.Runs.{Executes, MayStart, Stage, first_stage}
use Rattle.replay_history.specs.History.{IsWaiting}
use Rattle.law_histories.proofs.Items.{item_at}
use Rattle.law_histories.proofs.Places.{same_call}
use Rattle.law_histories.proofs.Truth.{truthful_answer}
use Rattle.replay_schedule.proofs.Gates.Gates.{answer_follows, open_room}
use Rattle.law_ids.proofs.Replays.Pairs.{one_to_one}
use Rattle.replay_core.specs.declared.desk.Desk.TheInside.{Inside}
use Rattle.replay_core.specs.Inside.{IsDesk, MayExecute}
use Rattle.replay_core.specs.View.{stage_of}
use Rattle.replay_schedule.proofs.Ids.{draws_few, has_low_ids}

-- ---- calls

-- the call that a loop or an index has
pub executed_call : {job : JobView} {stage : Stage} {k : ℕ} {items : List Captured} {call : Captured} → (one : Captured) × MayExecute job stage k one → items ≡ job.calls → call ≡ get_or items k call → MayExecute job stage k call
executed_call {job} {stage} {k} {items} {call} may e is =
    let within = slice_get_within job.calls k may.0 may.1.at in
    let at = item_at items job.calls k call e (omega (arith, within, ap length e)) is in
    subst (MayExecute job stage k) (same_call job.calls k may.0 call may.1.at at) may.1

pub sent_gives : (old next : State) (session : ℕ) (captured call : Call) (pairs reserved : List IdPair) (services : List ServicePair) (reply : Reply) → call ≡ sent reserved services captured → reserved ≡ pairs → Gives old session call reply next → Gives old session (sent pairs services captured) reply next
sent_gives old next session captured call pairs reserved services reply is same gives = subst (λ (other : Call). Gives old session other reply next) (is ∙ ap (λ (known : List IdPair). sent known services captured) same) gives

module _ (a : Inside) (is : IsDesk a) (k : ℕ) where
  -- there is room for an open call
  pub open_call : MayStart a.schedule.job a.history.items k ⊎ IsWaiting a.history.items k → (0 < a.history.spare) × (a.engine.steps < 1048576)
  open_call free =
      let room = open_room is.follows k free in
      (omega (arith, room.2, is.room), omega (arith, room.2, is.steps, is.follows.replayable.legal.count))

  pub may_execute : IsWaiting a.history.items k → (call : Captured) × MayExecute a.schedule.job (stage_of a) k call
  may_execute waits =
      let job = a.schedule.job in
      let begun = waits.0 in
      let is_call = is.follows.legal.start_is_call begun.0 k begun.1 begun.2 in
      let call = is_call.0 in
      let at = is_call.1 in (
        call,
        record {
          at = at;
          session = (is.follows.replayable.legal.each k call at).session;
          low = has_low_ids job is.follows.replayable k call at;
          few = draws_few job is.follows.replayable k call at;
          new_ids = λ reply next gives.
              let follows = answer_follows is.follows k reply waits in
              let new : Stage = record { state = next; pairs = (stage_of a).pairs ++ learnt call.reply reply } in
              let truthful = truthful_answer (Executes job) (first_stage job) (stage_of a) new a.history.items k reply is.truthful (call, at, gives, refl) in
              (one_to_one job (a.history.items ++ Answer k reply ∷ []) new follows.replayable follows.legal truthful).once;
        },
      )
