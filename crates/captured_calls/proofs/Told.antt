-- What legal calls are told of savepoints.
use Rattle.std.proofs.Common.{◌≡◌, ◌∙◌, ℕ, zero, suc, ◌+◌, true, false, cond, List, [], ◌∷◌, map, refl, sym, ap, subst}
use Rattle.std.specs.List.{AllByRecursion, range_with_len}
use Rattle.desk_values.specs.declared.call.Reply.{Reply}
use Rattle.desk_values.specs.declared.capture.Captured.{Captured}
use Rattle.desk_values.specs.Good.{MayTell}
use Rattle.desk_schema.specs.Start.{StartView}
use Rattle.capture_format.specs.SessionFile.{MayTellAll}
use Rattle.replay_history.specs.Capture.{IsRun}
use Rattle.server_words.specs.State.{State, opening}
use Rattle.server_words.specs.Step.{Gives}
use Rattle.server_words.proofs.Versions.{old_servers}
use Rattle.captured_calls.specs.Sessions.{calls_of, is_of, session_lists}
use Rattle.captured_calls.specs.Verdict.{IsLegal}

-- a run keeps the version
run_told : (version : ℕ) (first last : State) (calls : List Captured) → first.start.schema.version ≡ version → IsRun Gives first calls last → MayTellAll version calls
run_told version first last [] same run = tt
run_told version first last (call ∷ calls) same run = (
  subst (λ (v : ℕ). MayTell v call.reply) same (subst (λ (reply : Reply). MayTell first.start.schema.version reply) (sym run.1.0) (old_servers first call.session call.call)),
  run_told version run.0 last calls (ap (λ (state : State). state.start.schema.version) run.1.1 ∙ same) run.2,
)

pub legal_told : (start : StartView) (calls : List Captured) → IsLegal start calls → MayTellAll start.schema.version calls
legal_told start calls legal = run_told start.schema.version (opening start) legal.replies.0 calls refl legal.replies.1

module _ (version : ℕ) where
  pub session_told : (session : ℕ) (calls : List Captured) → MayTellAll version calls → MayTellAll version (calls_of session calls)
  session_told session [] told = tt
  session_told session (call ∷ calls) told = elim (is_of session call) as (λ b. MayTellAll version (cond b (call ∷ calls_of session calls) (calls_of session calls))) [
    | true ↦ (told.0, session_told session calls told.1)
    | false ↦ session_told session calls told.1
  ]

  told_from : (calls : List Captured) (from count : ℕ) → MayTellAll version calls → AllByRecursion (MayTellAll version) (map (λ session. calls_of session calls) (range_with_len from count))
  told_from calls from zero told = tt
  told_from calls from (suc count) told = (session_told from calls told, told_from calls (from + 1) count told)

  pub lists_told : (calls : List Captured) (count : ℕ) → MayTellAll version calls → AllByRecursion (MayTellAll version) (session_lists count calls)
  lists_told calls count told = told_from calls 0 count told
