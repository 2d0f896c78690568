-- How many sessions are connected, and what the end of one leaves.
use Rattle.std.proofs.Common.{◌≡◌, ◌∙◌, ◌<◌, ◌≤◌, ℕ, ◌+◌, true, false, cond, List, [], ◌∷◌, ◌++◌, length, refl, sym, ap, arith, length-set}
use Rattle.std.specs.Prelude.{Option, None, Some, is_none, is_some}
use Rattle.std.proofs.lemmas.Bool.{false≢true, ne_eqb}
use Rattle.std.proofs.lemmas.List.{get_or-set_other, get_or-set_same, length-replicate}
use Rattle.std.proofs.lemmas.List.Sums.{count_by-le-length, sum_by-set}
use Rattle.desk_values.specs.declared.value.Image.{Image}
use Rattle.desk_values.specs.declared.call.Call.{Call}
use Rattle.desk_values.specs.declared.call.Call.TheVariants.{Disconnect}
use Rattle.desk_values.specs.declared.call.Outcome.TheVariants.{Disconnected}
use Rattle.desk_values.specs.declared.fault.Fault.TheVariants.{NotConnected}
use Rattle.desk_values.specs.declared.capture.Captured.{Captured}
use Rattle.desk_schema.specs.declared.schema.Rights.{Rights}
use Rattle.desk_schema.specs.Schema.{SchemaView}
use Rattle.desk_schema.specs.Start.{StartView}
use Rattle.replay_history.specs.Capture.{IsRun}
use Rattle.captured_calls.specs.Sessions.{calls_of, is_of}
use Rattle.server_words.specs.declared.session.Session.{Session}
use Rattle.server_words.specs.State.{State, disconnected, is_connected, opening, session_at}
use Rattle.server_words.specs.View.{View, view_of}
use Rattle.server_words.specs.Request.{disconnect}
use Rattle.server_words.specs.Answer.{answer, ended, unless}
use Rattle.server_words.specs.Step.{Gives, answer_in, committed_in, session_after, step, with_commit}
use Rattle.capture_recorder.specs.Recording.{connected_count}

-- there are 64 sessions

step_sessions : (state : State) (session : ℕ) (call : Call) → length (step state session call).sessions ≡ length state.sessions
step_sessions state session call = length-set state.sessions session _

run_sessions : (first : State) (calls : List Captured) (last : State) → IsRun Gives first calls last → length last.sessions ≡ length first.sessions
run_sessions first [] last run = ap (λ (s : State). length s.sessions) (sym run)
run_sessions first (call ∷ calls) last run = run_sessions run.0 calls last run.2 ∙ ap (λ (s : State). length s.sessions) run.1.1 ∙ step_sessions first call.session call.call

pub sessions_count : (start : StartView) (calls : List Captured) (last : State) → IsRun Gives (opening start) calls last → length last.sessions ≡ 64
sessions_count start calls last run = run_sessions (opening start) calls last run ∙ length-replicate 64 disconnected

-- so no more can be connected
pub connected_after : (start : StartView) (calls : List Captured) (last : State) (session : ℕ) (call : Call) → IsRun Gives (opening start) calls last → connected_count (step last session call) ≤ 64
connected_after start calls last session call run =
    omega (arith, count_by-le-length (λ (s : Session). is_some s.rights) (step last session call).sessions, step_sessions last session call, sessions_count start calls last run)

-- a session that is connected is one fewer once it is disconnected

not_none : {X : Type 0} (o : Option X) → is_some o ≡ true → is_none o ≡ false
not_none None is = absurd (false≢true is)
not_none (Some x) is = refl

rights_after : (schema : SchemaView) (view : View) (next_values : List ℕ) (row : ℕ) → is_some view.rights ≡ true → (answer schema view next_values row disconnect).rights ≡ None
rights_after schema view next_values row is = ap (λ b. (unless view [] (cond b (Some NotConnected) None) (ended None Disconnected)).rights) (not_none view.rights is)

pub disconnected_after : (state : State) (session : ℕ) → session < length state.sessions → is_connected state session ≡ true → connected_count (step state session Disconnect) + 1 ≡ connected_count state
disconnected_after state session within is =
    let after = session_after (session_at state session) (length state.commits) (answer_in state session Disconnect) in
    let gone : after.rights ≡ None = rights_after state.start.schema (view_of state session None) state.next_values state.next_row is in
    let count = sum_by-set (λ (s : Session). cond (is_some s.rights) 1 0) state.sessions session after disconnected within in
    let here = ap (λ b. cond {A = ℕ} b 1 0) is in
    let there = ap (λ (r : Option Rights). cond {A = ℕ} (is_some r) 1 0) gone in
    omega (arith, count, here, there)

-- ---- what is left of the end of a session

pub off_after : (state : State) (session : ℕ) → session < length state.sessions → is_connected state session ≡ true → is_connected (step state session Disconnect) session ≡ false
off_after state session within is =
    let after = session_after (session_at state session) (length state.commits) (answer_in state session Disconnect) in
    let gone : after.rights ≡ None = rights_after state.start.schema (view_of state session None) state.next_values state.next_row is in
    ap (λ (s : Session). is_some s.rights) (get_or-set_same state.sessions session after disconnected within) ∙ ap (λ (r : Option Rights). is_some r) gone

-- a step of one session leaves the others
pub others_after : (state : State) (session : ℕ) (call : Call) (other : ℕ) → (other ≡ session → ⊥) → session_at (step state session call) other ≡ session_at state other
others_after state session call other apart = get_or-set_other state.sessions session other _ disconnected apart

-- the end of a session commits nothing
nothing_committed : (schema : SchemaView) (view : View) (next_values : List ℕ) (row : ℕ) → is_some view.rights ≡ true → committed_in (answer schema view next_values row disconnect).reply.outcome ≡ []
nothing_committed schema view next_values row is = ap (λ b. committed_in (unless view [] (cond b (Some NotConnected) None) (ended None Disconnected)).reply.outcome) (not_none view.rights is)

pub commits_after : (state : State) (session : ℕ) → is_connected state session ≡ true → (step state session Disconnect).commits ≡ state.commits
commits_after state session is = ap (λ (images : List Image). with_commit state.commits images) (nothing_committed state.start.schema (view_of state session None) state.next_values state.next_row is)

-- a call of one session is in the list of no other
pub calls_after : (calls : List Captured) (new : Captured) (other : ℕ) → (other ≡ new.session → ⊥) → calls_of other (calls ++ new ∷ []) ≡ calls_of other calls
calls_after [] new other apart = ap (λ b. cond {A = List Captured} b (new ∷ []) []) (ne_eqb new.session other (λ same. apart (sym same)))
calls_after (call ∷ calls) new other apart = ap (λ (rest : List Captured). cond (is_of other call) (call ∷ rest) rest) (calls_after calls new other apart)
