-- What the steps of the machine share.
use Rattle.std.proofs.Common.{◌≡◌, ℕ, ◌+◌, ◌<◌, ◌≤◌, true, false, List, [], ◌∷◌, ◌++◌, length, Option, None, Some, replicate, Result, IfOk, if◌then◌else◌, refl, subst, sym, ap, ◌∙◌, arith}
use Rattle.std.specs.List.{All, AllByRecursion, list_any}
use Rattle.std.proofs.lemmas.List.Elements.{All-cons, All-nil, All-tail}
use Rattle.desk_values.specs.declared.value.Value.{Value}
use Rattle.desk_values.specs.declared.value.Image.{Image}
use Rattle.desk_values.specs.declared.fault.Fault.{Fault}
use Rattle.desk_values.specs.declared.memory.Memory.{Memory}
use Rattle.desk_values.specs.declared.call.Call.{Call}
use Rattle.desk_values.specs.declared.call.Reply.{Reply}
use Rattle.desk_values.specs.Good.{HasGoodShape}
use Rattle.sql_tree.specs.Plain.{Plan}
use Rattle.server_words.specs.declared.effect.Deed.{Deed}
use Rattle.server_words.specs.declared.effect.Deed.TheVariants.{Nothing}
use Rattle.desk_values.specs.declared.fault.Fault.TheVariants.{NotConnected}
use Rattle.desk_values.specs.declared.call.Outcome.TheVariants.{Refused}
use Rattle.desk_schema.specs.declared.schema.Rights.{Rights}
use Rattle.std.specs.Prelude.{is_none}
use Rattle.server_words.specs.declared.effect.Decision.{Decision}
use Rattle.server_words.specs.declared.session.Session.{Session}
use Rattle.desk_schema.specs.Start.{StartView}
use Rattle.desk_schema.specs.File.{IsStart}
use Rattle.server_words.specs.State.{State, disconnected, opening, session_at}
use Rattle.server_words.specs.View.{plain_view, view_of}
use Rattle.row_versions.specs.History.{History}
use Rattle.server_words.specs.Rows.{IsRising}
use Rattle.machine_stores.specs.Tables.{AreForgot, AreFrom, ArePut, AreTold, AreWithin, least_seen}
use Rattle.server_words.specs.Causes.{statement_fault}
use Rattle.server_words.specs.Draws.{is_draw_of, moved}
use Rattle.server_words.specs.Request.{request_of, statement, table_in, unsound}
use Rattle.server_words.specs.Answer.{Answer, executed, reply_of, unless}
use Rattle.server_words.specs.Step.{after, after_made, answer_in, answer_to, committed_in, reply_in, step, view_for, with_commit}
use Rattle.machine_stores.specs.declared.index.KeyIndex.{KeyIndex}
use Rattle.machine_stores.specs.Index.{AreIndexes}
use Rattle.server_words.specs.Decision.{Decides, committed_by, done_so, session_left}
use Rattle.machine_model.specs.Inside.Machine.{Executes, Keeps}
use Rattle.server_words.specs.Sound.{AreSound, IsSoundState}
use Rattle.server_words.specs.Machine.{Running}
use Rattle.server_words.proofs.SoundSteps.{opening_sound, reply_shaped, step_sound}
use Rattle.machine_stores.proofs.Forgetting.{floors_told, indexes_forgot, least_after, least_most, told_forgot}
use Rattle.server_words.proofs.SoundRows.{ascending_rises}
use Rattle.machine_stores.proofs.Noting.{indexes_after}
use Rattle.machine_stores.proofs.Storing.{told_after, told_later, told_within}

-- what rights and transaction forbid does not depend on the rows that are seen
pub same_fault : (state : State) (session : ℕ) (table : Option ℕ) (plan : Plan ℕ) → statement_fault (view_of state session table) plan ≡ statement_fault (plain_view (session_at state session)) plan
unfolding statement_fault
same_fault state session None plan = refl
same_fault state session (Some table) plan = refl

-- what is executed is answered, where nothing forbids it
pub unforbidden : (state : State) (session : ℕ) (binds : List Value) (plan : Plan ℕ) (r : Result Decision Memory) → statement_fault (view_for state session (statement plan binds)) plan ≡ None → IfOk r (λ decision. Executes state session binds plan decision) → IfOk r (λ decision. Decides (view_for state session (statement plan binds)) (answer_to state session (statement plan binds)) decision)
unforbidden state session binds plan r none executes =
    let view = view_for state session (statement plan binds) in
    subst (λ (fault : Option Fault). IfOk r (λ decision. Decides view (unless view [] fault (executed state.start.schema view state.next_values state.next_row (record { level = state.start.schema.level; binds = binds }) plan)) decision)) (sym none) executes

-- a statement that a check refuses is told so, or that nobody is connected
pub unsound_told : (state : State) (session : ℕ) (table : Option ℕ) (fault : Fault) (rights : Option Rights) (decision : Decision) → (session_at state session).rights ≡ rights → decision ≡ record { reply = reply_of (Refused (if is_none rights then NotConnected else fault)) [] None; deed = Nothing } → Decides (view_for state session (unsound table fault)) (answer_to state session (unsound table fault)) decision
unsound_told state session None fault rights decision is told = rw (told, is) (record { answers = refl; commits = refl })
unsound_told state session (Some table) fault rights decision is told = rw (told, is) (record { answers = refl; commits = refl })

-- a deed leaves the same, whatever rows are seen
same_done : (state : State) (session : ℕ) (table : Option ℕ) (reply : Reply) (deed : Deed) → done_so (plain_view (session_at state session)) reply deed ≡ done_so (view_of state session table) reply deed
same_done state session None reply deed = refl
same_done state session (Some table) reply deed = refl

module _ (state : State) (session : ℕ) (call : Call) (decision : Decision) (decides : Decides (view_for state session (request_of state.start.schema call)) (answer_in state session call) decision) where
  pub followed : after state session (done_so (plain_view (session_at state session)) decision.reply decision.deed) ≡ step state session call
  followed = ap (after state session) (same_done state session (table_in (request_of state.start.schema call)) decision.reply decision.deed ∙ decides.answers)

  pub replied : decision.reply ≡ reply_in state session call
  replied = ap (λ (a : Answer). a.reply) decides.answers

  pub followed_sound : IsSoundState state → IsSoundState (after state session (done_so (plain_view (session_at state session)) decision.reply decision.deed))
  followed_sound sound = subst IsSoundState (sym followed) (step_sound state session call sound)

  pub replied_well : IsSoundState state → HasGoodShape decision.reply
  replied_well sound = subst HasGoodShape (sym replied) (reply_shaped state session call sound)

-- ---- what the machine keeps

moved_below : (limit steps : ℕ) (draws : List Value) (sequence : ℕ) (nexts : List ℕ) → All (λ (n : ℕ). n ≤ limit + steps) nexts → All (λ (n : ℕ). n ≤ limit + (steps + 1)) (moved draws sequence nexts)
moved_below limit steps draws sequence [] below = All-nil (λ (n : ℕ). n ≤ limit + (steps + 1))
moved_below limit steps draws sequence (n ∷ ns) below =
    let here : n ≤ limit + steps = below 0 0 (omega arith) in
    All-cons (λ (n : ℕ). n ≤ limit + (steps + 1)) _ _
    (elim (list_any (is_draw_of sequence) draws) as (λ b. (if b then n + 1 else n) ≤ limit + (steps + 1)) [ true ↦ omega arith | false ↦ omega arith ])
    (moved_below limit steps draws (sequence + 1) ns (All-tail (λ (n : ℕ). n ≤ limit + steps) n ns below))

made_below : (made : Option ℕ) (row limit steps : ℕ) → row ≤ limit + steps → after_made made row ≤ limit + (steps + 1)
made_below None row limit steps below = omega arith
made_below (Some n) row limit steps below = omega arith

last_of : {X : Type 0} (P : X → Type 0) (xs : List X) (y : X) → AllByRecursion P (xs ++ y ∷ []) → P y
last_of P [] y all = all.0
last_of P (x ∷ xs) y all = last_of P xs y all.1

-- what a step commits rises
pub committed_rises : (commits : List (List Image)) (changes : List Image) → AllByRecursion AreSound (with_commit commits changes) → IsRising changes
committed_rises commits [] all = tt
committed_rises commits (change ∷ changes) all = (last_of AreSound commits (change ∷ changes) all).rising

-- what comes of a decision that is done
module _ (state : State) (session : ℕ) (reply : Reply) (deed : Deed) (mine : Session) (is : mine ≡ session_at state session) (commits : committed_in reply.outcome ≡ committed_by (plain_view (session_at state session)) deed) where
  told_same : committed_by (plain_view mine) deed ≡ committed_in reply.outcome
  told_same = ap (λ (s : Session). committed_by (plain_view s) deed) is ∙ sym commits

  pub commits_to : (l : List (List Image)) → l ≡ with_commit state.commits (committed_by (plain_view mine) deed) → with_commit state.commits (committed_in reply.outcome) ≡ l
  commits_to l at = ap (with_commit state.commits) (sym told_same) ∙ sym at

  pub session_to : (left : Session) → left ≡ session_left mine (length state.commits) deed → session_left (session_at state session) (length state.commits) deed ≡ left
  session_to left at = ap (λ (s : Session). session_left s (length state.commits) deed) (sym is) ∙ sym at

  pub put_to : (number : ℕ) (old mid : List History) → ArePut number (committed_by (plain_view mine) deed) old mid → ArePut number (committed_in reply.outcome) old mid
  put_to number old mid put = subst (λ (images : List Image). ArePut number images old mid) told_same put

pub keeps_within : (running : Running) (tables : List History) → Keeps running tables → AreWithin (length running.state.commits) tables
keeps_within running tables keeps =
    let state = running.state in
    told_within (least_seen (length state.commits) state.sessions) state.start.rows state.commits tables (least_most (length state.commits) state.sessions) keeps.told

module _ (running : Running) (old mid : List History) (session : ℕ) (a : Answer) (keeps : Keeps running old) (sound : IsSoundState (after running.state session a)) (put : ArePut (length running.state.commits + 1) (committed_in a.reply.outcome) old mid) where
  rise : IsRising (committed_in a.reply.outcome)
  rise = committed_rises running.state.commits (committed_in a.reply.outcome) sound.commits

  told_mid : AreTold (least_seen (length running.state.commits) running.state.sessions) running.state.start.rows (after running.state session a).commits mid
  told_mid =
      let state = running.state in
      told_after (least_seen (length state.commits) state.sessions) state.start.rows state.commits (committed_in a.reply.outcome) old mid (ascending_rises state.start.rows keeps.sound.start.sound.sound_rows.rising) rise
      (least_most (length state.commits) state.sessions) keeps.told put

  pub within_mid : AreWithin (length (after running.state session a).commits) mid
  within_mid =
      let state = running.state in
      let next = after state session a in
      let low = least_seen (length state.commits) state.sessions in
      let most : low ≤ length next.commits = omega (arith, least_after state session a, least_most (length next.commits) next.sessions) in
      told_within low state.start.rows next.commits mid most told_mid

  pub from_mid : AreFrom (least_seen (length (after running.state session a).commits) (after running.state session a).sessions) mid
  from_mid =
      let state = running.state in
      let next = after state session a in
      floors_told (least_seen (length state.commits) state.sessions) (least_seen (length next.commits) next.sessions) state.start.rows next.commits mid (least_after state session a) told_mid

  pub indexes_mid : (indexes : List KeyIndex) → AreIndexes indexes old (length running.state.commits) [] → AreIndexes indexes mid (length (after running.state session a).commits) (committed_in a.reply.outcome)
  indexes_mid indexes are = indexes_after indexes running.state.commits (committed_in a.reply.outcome) old mid rise (keeps_within running old keeps) put are

  module _ (new : List History) (forgot : AreForgot (least_seen (length (after running.state session a).commits) (after running.state session a).sessions) mid new) where
    pub kept : running.steps < 1048576 → Keeps (record { state = after running.state session a; steps = running.steps + 1 }) new
    kept few =
        let state = running.state in
        let next = after state session a in
        record {
          sound = sound;
          told = told_forgot (least_seen (length state.commits) state.sessions) (least_seen (length next.commits) next.sessions) state.start.rows next.commits mid new (least_after state session a) forgot told_mid;
          steps = omega arith;
          next_row = made_below a.reply.made state.next_row 549755813888 running.steps keeps.next_row;
          next_values = moved_below 549755813888 running.steps a.reply.draws 0 state.next_values keeps.next_values;
        }

    pub indexes_kept : (indexes : List KeyIndex) → AreIndexes indexes mid (length (after running.state session a).commits) [] → AreIndexes indexes new (length (after running.state session a).commits) []
    indexes_kept indexes are =
        let next = after running.state session a in
        indexes_forgot indexes (length next.commits) (least_seen (length next.commits) next.sessions) mid new (least_most (length next.commits) next.sessions) forgot are

pub opening_is : (start : StartView) (commits : List (List Image)) (row : ℕ) (nexts : List ℕ) (sessions : List Session) → commits ≡ [] → row ≡ start.next_row → nexts ≡ start.next_values → sessions ≡ replicate 64 disconnected → record { start = start; commits = commits; next_row = row; next_values = nexts; sessions = sessions } ≡ opening start
opening_is start commits row nexts sessions a b c d = rw (a, b, c, d) refl

limits_below : (nexts : List ℕ) → AllByRecursion (λ next. (1 ≤ next) × (next ≤ 549755813888)) nexts → All (λ (n : ℕ). n ≤ 549755813888 + 0) nexts
limits_below [] limits = All-nil (λ (n : ℕ). n ≤ 549755813888 + 0)
limits_below (n ∷ ns) limits = All-cons (λ (n : ℕ). n ≤ 549755813888 + 0) n ns limits.0.1 (limits_below ns limits.1)

pub opened : (start : StartView) (tables : List History) → IsStart start → AreTold 0 start.rows [] tables → Keeps (record { state = opening start; steps = 0 }) tables
opened start tables is told = record {
  sound = opening_sound start is;
  told = told_later 0 start.rows [] (least_seen 0 (opening start).sessions) tables (omega arith) told;
  steps = omega arith;
  next_row = (let most : start.next_row ≤ 549755813888 = (opening_sound start is).start.next_row.most in omega arith);
  next_values = limits_below start.next_values (opening_sound start is).start.sound.sequences.limits;
}
