-- What a server tells and keeps are ids that it knows: where those stand for themselves, so do the ids of each reply.
use Rattle.std.proofs.Common.{◌≡◌, ℕ, ◌+◌, Bool, true, false, if◌then◌else◌, List, [], ◌∷◌, map, length, Option, None, Some, Result, Ok, Err, refl, sym, subst}
use Rattle.std.specs.Prelude.{slice_get}
use Rattle.std.specs.List.{AllByRecursion, AllZip, Contains}
use Rattle.std.specs.Option.{option_and_then, unwrap_or}
use Rattle.desk_values.specs.declared.value.Value.{Value}
use Rattle.desk_values.specs.declared.value.Value.TheVariants.{Null, Row, Draw}
use Rattle.desk_values.specs.declared.value.Image.{Image}
use Rattle.desk_values.specs.declared.fault.Fault.{Fault}
use Rattle.desk_values.specs.declared.call.Call.{Call}
use Rattle.desk_values.specs.declared.call.Call.TheVariants.{Connect, Sql, Disconnect}
use Rattle.desk_values.specs.declared.call.Reply.{Reply}
use Rattle.desk_schema.specs.declared.schema.Column.{Column}
use Rattle.desk_schema.specs.Schema.{SchemaView, columns_of}
use Rattle.desk_schema.proofs.Members.{Contains-here, Contains-there}
use Rattle.sql_tree.specs.Plain.{Entry, Name, Plan, Term, commit, delete, drawn, insert, next, rollback, rollback_to, savepoint, select, set_read_only, update, value}
use Rattle.sql_eval.specs.Check.{check_of}
use Rattle.server_words.specs.declared.effect.Effect.{Effect}
use Rattle.server_words.specs.declared.session.Session.{Session}
use Rattle.server_words.specs.declared.session.Transaction.{Transaction}
use Rattle.server_words.proofs.Marks.{each_up_to, each_with, own_at_one}
use Rattle.server_words.specs.Rows.{lay_all, of_table}
use Rattle.server_words.specs.State.{State, disconnected, session_at}
use Rattle.server_words.specs.View.{View, commits_seen, view_of}
use Rattle.server_words.specs.Request.{Request, checked, connect, disconnect, read, request_of, statement, statement_in, table_in, table_named, unreadable, unsound}
use Rattle.server_words.specs.Draws.{drawn_from, drawn_value, draws_from, draws_of, is_draw_of}
use Rattle.server_words.specs.Causes.{connect_fault, disconnect_fault, statement_fault}
use Rattle.server_words.specs.Found.{Environment, matches, matching}
use Rattle.server_words.specs.Writes.{gone, input_place, inputs_for, row_values, updated}
use Rattle.server_words.specs.Answer.{Answer, answer, delete_effect, done, executed, insert_effect, new_row, select_effect, unless, update_effect}
use Rattle.server_words.specs.Step.{answer_in, committed_in, reply_in, session_after, step, with_commit}
use Rattle.server_words.proofs.Members.{each_filtered, each_joined, each_mapped, each_set, each_taken, each_weaker, one_of}
use Rattle.replay_history.specs.Capture.{binds_of}
use Rattle.id_pairs.specs.Pairs.{HasNoIdTwice, IdPair}
use Rattle.id_pairs.specs.Renaming.{AreRenamed, IsRenamed}
use Rattle.law_server.specs.Rows.Bags.{AreBags}
use Rattle.law_server.specs.Rows.Images.{IsRenamedImage}
use Rattle.law_server.proofs.Rows.Bags.{moved_same}
use Rattle.law_server.proofs.Rows.Expressions.{nth_twins, renamed_of, value_twins}
use Rattle.law_server.specs.Renaming.Inputs.{HasInputs, IsInput}
use Rattle.law_server.specs.Renaming.Replies.{IsRenamedOutcome, rows, count, committed, rolled_back, marked, connected, disconnected as over, refused}
use Rattle.law_server.proofs.Renaming.Checking.{inputs_name_no_row}
use Rattle.law_server.proofs.Renaming.Found.{sound_twin}
use Rattle.law_server.proofs.Renaming.Selecting.{renamed_rows}
use Rattle.law_server.proofs.Renaming.Writing.{stored_renamed, updated_renamed}
use Rattle.law_replays.proofs.Told.Placed.{each_laid, each_laid_all, each_noted}
use Rattle.law_replays.specs.Told.Own.{AreOwn, GivesOwn, HasOwnIds, IsOwn, KeepsOwn}
use Rattle.law_replays.specs.Told.Laws.{StepsTellOwnIds}

-- so do those of a reply's outcome, and of what the session has changed
record IsOwnAnswer (pairs : List IdPair) (a : Answer) : Type 0 where
  outcome : IsRenamedOutcome pairs a.reply.outcome a.reply.outcome
  written : AreOwn pairs (committed_in a.reply.outcome)
  own : AreOwn pairs a.own.changes
  kept : AllByRecursion (KeepsOwn pairs) a.savepoints

-- those of a view's session do
record IsOwnView (pairs : List IdPair) (view : View) : Type 0 where
  own : AreOwn pairs view.own.changes
  kept : AllByRecursion (KeepsOwn pairs) view.savepoints

zipped_own : {A : Type 0} (R : A → A → Type 0) (xs : List A) → AllByRecursion (λ x. R x x) xs → AllZip R xs xs
zipped_own R [] h = tt
zipped_own R (x ∷ xs) h = (h.0, zipped_own R xs h.1)

own_bags : {A : Type 0} (R : A → A → Type 0) (xs : List A) → AllByRecursion (λ x. R x x) xs → AreBags R xs xs
own_bags R xs h = record { turned = xs; related = zipped_own R xs h; moved = moved_same xs }

module _ (pairs : List IdPair) where
  own_draws : (test : ℕ → Bool) (sequence : ℕ) (ns : List ℕ) → ((q n : ℕ) → Contains (drawn_from test sequence ns) (Draw q n) → IsRenamed pairs (Draw q n) (Draw q n)) → AreRenamed pairs (drawn_from test sequence ns) (drawn_from test sequence ns)
  own_draws test sequence [] own = tt
  own_draws test sequence (n ∷ ns) own =
      let rest = drawn_from test (sequence + 1) ns in
      elim (test sequence) as (λ b. ((q m : ℕ) → Contains (if b then Draw sequence n ∷ rest else rest) (Draw q m) → IsRenamed pairs (Draw q m) (Draw q m)) → AreRenamed pairs (if b then Draw sequence n ∷ rest else rest) (if b then Draw sequence n ∷ rest else rest)) [
        | true ↦ λ own. (own sequence n (Contains-here (Draw sequence n) rest), own_draws test (sequence + 1) ns (λ q m c. own q m (Contains-there (Draw sequence n) rest (Draw q m) c)))
        | false ↦ λ own. own_draws test (sequence + 1) ns own
      ] own

  -- the values that a reply draws
  given_draws : (plan : Plan ℕ) (ns : List ℕ) (reply : Reply) → reply.draws ≡ draws_of plan ns → GivesOwn pairs reply → AreRenamed pairs (draws_of plan ns) (draws_of plan ns)
  given_draws plan ns reply is own = own_draws (draws_from plan) 0 ns (λ q n c. own (Draw q n) (let d = subst (λ (l : List Value). Contains l (Draw q n)) (sym is) c in (d.0, Draw q n, d.1, d.2, refl)))

  own_drawn : (draws : List Value) (sequence : ℕ) → AreRenamed pairs draws draws → IsRenamed pairs (drawn_value draws sequence) (drawn_value draws sequence)
  own_drawn [] sequence t = tt
  own_drawn (draw ∷ draws) sequence t = elim (is_draw_of sequence draw) as (λ b. IsRenamed pairs (if b then draw else drawn_value draws sequence) (if b then draw else drawn_value draws sequence)) [
    | true ↦ t.0
    | false ↦ own_drawn draws sequence t.1
  ]

  unless_own : (view : View) (draws : List Value) (f : Option Fault) (a : Answer) → IsOwnView pairs view → (GivesOwn pairs a.reply → IsOwnAnswer pairs a) → GivesOwn pairs (unless view draws f a).reply → IsOwnAnswer pairs (unless view draws f a)
  unless_own view draws None a own is given = is given
  unless_own view draws (Some fault) a own is given = record { outcome = refused fault; written = tt; own = own.own; kept = own.kept }

  done_own : (table : ℕ) (view : View) (draws : List Value) (effect : Effect) → IsOwnView pairs view → IsRenamedOutcome pairs effect.outcome effect.outcome → AreOwn pairs (committed_in effect.outcome) → AreOwn pairs effect.writing.images → IsOwnAnswer pairs (done table view draws effect)
  done_own table view draws effect own outcome wrote images = record { outcome = outcome; written = wrote; own = each_noted (IsOwn pairs) view.own.changes effect.writing.images own.own images; kept = own.kept }

  module _ (once : HasNoIdTwice pairs) (level : ℕ) (binds : List Value) (known : AreRenamed pairs binds binds) where
    abbrev env : Environment
    env = record { level = level; binds = binds }

    module _ (draws : List Value) (drew : AreRenamed pairs draws draws) where
      own_inputs : (entries : List (Entry ℕ)) → AllByRecursion IsInput entries → AreRenamed pairs (inputs_for env draws entries) (inputs_for env draws entries)
      own_inputs [] plain = tt
      own_inputs (value e ∷ entries) plain = (stored_renamed pairs level _ _ (renamed_of (sound_twin (value_twins pairs level 0 0 [] [] tt binds binds known e (λ t. absurd (let f = plain.0 in cc))))), own_inputs entries plain.1)
      own_inputs (drawn sequence ∷ entries) plain = (stored_renamed pairs level _ _ (own_drawn draws sequence drew), own_inputs entries plain.1)

      own_column : (inputs : List Value) → AreRenamed pairs inputs inputs → (at : Option ℕ) → IsRenamed pairs (unwrap_or (option_and_then (slice_get inputs) at) Null) (unwrap_or (option_and_then (slice_get inputs) at) Null)
      own_column inputs t None = tt
      own_column inputs t (Some n) = renamed_of (nth_twins pairs inputs inputs n t)

      own_row : (named : Option (List ℕ)) (inputs : List Value) → AreRenamed pairs inputs inputs → (number : ℕ) (cs : List Column) → AreRenamed pairs (row_values named inputs number cs) (row_values named inputs number cs)
      own_row named inputs t number [] = tt
      own_row named inputs t number (c ∷ cs) = (own_column inputs t (input_place named number), own_row named inputs t (number + 1) cs)

    module _ (schema : SchemaView) (view : View) (seen : AreOwn pairs view.rows) (own : IsOwnView pairs view) (ns : List ℕ) (row : ℕ) where
      own_found : (condition : Option (Term ℕ)) → AreOwn pairs (matching env condition view.rows)
      own_found condition = each_filtered (IsOwn pairs) (matches env condition) view.rows seen

      own_changed : (f : Image → Image) → ((image : Image) → IsOwn pairs image → IsOwn pairs (f image)) → (condition : Option (Term ℕ)) → AreOwn pairs (map f (matching env condition view.rows))
      own_changed f keeps condition = let found = matching env condition view.rows in each_mapped (IsOwn pairs) f found (each_weaker (IsOwn pairs) (λ image. IsOwn pairs (f image)) keeps found (own_found condition))

      executed_own : (plan : Plan ℕ) → HasInputs plan → GivesOwn pairs (executed schema view ns row env plan).reply → IsOwnAnswer pairs (executed schema view ns row env plan)
      executed_own (select table asked condition keys for_update) plain given =
          let found = matching env condition view.rows in
          unless_own view [] _ _ own (λ given. done_own table view [] (select_effect env view asked condition keys for_update) own (rows _ _ (renamed_rows pairs once level binds binds known found found (own_bags (IsRenamedImage pairs) found (own_found condition)) asked keys)) tt tt) given
      executed_own (next sequence) plain given =
          let drew = given_draws (next sequence) ns (executed schema view ns row env (next sequence)).reply refl given in
          record { outcome = rows _ _ (own_bags (AreRenamed pairs) (draws_of (next sequence) ns ∷ []) (drew, tt)); written = tt; own = own.own; kept = own.kept }
      executed_own (insert table named entries) plain given =
          let cs = columns_of schema.tables table in
          let draws = draws_of (insert table named entries) ns in
          let new = new_row env cs draws row table named entries in
          let effect = insert_effect new in
          unless_own view draws _ (done table view draws effect) own (λ given.
          let drew = given_draws (insert table named entries) ns (done table view draws effect).reply refl given in
          let image : IsOwn pairs new = record { row = given (Row row) refl; table = refl; left = own_row draws drew named (inputs_for env draws entries) (own_inputs draws drew entries plain) 0 cs } in
          done_own table view draws effect own (count 1) tt (image, tt)) given
      executed_own (update table changes condition) plain given = unless_own view [] _ _ own (λ given. done_own table view [] (update_effect env view changes condition) own (count _) tt (own_changed (updated env changes) (λ image t. updated_renamed pairs once level binds binds known changes image image t) condition)) given
      executed_own (delete table condition) plain given = unless_own view [] _ _ own (λ given. done_own table view [] (delete_effect env view condition) own (count _) tt (own_changed gone (λ image t. record { row = t.row; table = refl; left = tt }) condition)) given
      executed_own commit plain given = record { outcome = committed _ _ (own_bags (IsRenamedImage pairs) view.own.changes own.own); written = own.own; own = tt; kept = tt }
      executed_own rollback plain given = record { outcome = rolled_back; written = tt; own = tt; kept = tt }
      executed_own set_read_only plain given = record { outcome = marked; written = tt; own = own.own; kept = own.kept }
      executed_own (savepoint name) plain given =
          record { outcome = marked; written = tt; own = own.own; kept = each_with (KeepsOwn pairs) view.savepoints (record { name = name; own = view.own }) own.kept own.own }
      executed_own (rollback_to name) plain given = record {
        outcome = rolled_back;
        written = tt;
        own = own_at_one (λ (o : Transaction). AreOwn pairs o.changes) name view.own view.savepoints own.own own.kept;
        kept = each_up_to (KeepsOwn pairs) name view.savepoints own.kept;
      }

  -- ---- all calls

  -- each bind of the statement stands for itself, and its inputs name no row
  abbrev IsOwnRequest : Request → Type 0
  IsOwnRequest (statement plan binds) = AreRenamed pairs binds binds × HasInputs plan
  IsOwnRequest other = Unit {0}

  module _ (schema : SchemaView) (binds : List Value) (known : AreRenamed pairs binds binds) where
    own_checked : (table : Option ℕ) (found : Result (Plan ℕ) Fault) → ((plan : Plan ℕ) → found ≡ Ok plan → HasInputs plan) → IsOwnRequest (checked table binds found)
    own_checked table (Ok plan) inputs = (known, inputs plan refl)
    own_checked table (Err fault) inputs = tt

    own_read : (parsed : Option (Plan Name)) → IsOwnRequest (read schema binds parsed)
    own_read None = tt
    own_read (Some parsed) = own_checked (table_named schema parsed) (check_of schema binds parsed) (λ plan e. inputs_name_no_row schema binds parsed plan e)

  own_request : (schema : SchemaView) (call : Call) → AreRenamed pairs (binds_of call) (binds_of call) → IsOwnRequest (request_of schema call)
  own_request schema (Connect service) known = tt
  own_request schema (Sql text binds) known = own_read schema binds known (statement_in schema.version text)
  own_request schema Disconnect known = tt

  answer_own : HasNoIdTwice pairs → (schema : SchemaView) (view : View) → AreOwn pairs view.rows → IsOwnView pairs view → (ns : List ℕ) (row : ℕ) (request : Request) → IsOwnRequest request → GivesOwn pairs (answer schema view ns row request).reply → IsOwnAnswer pairs (answer schema view ns row request)
  answer_own once schema view seen own ns row (connect service) is given = unless_own view [] (connect_fault view service) _ own (λ given. record { outcome = connected; written = tt; own = own.own; kept = own.kept }) given
  answer_own once schema view seen own ns row disconnect is given = unless_own view [] (disconnect_fault view) _ own (λ given. record { outcome = over; written = tt; own = tt; kept = tt }) given
  answer_own once schema view seen own ns row unreadable is given = record { outcome = refused _; written = tt; own = own.own; kept = own.kept }
  answer_own once schema view seen own ns row (unsound table fault) is given = record { outcome = refused _; written = tt; own = own.own; kept = own.kept }
  answer_own once schema view seen own ns row (statement plan binds) is given = unless_own view [] (statement_fault view plan) _ own (executed_own once schema.level binds is.0 schema view seen own ns row plan is.1) given

  -- ---- states

  module _ (state : State) (is : HasOwnIds pairs state) (session : ℕ) where
    own_session : AreOwn pairs (session_at state session).own.changes
    own_session = one_of (λ (s : Session). AreOwn pairs s.own.changes) state.sessions session disconnected tt is.sessions

    own_seen : (snapshot : Option ℕ) → AllByRecursion (AreOwn pairs) (commits_seen snapshot state.commits)
    own_seen None = is.commits
    own_seen (Some n) = each_taken (AreOwn pairs) n state.commits is.commits

    own_kept : AllByRecursion (KeepsOwn pairs) (session_at state session).savepoints
    own_kept = one_of (λ (s : Session). AllByRecursion (KeepsOwn pairs) s.savepoints) state.sessions session disconnected tt is.kept

    own_view : (table : Option ℕ) → AreOwn pairs (view_of state session table).rows × IsOwnView pairs (view_of state session table)
    own_view None = (tt, record { own = own_session; kept = own_kept })
    own_view (Some table) =
        let mine = session_at state session in
        let among = commits_seen mine.snapshot state.commits in (
          each_laid (IsOwn pairs) (lay_all (of_table table state.start.rows) (map (of_table table) among)) (of_table table mine.own.changes)
              (each_laid_all (IsOwn pairs) (of_table table state.start.rows) (map (of_table table) among) (each_filtered (IsOwn pairs) _ state.start.rows is.start)
              (each_mapped (AreOwn pairs) (of_table table) among (each_weaker (AreOwn pairs) (λ images. AreOwn pairs (of_table table images)) (λ images t. each_filtered (IsOwn pairs) _ images t) among (own_seen mine.snapshot))))
              (each_filtered (IsOwn pairs) _ mine.own.changes own_session),
          record { own = own_session; kept = own_kept },
        )

  own_commits : (commits : List (List Image)) (images : List Image) → AllByRecursion (AreOwn pairs) commits → AreOwn pairs images → AllByRecursion (AreOwn pairs) (with_commit commits images)
  own_commits commits [] h g = h
  own_commits commits (image ∷ images) h g = each_joined (AreOwn pairs) commits ((image ∷ images) ∷ []) h (g, tt)

  module _ (once : HasNoIdTwice pairs) (state : State) (is : HasOwnIds pairs state) (session : ℕ) (call : Call) (known : AreRenamed pairs (binds_of call) (binds_of call)) (given : GivesOwn pairs (reply_in state session call)) where
    own_answer : IsOwnAnswer pairs (answer_in state session call)
    own_answer =
        let schema = state.start.schema in
        let request = request_of schema call in
        let view = own_view state is session (table_in request) in
        answer_own once schema (view_of state session (table_in request)) view.0 view.1 state.next_values state.next_row request (own_request schema call known) given

    -- so do the ids that the call's outcome tells, and those of the state after it
    pub own_outcome : IsRenamedOutcome pairs (reply_in state session call).outcome (reply_in state session call).outcome
    own_outcome = own_answer.outcome

    pub own_step : HasOwnIds pairs (step state session call)
    own_step =
        let a = answer_in state session call in
        record {
          start = is.start;
          commits = own_commits state.commits (committed_in a.reply.outcome) is.commits own_answer.written;
          sessions = each_set (λ (s : Session). AreOwn pairs s.own.changes) state.sessions session (session_after (session_at state session) (length state.commits) a) own_answer.own is.sessions;
          kept = each_set (λ (s : Session). AllByRecursion (KeepsOwn pairs) s.savepoints) state.sessions session (session_after (session_at state session) (length state.commits) a) own_answer.kept is.kept;
        }

pub steps_tell_own : StepsTellOwnIds
steps_tell_own pairs state session call once is known given = (own_outcome pairs once state is session call known given, own_step pairs once state is session call known given)
