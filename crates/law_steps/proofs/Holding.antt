-- What a session holds comes with its statements, stays while its transaction goes on, and ends with it.
use Rattle.std.proofs.Common.{◌≡◌, ◌∙◌, ◌⊎◌, inl, inr, ℕ, Bool, true, false, List, [], ◌∷◌, ◌++◌, length, map, refl, sym, ap, subst}
use Rattle.std.proofs.lemmas.Bool.{and_from, and_parts, cases_eq, cases_lt, eq-eqb, eqb-true}
use Rattle.std.proofs.lemmas.Cmp.{eq_by_cmp_equiv}
use Rattle.std.proofs.lemmas.List.{get_or_past}
use Rattle.std.proofs.lemmas.List.Elements.{Contains-append_left, Contains-push}
use Rattle.std.proofs.lemmas.List.Folds.{Any-from_list_any}
use Rattle.std.specs.Prelude.{if◌then◌else◌, nat_eq, Option, None, Some}
use Rattle.std.specs.List.{Any, Contains, list_any}
use Rattle.desk_values.specs.declared.call.Call.{Call}
use Rattle.desk_values.specs.declared.call.Outcome.TheVariants.{Connected, Disconnected}
use Rattle.desk_values.specs.declared.fault.Fault.{Fault}
use Rattle.desk_values.specs.declared.value.Image.{Image}
use Rattle.desk_values.specs.declared.value.Value.{Value}
use Rattle.desk_values.specs.declared.value.Value.TheVariants.{Int, Text, Row, Draw, Null}
use Rattle.desk_values.specs.Comparison.{same_key}
use Rattle.desk_schema.specs.Schema.{SchemaView, columns_of}
use Rattle.server_words.proofs.Exact.{same_is}
use Rattle.desk_schema.proofs.Members.{Contains-cases, Contains-here, Contains-none, Contains-there}
use Rattle.sql_tree.specs.declared.tree.Key.{Key}
use Rattle.sql_tree.specs.Plain.{Asked, Term, Change, Entry, Plan, select, next, insert, update, delete, commit, rollback, set_read_only, savepoint, rollback_to}
use Rattle.server_words.specs.declared.causes.Causes.{Causes}
use Rattle.server_words.specs.declared.effect.Effect.{Effect}
use Rattle.server_words.specs.declared.session.HeldKey.{HeldKey}
use Rattle.server_words.specs.declared.session.Session.{Session}
use Rattle.server_words.specs.declared.session.Transaction.{Transaction}
use Rattle.server_words.specs.Answer.{Answer, answer, delete_causes, delete_effect, done, ended, executed, insert_causes, insert_effect, new_row, reply_of, ruled, select_causes, select_effect, unchanged, unless, update_causes, update_effect}
use Rattle.server_words.specs.Causes.{connect_fault, disconnect_fault, ranked, statement_fault}
use Rattle.server_words.specs.Draws.{draws_of}
use Rattle.server_words.specs.Found.{Environment, matches, matching}
use Rattle.server_words.specs.Request.{Request, connect, disconnect, unreadable, unsound, statement, request_of, table_in}
use Rattle.server_words.specs.Rows.{row_key, row_numbers}
use Rattle.server_words.specs.State.{State, disconnected, nothing, session_at}
use Rattle.server_words.specs.Step.{answer_in, reply_in, snapshot_after, step}
use Rattle.server_words.specs.View.{View, view_of}
use Rattle.server_words.specs.Writes.{holding, is_held_key, keys_moved, moved_keys, moves_key, updated, with_key, with_keys, with_row, with_rows}
use Rattle.server_words.proofs.Ordering.{column_total}
use Rattle.law_steps.specs.Held.{GivesKey, IsKey, SeesMatch, Takes, environment, row_to_insert}
use Rattle.law_steps.specs.Holding.{EndedSessionsHoldNothing, HoldsStay, InsertedRowsAreHeld, IsNoRefusal, MovedKeysAreHeld, TakenRowsAreHeld, TakesKey}
use Rattle.law_steps.specs.Reading.{Requests, ends_transaction, rows_in}
use Rattle.law_steps.proofs.Leaving.{beyond_at, left_at, others_are_left, view_own}
use Rattle.law_steps.proofs.Listed.{joined, kept, mapped, number_in}

-- ---- rows that are held

row_stays : (held : List ℕ) (row r : ℕ) → Contains held r → Contains (with_row held row) r
row_stays held row r there = elim (list_any (nat_eq row) held) as (λ b. Contains (if b then held else held ++ row ∷ []) r) [ true ↦ there | false ↦ Contains-append_left held (row ∷ []) r there ]

row_comes : (held : List ℕ) (row : ℕ) → Contains (with_row held row) row
row_comes held row = elim (list_any (nat_eq row) held) as (λ b. list_any (nat_eq row) held ≡ b → Contains (if b then held else held ++ row ∷ []) row) [ true ↦ λ is. number_in held row is | false ↦ λ none. Contains-push held row ] refl

rows_stay : (held rows : List ℕ) (r : ℕ) → Contains held r → Contains (with_rows held rows) r
rows_stay held [] r there = there
rows_stay held (row ∷ rows) r there = rows_stay (with_row held row) rows r (row_stays held row r there)

rows_come : (held rows : List ℕ) (r : ℕ) → Contains rows r → Contains (with_rows held rows) r
rows_come held [] r there = absurd (Contains-none r there)
rows_come held (row ∷ rows) r there = elim (Contains-cases row rows r there) [
  | inl same ↦ rows_stay (with_row held row) rows r (subst (Contains (with_row held row)) same (row_comes held row))
  | inr later ↦ rows_come (with_row held row) rows r later
]

-- ---- keys that are held

module _ (table : ℕ) where
  abbrev of_it : Value → HeldKey
  of_it key = record { table = table; key = key }

  key_stays : (held : List HeldKey) (key : Value) (k : HeldKey) → Contains held k → Contains (with_key table held key) k
  key_stays held key k there = elim (list_any (is_held_key table key) held) as (λ b. Contains (if b then held else held ++ of_it key ∷ []) k) [ true ↦ there | false ↦ Contains-append_left held (of_it key ∷ []) k there ]

  held_is : (key : Value) (held : HeldKey) → is_held_key table key held ≡ true → held ≡ of_it key
  held_is key held is =
      let parts = and_parts (nat_eq held.table table) (same_key 1 held.key key) is in
      let table_is : held.table ≡ table = eqb-true held.table table parts.0 in
      let key_is : held.key ≡ key = same_is held.key key parts.1 in
      λ i. record { table = table_is i; key = key_is i }

  key_comes : (held : List HeldKey) (key : Value) → Contains (with_key table held key) (of_it key)
  key_comes held key = elim (list_any (is_held_key table key) held) as (λ b. list_any (is_held_key table key) held ≡ b → Contains (if b then held else held ++ of_it key ∷ []) (of_it key)) [
    | true ↦ λ is. (let found = Any-from_list_any (is_held_key table key) held is in subst (Contains held) (held_is key found.1 found.4) (found.0, found.2, found.3))
    | false ↦ λ none. Contains-push held (of_it key)
  ] refl

  keys_stay : (held : List HeldKey) (keys : List Value) (k : HeldKey) → Contains held k → Contains (with_keys table held keys) k
  keys_stay held [] k there = there
  keys_stay held (key ∷ keys) k there = keys_stay (with_key table held key) keys k (key_stays held key k there)

  keys_come : (held : List HeldKey) (keys : List Value) (key : Value) → Contains keys key → Contains (with_keys table held keys) (of_it key)
  keys_come held [] key there = absurd (Contains-none key there)
  keys_come held (first ∷ keys) key there = elim (Contains-cases first keys key there) [
    | inl same ↦ keys_stay (with_key table held first) keys (of_it key) (subst (λ (k : Value). Contains (with_key table held first) (of_it k)) same (key_comes held first))
    | inr later ↦ keys_come (with_key table held first) keys key later
  ]

-- a key that is there is one with itself
same_itself : (level : ℕ) (key : Value) → ¬ (key ≡ Null) → same_key level key key ≡ true
same_itself level Null there = absurd (there refl)
same_itself level (Int n) there = (eq_by_cmp_equiv (column_total level)).refl (Int n)
same_itself level (Text text) there = (eq_by_cmp_equiv (column_total level)).refl (Text text)
same_itself level (Row n) there = eq-eqb n n refl
same_itself level (Draw sequence n) there = and_from (nat_eq sequence sequence) (nat_eq n n) (eq-eqb sequence sequence refl) (eq-eqb n n refl)

-- ---- the answer to a statement

module _ (state : State) (session : ℕ) (call : Call) where
  by_statement : (P : Answer → Type 0) (plan : Plan ℕ) (binds : List Value) → Requests state call plan binds
      → P (answer state.start.schema (view_of state session (table_in (statement plan binds))) state.next_values state.next_row (statement plan binds)) → P (answer_in state session call)
  by_statement P plan binds asks = subst (λ (r : Request). P (answer state.start.schema (view_of state session (table_in r)) state.next_values state.next_row r)) (sym asks)

-- ---- what is held once a statement is done

abbrev Leaves : (Transaction → Type 0) → Answer → Type 0
Leaves P a = IsNoRefusal a.reply.outcome → P a.own

unless_leaves : (P : Transaction → Type 0) (view : View) (draws : List Value) (fault : Option Fault) (a : Answer) → Leaves P a → Leaves P (unless view draws fault a)
unless_leaves P view draws None a leaves = leaves
unless_leaves P view draws (Some fault) a leaves = λ answered. absurd (answered fault refl)

ruled_leaves : (P : Transaction → Type 0) (table : ℕ) (view : View) (draws : List Value) (causes : Causes) (effect : Effect) → P (holding table view.own effect.writing) → Leaves P (ruled table view draws causes effect)
ruled_leaves P table view draws causes effect holds = unless_leaves P view draws (ranked causes) (done table view draws effect) (λ answered. holds)

module _ (state : State) (session : ℕ) (call : Call) (binds : List Value) where
  abbrev env : Environment
  env = environment state binds

  -- the view of a statement on a table
  abbrev seen : ℕ → View
  seen table = view_of state session (Some table)

  found : (table : ℕ) (condition : Option (Term ℕ)) (image : Image) → SeesMatch state session table env condition image → Contains (matching env condition (seen table).rows) image
  found table condition image sees = kept (matches env condition) (rows_in state session table) image sees.seen sees.matches

  module _ (P : Transaction → Type 0) where
    by_plan : (table : ℕ) (plan : Plan ℕ)
        → Leaves P (executed state.start.schema (seen table) state.next_values state.next_row env plan)
        → Leaves P (unless (seen table) [] (statement_fault (seen table) plan) (executed state.start.schema (seen table) state.next_values state.next_row env plan))
    by_plan table plan = unless_leaves P (seen table) [] (statement_fault (seen table) plan) (executed state.start.schema (seen table) state.next_values state.next_row env plan)

    selects : (table : ℕ) (asked : Asked ℕ) (condition : Option (Term ℕ)) (keys : List (Key ℕ)) → Requests state call (select table asked condition keys true) binds
        → P (holding table (seen table).own (select_effect env (seen table) asked condition keys true).writing) → Leaves P (answer_in state session call)
    selects table asked condition keys asks holds =
        let plan = select table asked condition keys true in
        by_statement state session call (Leaves P) plan binds asks (by_plan table plan (ruled_leaves P table (seen table) [] (select_causes env (seen table) asked condition true) (select_effect env (seen table) asked condition keys true) holds))

    inserts : (table : ℕ) (named : Option (List ℕ)) (entries : List (Entry ℕ)) → Requests state call (insert table named entries) binds
        → P (holding table (seen table).own (insert_effect (row_to_insert state binds table named entries)).writing) → Leaves P (answer_in state session call)
    inserts table named entries asks holds =
        let plan = insert table named entries in
        let draws = draws_of plan state.next_values in
        let new = row_to_insert state binds table named entries in
        by_statement state session call (Leaves P) plan binds asks (by_plan table plan (ruled_leaves P table (seen table) draws (insert_causes env (columns_of state.start.schema.tables table) (seen table) draws new entries) (insert_effect new) holds))

    updates : (table : ℕ) (changes : List (Change ℕ)) (condition : Option (Term ℕ)) → Requests state call (update table changes condition) binds
        → P (holding table (seen table).own (update_effect env (seen table) changes condition).writing) → Leaves P (answer_in state session call)
    updates table changes condition asks holds =
        let plan = update table changes condition in
        by_statement state session call (Leaves P) plan binds asks (by_plan table plan (ruled_leaves P table (seen table) [] (update_causes env (columns_of state.start.schema.tables table) (seen table) changes condition) (update_effect env (seen table) changes condition) holds))

    deletes : (table : ℕ) (condition : Option (Term ℕ)) → Requests state call (delete table condition) binds
        → P (holding table (seen table).own (delete_effect env (seen table) condition).writing) → Leaves P (answer_in state session call)
    deletes table condition asks holds =
        let plan = delete table condition in
        by_statement state session call (Leaves P) plan binds asks (by_plan table plan (ruled_leaves P table (seen table) [] (delete_causes env (seen table) condition) (delete_effect env (seen table) condition) holds))

  -- the number of a row that is found is held
  found_held : (table : ℕ) (condition : Option (Term ℕ)) (image : Image) → SeesMatch state session table env condition image
      → Contains (with_rows (seen table).own.rows (row_numbers (matching env condition (seen table).rows))) image.row
  found_held table condition image sees =
      let rows = matching env condition (seen table).rows in
      rows_come (seen table).own.rows (row_numbers rows) image.row (mapped (λ (i : Image). i.row) rows image (found table condition image sees))

  row_taken : (plan : Plan ℕ) (image : Image) → Requests state call plan binds → Takes state session env plan image → Leaves (λ own. Contains own.rows image.row) (answer_in state session call)
  row_taken (select table asked condition keys true) image asks takes = selects (λ own. Contains own.rows image.row) table asked condition keys asks (found_held table condition image takes)
  row_taken (select table asked condition keys false) image asks takes = absurd takes
  row_taken (update table changes condition) image asks takes = updates (λ own. Contains own.rows image.row) table changes condition asks (found_held table condition image takes)
  row_taken (delete table condition) image asks takes = deletes (λ own. Contains own.rows image.row) table condition asks (found_held table condition image takes)
  row_taken (next sequence) image asks takes = absurd takes
  row_taken (insert table named entries) image asks takes = absurd takes
  row_taken commit image asks takes = absurd takes
  row_taken rollback image asks takes = absurd takes
  row_taken set_read_only image asks takes = absurd takes
  row_taken (savepoint name) image asks takes = absurd takes
  row_taken (rollback_to name) image asks takes = absurd takes

  -- ---- keys

  abbrev HasKey : ℕ → Value → Transaction → Type 0
  HasKey table key own = Contains own.keys (of_it table key)

  both_keys : (moves : Bool) (old new key : Value) → moves ≡ true → ((key ≡ new) ⊎ (key ≡ old)) → Contains (if moves then old ∷ new ∷ [] else []) key
  both_keys false old new key is which = absurd (let never : false ≡ true = is in cc)
  both_keys true old new key is (inl same) = subst (Contains (old ∷ new ∷ [])) (sym same) (Contains-there old (new ∷ []) new (Contains-here new []))
  both_keys true old new key is (inr same) = subst (Contains (old ∷ new ∷ [])) (sym same) (Contains-here old (new ∷ []))

  moved_key : (table : ℕ) (changes : List (Change ℕ)) (condition : Option (Term ℕ)) (key : Value) (image : Image) → Requests state call (update table changes condition) binds
      → SeesMatch state session table env condition image → moves_key env changes image ≡ true → ((key ≡ row_key (updated env changes image)) ⊎ (key ≡ row_key image)) → Leaves (HasKey table key) (answer_in state session call)
  moved_key table changes condition key image asks sees moves which =
      let rows = matching env condition (seen table).rows in
      let among : Contains (keys_moved env changes image) key = both_keys (moves_key env changes image) (row_key image) (row_key (updated env changes image)) key moves which in
      updates (HasKey table key) table changes condition asks
      (keys_come table (seen table).own.keys (moved_keys env changes rows) key (joined (keys_moved env changes) rows image key (found table condition image sees) among))

  key_given : (plan : Plan ℕ) (table : ℕ) (key : Value) → Requests state call plan binds → GivesKey state session binds plan table key → Leaves (HasKey table key) (answer_in state session call)
  key_given (insert table named entries) of key asks gives =
      let new = row_to_insert state binds table named entries in
      inserts (HasKey of key) table named entries asks
      (subst (λ (t : ℕ). HasKey t key (holding table (seen table).own (insert_effect new).writing)) (sym gives.0)
      (keys_come table (seen table).own.keys (row_key new ∷ []) key (subst (Contains (row_key new ∷ [])) (sym gives.1) (Contains-here (row_key new) []))))
  key_given (update table changes condition) of key asks gives =
      subst (λ (t : ℕ). Leaves (HasKey t key) (answer_in state session call)) (sym gives.0)
      (moved_key table changes condition key gives.1 asks gives.2 gives.3 (inl gives.4))
  key_given (select table asked condition keys for_update) of key asks gives = absurd gives
  key_given (next sequence) of key asks gives = absurd gives
  key_given (delete table condition) of key asks gives = absurd gives
  key_given commit of key asks gives = absurd gives
  key_given rollback of key asks gives = absurd gives
  key_given set_read_only of key asks gives = absurd gives
  key_given (savepoint name) of key asks gives = absurd gives
  key_given (rollback_to name) of key asks gives = absurd gives

  key_taken : (plan : Plan ℕ) (table : ℕ) (key : Value) → Requests state call plan binds → TakesKey state session binds plan table key → Leaves (HasKey table key) (answer_in state session call)
  key_taken (update table changes condition) of key asks takes =
      subst (λ (t : ℕ). Leaves (HasKey t key) (answer_in state session call)) (sym takes.0)
      (moved_key table changes condition key takes.1 asks takes.2 takes.3 (inr takes.4))
  key_taken (delete table condition) of key asks takes =
      let rows = matching env condition (seen table).rows in
      subst (λ (t : ℕ). Leaves (HasKey t key) (answer_in state session call)) (sym takes.0)
      (deletes (HasKey table key) table condition asks
      (keys_come table (seen table).own.keys (map row_key rows) key (subst (Contains (map row_key rows)) (sym takes.3) (mapped row_key rows takes.1 (found table condition takes.1 takes.2)))))
  key_taken (select table asked condition keys for_update) of key asks takes = absurd takes
  key_taken (next sequence) of key asks takes = absurd takes
  key_taken (insert table named entries) of key asks takes = absurd takes
  key_taken commit of key asks takes = absurd takes
  key_taken rollback of key asks takes = absurd takes
  key_taken set_read_only of key asks takes = absurd takes
  key_taken (savepoint name) of key asks takes = absurd takes
  key_taken (rollback_to name) of key asks takes = absurd takes

pub taken_rows_are_held : TakenRowsAreHeld
taken_rows_are_held state session call plan binds image within asks answered takes =
    subst (λ (s : Session). Contains s.own.rows image.row) (sym (left_at state session call within)) (row_taken state session call binds plan image asks takes answered)

pub inserted_rows_are_held : InsertedRowsAreHeld
inserted_rows_are_held state session call table named entries binds within asks answered =
    let new = row_to_insert state binds table named entries in
    let own = (view_of state session (Some table)).own in
    subst (λ (s : Session). Contains s.own.rows new.row) (sym (left_at state session call within))
    (inserts state session call binds (λ own. Contains own.rows new.row) table named entries asks (rows_come own.rows (new.row ∷ []) new.row (Contains-here new.row [])) answered)

pub moved_keys_are_held : MovedKeysAreHeld
moved_keys_are_held state session call plan binds table key within asks answered there which =
    let has : Contains (answer_in state session call).own.keys (of_it table key) = elim which [
      | inl gives ↦ key_given state session call binds plan table key asks gives answered
      | inr takes ↦ key_taken state session call binds plan table key asks takes answered
    ] in
    subst (λ (s : Session). Any (IsKey state.start.schema.level table key) s.own.keys) (sym (left_at state session call within))
    (has.0, of_it table key, has.1, has.2, (refl, same_itself state.start.schema.level key there))

-- ---- what stays held

-- each row and each key that is held before is held after
record Keeps (old new : Transaction) : Type 0 where
  rows : (row : ℕ) → Contains old.rows row → Contains new.rows row
  keys : (k : HeldKey) → Contains old.keys k → Contains new.keys k

all_kept : (own : Transaction) → Keeps own own
all_kept own = record { rows = λ row there. there; keys = λ k there. there }

abbrev KeepsOpen : View → Answer → Type 0
KeepsOpen view a = ends_transaction a.reply.outcome ≡ false → Keeps view.own a.own

unless_open : (view : View) (draws : List Value) (fault : Option Fault) (a : Answer) → KeepsOpen view a → KeepsOpen view (unless view draws fault a)
unless_open view draws None a keeps = keeps
unless_open view draws (Some fault) a keeps = λ goes. all_kept view.own

ruled_open : (table : ℕ) (view : View) (draws : List Value) (causes : Causes) (effect : Effect) → KeepsOpen view (ruled table view draws causes effect)
ruled_open table view draws causes effect = unless_open view draws (ranked causes) (done table view draws effect) (λ goes. record {
  rows = λ row there. rows_stay view.own.rows effect.writing.rows row there;
  keys = λ k there. keys_stay table view.own.keys effect.writing.keys k there;
})

module _ (schema : SchemaView) (view : View) (next_values : List ℕ) (row : ℕ) where
  executed_open : (env : Environment) (plan : Plan ℕ) → KeepsOpen view (executed schema view next_values row env plan)
  executed_open env (select table asked condition keys for_update) = ruled_open table view [] (select_causes env view asked condition for_update) (select_effect env view asked condition keys for_update)
  executed_open env (next sequence) = λ goes. all_kept view.own
  executed_open env (insert table named entries) =
      let draws = draws_of (insert table named entries) next_values in
      let new = new_row env (columns_of schema.tables table) draws row table named entries in
      ruled_open table view draws (insert_causes env (columns_of schema.tables table) view draws new entries) (insert_effect new)
  executed_open env (update table changes condition) = ruled_open table view [] (update_causes env (columns_of schema.tables table) view changes condition) (update_effect env view changes condition)
  executed_open env (delete table condition) = ruled_open table view [] (delete_causes env view condition) (delete_effect env view condition)
  executed_open env commit = λ goes. absurd (cc)
  executed_open env rollback = λ goes. absurd (cc)
  executed_open env set_read_only = λ goes. all_kept view.own
  executed_open env (savepoint name) = λ goes. all_kept view.own
  executed_open env (rollback_to name) = λ goes. absurd (cc)

  answer_open : (request : Request) → KeepsOpen view (answer schema view next_values row request)
  answer_open (connect service) = unless_open view [] (connect_fault view service) (record (unchanged view (reply_of Connected [] None)) { rights = service }) (λ goes. all_kept view.own)
  answer_open disconnect = unless_open view [] (disconnect_fault view) (ended None Disconnected) (λ goes. absurd (cc))
  answer_open unreadable = λ goes. all_kept view.own
  answer_open (unsound table fault) = λ goes. all_kept view.own
  answer_open (statement plan binds) =
      let env : Environment = record { level = schema.level; binds = binds } in
      unless_open view [] (statement_fault view plan) (executed schema view next_values row env plan) (executed_open env plan)

  abbrev EndsAll : Answer → Type 0
  EndsAll a = ends_transaction a.reply.outcome ≡ true → (a.own ≡ nothing) × (a.reads_only ≡ false) × (a.savepoints ≡ [])

  unless_ends : (draws : List Value) (fault : Option Fault) (a : Answer) → EndsAll a → EndsAll (unless view draws fault a)
  unless_ends draws None a all = all
  unless_ends draws (Some fault) a all = λ never. absurd (let no : false ≡ true = never in cc)

  ruled_ends : (table : ℕ) (draws : List Value) (causes : Causes) (effect : Effect) → ends_transaction effect.outcome ≡ false → EndsAll (ruled table view draws causes effect)
  ruled_ends table draws causes effect goes = unless_ends draws (ranked causes) (done table view draws effect) (λ ends. absurd (let no : false ≡ true = sym goes ∙ ends in cc))

  executed_ends : (env : Environment) (plan : Plan ℕ) → ((name : List ℕ) → ¬ (plan ≡ rollback_to name)) → EndsAll (executed schema view next_values row env plan)
  executed_ends env (select table asked condition keys for_update) stays = ruled_ends table [] (select_causes env view asked condition for_update) (select_effect env view asked condition keys for_update) refl
  executed_ends env (next sequence) stays = λ never. absurd (let no : false ≡ true = never in cc)
  executed_ends env (insert table named entries) stays =
      let draws = draws_of (insert table named entries) next_values in
      let new = new_row env (columns_of schema.tables table) draws row table named entries in
      ruled_ends table draws (insert_causes env (columns_of schema.tables table) view draws new entries) (insert_effect new) refl
  executed_ends env (update table changes condition) stays = ruled_ends table [] (update_causes env (columns_of schema.tables table) view changes condition) (update_effect env view changes condition) refl
  executed_ends env (delete table condition) stays = ruled_ends table [] (delete_causes env view condition) (delete_effect env view condition) refl
  executed_ends env commit stays = λ ends. (refl, refl, refl)
  executed_ends env rollback stays = λ ends. (refl, refl, refl)
  executed_ends env set_read_only stays = λ never. absurd (let no : false ≡ true = never in cc)
  executed_ends env (savepoint name) stays = λ never. absurd (let no : false ≡ true = never in cc)
  executed_ends env (rollback_to name) stays = absurd (stays name refl)

  answer_ends : (request : Request) → ((name : List ℕ) (binds : List Value) → ¬ (request ≡ statement (rollback_to name) binds)) → EndsAll (answer schema view next_values row request)
  answer_ends (connect service) stays = unless_ends [] (connect_fault view service) (record (unchanged view (reply_of Connected [] None)) { rights = service }) (λ never. absurd (let no : false ≡ true = never in cc))
  answer_ends disconnect stays = unless_ends [] (disconnect_fault view) (ended None Disconnected) (λ ends. (refl, refl, refl))
  answer_ends unreadable stays = λ never. absurd (let no : false ≡ true = never in cc)
  answer_ends (unsound table fault) stays = λ never. absurd (let no : false ≡ true = never in cc)
  answer_ends (statement plan binds) stays =
      let env : Environment = record { level = schema.level; binds = binds } in
      unless_ends [] (statement_fault view plan) (executed schema view next_values row env plan) (executed_ends env plan (λ name same. stays name binds (ap (λ (p : Plan ℕ). statement p binds) same)))

module _ (state : State) (session : ℕ) where
  own_step : (call : Call) → ends_transaction (reply_in state session call).outcome ≡ false → Keeps (session_at state session).own (session_at (step state session call) session).own
  own_step call goes = elim (cases_lt session (length state.sessions)) [
    | inl within ↦ (
        let request = request_of state.start.schema call in
        let view = view_of state session (table_in request) in
        let keeps : Keeps view.own (answer_in state session call).own = answer_open state.start.schema view state.next_values state.next_row request goes in
        subst (λ (own : Transaction). Keeps own (session_at (step state session call) session).own) (view_own state session (table_in request))
        (subst (λ (s : Session). Keeps view.own s.own) (sym (left_at state session call within)) keeps))
    | inr past ↦ (
        let before : session_at state session ≡ disconnected = get_or_past state.sessions session disconnected past in
        subst (λ (s : Session). Keeps s.own (session_at (step state session call) session).own) (sym before)
        (subst (λ (s : Session). Keeps nothing s.own) (sym (beyond_at state session call past)) (all_kept nothing)))
  ]

  any_step : (by : ℕ) (call : Call) → (by ≡ session → ends_transaction (reply_in state by call).outcome ≡ false) → Keeps (session_at state session).own (session_at (step state by call) session).own
  any_step by call goes = elim (cases_eq session by) [
    | inl same ↦ subst (λ (s : ℕ). Keeps (session_at state session).own (session_at (step state s call) session).own) same
        (own_step call (subst (λ (s : ℕ). ends_transaction (reply_in state s call).outcome ≡ false) (sym same) (goes (sym same))))
    | inr apart ↦ subst (λ (s : Session). Keeps (session_at state session).own s.own) (sym (others_are_left state by session call apart)) (all_kept (session_at state session).own)
  ]

key_kept : (level table : ℕ) (key : Value) (old new : Transaction) → Keeps old new → Any (IsKey level table key) old.keys → Any (IsKey level table key) new.keys
key_kept level table key old new keeps held =
    let there = keeps.keys held.1 (held.0, held.2, held.3) in
    (there.0, held.1, there.1, there.2, held.4)

pub holds_stay : HoldsStay
holds_stay state session [] goes = (λ row held. held, λ table key held. held)
holds_stay state session (call ∷ calls) goes =
    let keeps = any_step state session call.0 call.1 goes.0 in
    let new = step state call.0 call.1 in
    let rest = holds_stay new session calls goes.1 in (
      λ row held. rest.0 row (keeps.rows row held),
      λ table key held. rest.1 table key (key_kept state.start.schema.level table key (session_at state session).own (session_at new session).own keeps held),
    )

reads_no_more : (reads : Bool) (snapshot : Option ℕ) (commits : ℕ) → reads ≡ false → snapshot_after reads snapshot commits ≡ None
reads_no_more true snapshot commits is = absurd (let no : true ≡ false = is in cc)
reads_no_more false snapshot commits is = refl

pub ended_sessions_hold_nothing : EndedSessionsHoldNothing
ended_sessions_hold_nothing state session call ends stays = elim (cases_lt session (length state.sessions)) [
  | inl within ↦ (
      let request = request_of state.start.schema call in
      let a = answer_in state session call in
      let before = session_at state session in
      let all : (a.own ≡ nothing) × (a.reads_only ≡ false) × (a.savepoints ≡ []) =
      answer_ends state.start.schema (view_of state session (table_in request)) state.next_values state.next_row request (λ name binds asks. stays (name, binds, asks)) ends in
      let left = left_at state session call within in
      (ap (λ (s : Session). s.own) left ∙ all.0, ap (λ (s : Session). s.snapshot) left ∙ reads_no_more a.reads_only before.snapshot (length state.commits) all.1, ap (λ (s : Session). s.savepoints) left ∙ all.2))
  | inr past ↦ (let left = beyond_at state session call past in (ap (λ (s : Session). s.own) left, ap (λ (s : Session). s.snapshot) left, ap (λ (s : Session). s.savepoints) left))
]
