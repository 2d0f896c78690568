-- What a session holds after a call it held before, or the call's statement brings it.
use Rattle.std.proofs.Common.{◌≡◌, ◌⊎◌, inl, inr, ℕ, Bool, true, false, List, [], ◌∷◌, ◌++◌, length, map, refl, sym, subst}
use Rattle.std.proofs.lemmas.Bool.{cases_lt}
use Rattle.std.proofs.lemmas.List.Elements.{Contains-push_cases}
use Rattle.std.specs.Prelude.{if◌then◌else◌, nat_eq, Option, None, Some}
use Rattle.std.specs.List.{Contains, list_any}
use Rattle.desk_values.specs.declared.call.Call.{Call}
use Rattle.desk_values.specs.declared.call.Outcome.TheVariants.{Connected, Disconnected}
use Rattle.desk_values.specs.declared.fault.Fault.{Fault}
use Rattle.desk_values.specs.declared.value.Image.{Image}
use Rattle.desk_values.specs.declared.value.Value.{Value}
use Rattle.desk_schema.specs.Schema.{columns_of}
use Rattle.desk_schema.proofs.Members.{Contains-cases, Contains-here, Contains-none, Contains-there}
use Rattle.sql_tree.specs.Plain.{Term, Change, Plan, select, next, insert, update, delete, commit, rollback, set_read_only, savepoint, rollback_to}
use Rattle.server_words.specs.declared.causes.Causes.{Causes}
use Rattle.server_words.specs.declared.effect.Effect.{Effect}
use Rattle.server_words.specs.declared.session.HeldKey.{HeldKey}
use Rattle.server_words.specs.declared.session.Session.{Session}
use Rattle.server_words.specs.declared.session.Transaction.{Transaction}
use Rattle.server_words.specs.Answer.{Answer, answer, delete_causes, delete_effect, done, ended, executed, insert_causes, insert_effect, reply_of, ruled, select_causes, select_effect, unchanged, unless, update_causes, update_effect}
use Rattle.server_words.specs.Causes.{connect_fault, disconnect_fault, ranked, statement_fault}
use Rattle.server_words.specs.Draws.{draws_of}
use Rattle.server_words.specs.Found.{Environment, matches, matching}
use Rattle.server_words.specs.Request.{Request, connect, disconnect, unreadable, unsound, statement, request_of, table_in}
use Rattle.server_words.specs.Rows.{row_key, row_numbers}
use Rattle.server_words.specs.State.{State, nothing, session_at}
use Rattle.server_words.specs.Step.{step}
use Rattle.server_words.specs.View.{View, view_of}
use Rattle.server_words.specs.Writes.{is_held_key, keys_moved, moved_keys, moves_key, updated, with_key, with_keys, with_row, with_rows}
use Rattle.law_steps.specs.Held.{SeesMatch, environment, row_to_insert}
use Rattle.law_steps.specs.Holding.{BringsKey, BringsRow, NoOtherKeyIsHeld, NoOtherRowIsHeld}
use Rattle.law_steps.specs.Reading.{Requests, rows_in}
use Rattle.law_steps.proofs.Kept.{own_at_from}
use Rattle.law_steps.proofs.Leaving.{beyond_at, left_at, view_own}
use Rattle.law_steps.proofs.Listed.{joined_from, kept_from, mapped_from}

-- ---- what is held after it

row_from : (held : List ℕ) (row r : ℕ) → Contains (with_row held row) r → Contains held r ⊎ (row ≡ r)
row_from held row r there = elim (list_any (nat_eq row) held) as (λ b. Contains (if b then held else held ++ row ∷ []) r → Contains held r ⊎ (row ≡ r)) [ true ↦ λ old. inl old | false ↦ Contains-push_cases held row r ] there

rows_from : (held rows : List ℕ) (r : ℕ) → Contains (with_rows held rows) r → Contains held r ⊎ Contains rows r
rows_from held [] r there = inl there
rows_from held (row ∷ rows) r there = elim (rows_from (with_row held row) rows r there) [
  | inl old ↦ (elim (row_from held row r old) [ inl before ↦ inl before | inr same ↦ inr (subst (Contains (row ∷ rows)) same (Contains-here row rows)) ])
  | inr new ↦ inr (Contains-there row rows r new)
]

module _ (table : ℕ) where
  abbrev of_it : Value → HeldKey
  of_it key = record { table = table; key = key }

  key_from : (held : List HeldKey) (key : Value) (k : HeldKey) → Contains (with_key table held key) k → Contains held k ⊎ (of_it key ≡ k)
  key_from held key k there = elim (list_any (is_held_key table key) held) as (λ b. Contains (if b then held else held ++ of_it key ∷ []) k → Contains held k ⊎ (of_it key ≡ k)) [ true ↦ λ old. inl old | false ↦ Contains-push_cases held (of_it key) k ] there

  -- it is a key of this table, and one of these
  abbrev IsOneOf : List Value → HeldKey → Type 0
  IsOneOf keys k = (key : Value) × Contains keys key × (of_it key ≡ k)

  keys_from : (held : List HeldKey) (keys : List Value) (k : HeldKey) → Contains (with_keys table held keys) k → Contains held k ⊎ IsOneOf keys k
  keys_from held [] k there = inl there
  keys_from held (key ∷ keys) k there = elim (keys_from (with_key table held key) keys k there) [
    | inl old ↦ (elim (key_from held key k old) [ inl before ↦ inl before | inr same ↦ inr (key, Contains-here key keys, same) ])
    | inr new ↦ inr (new.0, Contains-there key keys new.0 new.1, new.2)
  ]

-- what is held is held already, or one of these rows and keys
record Comes (R : ℕ → Type 0) (K : HeldKey → Type 0) (old new : Transaction) : Type 0 where
  rows : (row : ℕ) → Contains new.rows row → Contains old.rows row ⊎ R row
  keys : (k : HeldKey) → Contains new.keys k → Contains old.keys k ⊎ K k

module _ (R : ℕ → Type 0) (K : HeldKey → Type 0) where
  none_comes : (own : Transaction) → Comes R K own own
  none_comes own = record { rows = λ row there. inl there; keys = λ k there. inl there }

  all_goes : (own : Transaction) → Comes R K own nothing
  all_goes own = record { rows = λ row there. absurd (Contains-none row there); keys = λ k there. absurd (Contains-none k there) }

  unless_comes : (view : View) (draws : List Value) (fault : Option Fault) (a : Answer) → Comes R K view.own a.own → Comes R K view.own (unless view draws fault a).own
  unless_comes view draws None a comes = comes
  unless_comes view draws (Some fault) a comes = none_comes view.own

  either : {A B C : Type 0} → (B → C) → A ⊎ B → A ⊎ C
  either f (inl a) = inl a
  either f (inr b) = inr (f b)

  ruled_comes : (table : ℕ) (view : View) (draws : List Value) (causes : Causes) (effect : Effect)
      → ((row : ℕ) → Contains effect.writing.rows row → R row) → ((key : Value) → Contains effect.writing.keys key → K (of_it table key)) → Comes R K view.own (ruled table view draws causes effect).own
  ruled_comes table view draws causes effect row_is key_is = unless_comes view draws (ranked causes) (done table view draws effect) (record {
    rows = λ row there. either (row_is row) (rows_from view.own.rows effect.writing.rows row there);
    keys = λ k there. either (λ (one : IsOneOf table effect.writing.keys k). subst K one.2 (key_is one.0 one.1)) (keys_from table view.own.keys effect.writing.keys k there);
  })

none_there : {X : Type 0} {C : Type 0} (x : X) → Contains {X = X} [] x → C
none_there x there = absurd (Contains-none x there)

only_one : {X : Type 0} (x y : X) → Contains (x ∷ []) y → y ≡ x
only_one x y there = elim (Contains-cases x [] y there) [ inl same ↦ sym same | inr never ↦ absurd (Contains-none y never) ]

module _ (state : State) (session : ℕ) (binds : List Value) where
  abbrev env : Environment
  env = environment state binds

  -- the view of a statement on a table
  abbrev seen : ℕ → View
  seen table = view_of state session (Some table)

  abbrev Rows : Plan ℕ → ℕ → Type 0
  Rows plan row = BringsRow state session binds plan row

  abbrev Keys : Plan ℕ → HeldKey → Type 0
  Keys plan k = BringsKey state session binds plan k.table k.key

  matched : (table : ℕ) (condition : Option (Term ℕ)) (image : Image) → Contains (matching env condition (seen table).rows) image → SeesMatch state session table env condition image
  matched table condition image there = let both = kept_from (matches env condition) (rows_in state session table) image there in record { seen = both.0; matches = both.1 }

  -- the number of one that is found
  numbered : (table : ℕ) (condition : Option (Term ℕ)) (row : ℕ) → Contains (row_numbers (matching env condition (seen table).rows)) row → (image : Image) × SeesMatch state session table env condition image × (row ≡ image.row)
  numbered table condition row there =
      let one = mapped_from (λ (i : Image). i.row) (matching env condition (seen table).rows) row there in
      (one.0, matched table condition one.0 one.1, sym one.2)

  which_key : (moves : Bool) (old new key : Value) → Contains (if moves then old ∷ new ∷ [] else []) key → (moves ≡ true) × ((key ≡ new) ⊎ (key ≡ old))
  which_key false old new key there = none_there key there
  which_key true old new key there = (refl, elim (Contains-cases old (new ∷ []) key there) [ inl same ↦ inr (sym same) | inr later ↦ inl (only_one new key later) ])

  key_moved : (table : ℕ) (changes : List (Change ℕ)) (condition : Option (Term ℕ)) (key : Value) → Contains (moved_keys env changes (matching env condition (seen table).rows)) key → Keys (update table changes condition) (of_it table key)
  key_moved table changes condition key there =
      let one = joined_from (keys_moved env changes) (matching env condition (seen table).rows) key there in
      let which = which_key (moves_key env changes one.0) (row_key one.0) (row_key (updated env changes one.0)) key one.2 in
      elim which.1 [
        | inl new ↦ inl (refl, one.0, matched table condition one.0 one.1, which.0, new)
        | inr old ↦ inr (refl, one.0, matched table condition one.0 one.1, which.0, old)
      ]

  key_gone : (table : ℕ) (condition : Option (Term ℕ)) (key : Value) → Contains (map row_key (matching env condition (seen table).rows)) key → Keys (delete table condition) (of_it table key)
  key_gone table condition key there =
      let one = mapped_from row_key (matching env condition (seen table).rows) key there in
      inr (refl, one.0, matched table condition one.0 one.1, sym one.2)

  executed_comes : (plan : Plan ℕ) → let view = view_of state session (table_in (statement plan binds)) in
      Comes (Rows plan) (Keys plan) view.own (executed state.start.schema view state.next_values state.next_row env plan).own
  executed_comes (select table asked condition keys true) =
      let plan = select table asked condition keys true in
      ruled_comes (Rows plan) (Keys plan) table (seen table) [] (select_causes env (seen table) asked condition true) (select_effect env (seen table) asked condition keys true)
      (numbered table condition) (λ key there. none_there key there)
  executed_comes (select table asked condition keys false) =
      let plan = select table asked condition keys false in
      ruled_comes (Rows plan) (Keys plan) table (seen table) [] (select_causes env (seen table) asked condition false) (select_effect env (seen table) asked condition keys false) (λ row there. none_there row there) (λ key there. none_there key there)
  executed_comes (next sequence) = none_comes (Rows (next sequence)) (Keys (next sequence)) (view_of state session None).own
  executed_comes (insert table named entries) =
      let plan = insert table named entries in
      let draws = draws_of plan state.next_values in
      let new = row_to_insert state binds table named entries in
      ruled_comes (Rows plan) (Keys plan) table (seen table) draws (insert_causes env (columns_of state.start.schema.tables table) (seen table) draws new entries) (insert_effect new)
      (only_one new.row) (λ key there. inl (refl, only_one (row_key new) key there))
  executed_comes (update table changes condition) =
      let plan = update table changes condition in
      ruled_comes (Rows plan) (Keys plan) table (seen table) [] (update_causes env (columns_of state.start.schema.tables table) (seen table) changes condition) (update_effect env (seen table) changes condition)
      (numbered table condition) (key_moved table changes condition)
  executed_comes (delete table condition) =
      let plan = delete table condition in
      ruled_comes (Rows plan) (Keys plan) table (seen table) [] (delete_causes env (seen table) condition) (delete_effect env (seen table) condition)
      (numbered table condition) (key_gone table condition)
  executed_comes commit = all_goes (Rows commit) (Keys commit) (view_of state session None).own
  executed_comes rollback = all_goes (Rows rollback) (Keys rollback) (view_of state session None).own
  executed_comes set_read_only = none_comes (Rows set_read_only) (Keys set_read_only) (view_of state session None).own
  executed_comes (savepoint name) = none_comes (Rows (savepoint name)) (Keys (savepoint name)) (view_of state session None).own
  executed_comes (rollback_to name) =
      let mine = session_at state session in
      elim (own_at_from name mine.own mine.savepoints) [
        | inl same ↦ subst (λ (own : Transaction). Comes (Rows (rollback_to name)) (Keys (rollback_to name)) mine.own own) (sym same) (none_comes (Rows (rollback_to name)) (Keys (rollback_to name)) mine.own)
        | inr back ↦ subst (λ (own : Transaction). Comes (Rows (rollback_to name)) (Keys (rollback_to name)) mine.own own) (sym back.3) (record {
          rows = λ row there. inr (back.0, back.1, back.2, there);
          keys = λ k there. inr (back.0, back.1, back.2, there);
        })
      ]

module _ (state : State) (session : ℕ) (call : Call) where
  -- a statement of the call brings it
  abbrev AnyRow : ℕ → Type 0
  AnyRow row = (plan : Plan ℕ) × (binds : List Value) × Requests state call plan binds × BringsRow state session binds plan row

  abbrev AnyKey : HeldKey → Type 0
  AnyKey k = (plan : Plan ℕ) × (binds : List Value) × Requests state call plan binds × Keys state session binds plan k

  answer_comes : (r : Request) → request_of state.start.schema call ≡ r → let view = view_of state session (table_in r) in
      Comes AnyRow AnyKey view.own (answer state.start.schema view state.next_values state.next_row r).own
  answer_comes (connect service) is =
      let view = view_of state session None in
      unless_comes AnyRow AnyKey view [] (connect_fault view service) (record (unchanged view (reply_of Connected [] None)) { rights = service }) (none_comes AnyRow AnyKey view.own)
  answer_comes disconnect is = let view = view_of state session None in unless_comes AnyRow AnyKey view [] (disconnect_fault view) (ended None Disconnected) (all_goes AnyRow AnyKey view.own)
  answer_comes unreadable is = none_comes AnyRow AnyKey (view_of state session None).own
  answer_comes (unsound table fault) is = none_comes AnyRow AnyKey (view_of state session table).own
  answer_comes (statement plan binds) is =
      let view = view_of state session (table_in (statement plan binds)) in
      let a = executed state.start.schema view state.next_values state.next_row (environment state binds) plan in
      let comes = executed_comes state session binds plan in
      unless_comes AnyRow AnyKey view [] (statement_fault view plan) a (record {
        rows = λ row there. either AnyRow AnyKey (λ brings. (plan, binds, is, brings)) (comes.rows row there);
        keys = λ k there. either AnyRow AnyKey (λ moves. (plan, binds, is, moves)) (comes.keys k there);
      })

  step_comes : Comes AnyRow AnyKey (session_at state session).own (session_at (step state session call) session).own
  step_comes = elim (cases_lt session (length state.sessions)) [
    | inl within ↦ (
        let request = request_of state.start.schema call in
        subst (λ (own : Transaction). Comes AnyRow AnyKey own (session_at (step state session call) session).own) (view_own state session (table_in request))
        (subst (λ (s : Session). Comes AnyRow AnyKey (view_of state session (table_in request)).own s.own) (sym (left_at state session call within)) (answer_comes request refl)))
    | inr past ↦ subst (λ (s : Session). Comes AnyRow AnyKey (session_at state session).own s.own) (sym (beyond_at state session call past)) (all_goes AnyRow AnyKey (session_at state session).own)
  ]

pub no_other_row_is_held : NoOtherRowIsHeld
no_other_row_is_held state session row call held = (step_comes state session call).rows row held

pub no_other_key_is_held : NoOtherKeyIsHeld
no_other_key_is_held state session table key call held =
    let level = state.start.schema.level in
    elim ((step_comes state session call).keys held.1 (held.0, held.2, held.3)) [
      | inl before ↦ inl (before.0, held.1, before.1, before.2, held.4)
      | inr new ↦ (
          let of_table : BringsKey state session new.1 new.0 table held.1.key = subst (λ (t : ℕ). BringsKey state session new.1 new.0 t held.1.key) held.4.0 new.3 in
          inr (new.0, new.1, held.1.key, new.2, held.4.1, of_table))
    ]
