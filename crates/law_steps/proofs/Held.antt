-- What another session holds is neither changed nor locked.
use Rattle.std.proofs.Common.{◌≡◌, ◌≢◌, ◌∙◌, ◌<◌, ◌≤◌, inl, inr, ℕ, zero, suc, ◌+◌, ◌-◌, Bool, true, false, List, [], ◌∷◌, length, take, drop, get_or, refl, sym, ap, subst, arith}
use Rattle.std.proofs.lemmas.Bool.{and_from, and_parts, cases_lt, eq-eqb, eqb-true, or_cases, or_left, or_right}
use Rattle.std.proofs.lemmas.List.{get_or-drop, get_or-take, get_or_past, length-drop, length-take}
use Rattle.std.proofs.lemmas.List.Folds.{list_any-append, list_any_at}
use Rattle.std.specs.Prelude.{◌&&◌, ◌||◌, cond, if◌then◌else◌, nat_eq, is_none, IfSome, IsSomeAnd, Option, None, Some}
use Rattle.std.specs.List.{Any, Contains, cons_option, filter, filter_map, flat_map, list_any}
use Rattle.desk_values.specs.declared.call.Call.{Call}
use Rattle.desk_values.specs.declared.call.Outcome.TheVariants.{Refused}
use Rattle.desk_values.specs.declared.fault.Fault.{Fault}
use Rattle.desk_values.specs.declared.fault.Fault.TheVariants.{DuplicateKey, Locked, NoSavepoint, NotConnected, NullValue, OutOfRange, Overflow, ReadOnly, TextTooLong, TooManyRows, UnderWay, ZeroDivisor}
use Rattle.desk_values.specs.declared.value.Image.{Image}
use Rattle.desk_values.specs.declared.value.Value.{Value}
use Rattle.desk_values.specs.Comparison.{same_key}
use Rattle.desk_values.specs.Fault.{fault_rank}
use Rattle.desk_schema.specs.Schema.{columns_of}
use Rattle.sql_tree.specs.Plain.{Term, Entry, Change, Plan, select, next, insert, update, delete, commit, rollback, set_read_only, savepoint, rollback_to}
use Rattle.server_words.specs.declared.causes.Causes.{Causes}
use Rattle.server_words.specs.declared.effect.Effect.{Effect}
use Rattle.server_words.specs.declared.session.HeldKey.{HeldKey}
use Rattle.server_words.specs.declared.session.Session.{Session}
use Rattle.server_words.specs.Answer.{Answer, answer, delete_causes, delete_effect, done, executed, insert_causes, insert_effect, meets_lock, new_row, ruled, select_causes, select_effect, unless, update_causes, update_effect}
use Rattle.server_words.specs.Causes.{is_read_only, is_under_way, lacks_savepoint, needs_write_access, ranked, sets_read_only, statement_fault}
use Rattle.server_words.specs.Draws.{draws_of}
use Rattle.server_words.specs.Found.{Environment, matches, matching}
use Rattle.server_words.specs.Request.{Request, statement, table_in}
use Rattle.server_words.specs.Rows.{row_key}
use Rattle.server_words.specs.State.{State, disconnected, session_at}
use Rattle.server_words.specs.Step.{reply_in}
use Rattle.server_words.specs.View.{View, holds_row, is_held, key_of_table, keys_held, others, view_of}
use Rattle.server_words.specs.Writes.{is_locked_key, moves_key, updated}
use Rattle.law_steps.specs.Held.{GivesKey, HeldKeysAreNotInserted, HeldKeysAreNotSet, HeldRowsAreRefused, HoldsKey, HoldsRow, IsRefusedAsHeld, LockedMeansHeld, SeesMatch, StandsInTheWay, Takes, environment, row_to_insert}
use Rattle.law_steps.specs.Reading.{Requests, rows_in}
use Rattle.law_steps.proofs.Listed.{both_passed, number_in, place_of}

-- ---- a fault of a rank that is low enough

abbrev IsLow : Fault → Type 0
IsLow fault = fault_rank fault ≤ fault_rank Locked

unless_low : (view : View) (draws : List Value) (fault : Option Fault) (a : Answer) → IfSome fault IsLow → IsRefusedAsHeld a.reply.outcome → IsRefusedAsHeld (unless view draws fault a).reply.outcome
unless_low view draws None a low refused = refused
unless_low view draws (Some fault) a low refused = low

unless_some : (view : View) (draws : List Value) (fault : Option Fault) (a : Answer) → IsSomeAnd fault IsLow → IsRefusedAsHeld (unless view draws fault a).reply.outcome
unless_some view draws None a low = absurd low
unless_some view draws (Some fault) a low = low

low_or : (test : Bool) (fault : Fault) (rest : Option Fault) → IsLow fault → IfSome rest IsLow → IfSome (if test then Some fault else rest) IsLow
low_or true fault rest low others = low
low_or false fault rest low others = others

statement_low : (view : View) (plan : Plan ℕ) → IfSome (statement_fault view plan) IsLow
unfolding statement_fault
statement_low view plan =
    low_or (is_none view.rights) NotConnected _ (omega arith)
    (low_or (needs_write_access plan && (is_read_only view.rights || view.reads_only)) ReadOnly _ (omega arith)
    (low_or (sets_read_only plan && is_under_way view) UnderWay _ (omega arith)
    (low_or (lacks_savepoint view plan) NoSavepoint None (omega arith) tt)))

told_or : (test : Bool) (fault : Fault) (rest : Option Fault) → IsLow fault → IsSomeAnd rest IsLow → IsSomeAnd (if test then Some fault else rest) IsLow
told_or true fault rest low others = low
told_or false fault rest low others = others

locked_told : (locked : Bool) (rest : Option Fault) → locked ≡ true → IsSomeAnd (if locked then Some Locked else rest) IsLow
locked_told true rest is = omega arith
locked_told false rest is = absurd (let never : false ≡ true = is in cc)

ranked_low : (causes : Causes) → causes.locked ≡ true → IsSomeAnd (ranked causes) IsLow
unfolding ranked
ranked_low causes is =
    told_or causes.divides ZeroDivisor _ (omega arith)
    (told_or causes.overflows Overflow _ (omega arith)
    (told_or causes.too_many TooManyRows _ (omega arith)
    (locked_told causes.locked _ is)))

ruled_low : (table : ℕ) (view : View) (draws : List Value) (causes : Causes) (effect : Effect) → causes.locked ≡ true → IsRefusedAsHeld (ruled table view draws causes effect).reply.outcome
ruled_low table view draws causes effect is = unless_some view draws (ranked causes) (done table view draws effect) (ranked_low causes is)

-- ---- lists

module _ {X : Type 0} (p : X → Bool) where
  any_here : (x : X) (xs : List X) (y : X) → x ≡ y → p y ≡ true → list_any p (x ∷ xs) ≡ true
  any_here x xs y is passes = or_left (p x) (list_any p xs) (ap p is ∙ passes)

  module _ (q : X → Bool) (y : X) (passes : p y ≡ true) (is_in : q y ≡ true) where
    any_filtered : (xs : List X) (k : ℕ) → k < length xs → get_or xs k y ≡ y → list_any p (filter q xs) ≡ true
    any_filtered [] k within is = absurd (omega arith)
    any_filtered (x ∷ xs) zero within is = rw (ap q is ∙ is_in) (any_here x (filter q xs) y is passes)
    any_filtered (x ∷ xs) (suc k) within is =
        let rest = any_filtered xs k (omega arith) is in
        elim (q x) as (λ b. list_any p (cond b (x ∷ filter q xs) (filter q xs)) ≡ true) [ true ↦ or_right (p x) (list_any p (filter q xs)) rest | false ↦ rest ]

  any_in : (xs : List X) (y : X) → Contains xs y → p y ≡ true → list_any p xs ≡ true
  any_in xs y there passes = list_any_at p xs there.0 y there.1 (ap p there.2 ∙ passes)

-- some other session passes
module _ (p : Session → Bool) (nobody : p disconnected ≡ false) where
  there_is : (sessions : List Session) (other : ℕ) → p (get_or sessions other disconnected) ≡ true → other < length sessions
  there_is sessions other passes = elim (cases_lt other (length sessions)) [
    | inl within ↦ within
    | inr beyond ↦ absurd (let never : false ≡ true = sym nobody ∙ sym (ap p (get_or_past sessions other disconnected beyond)) ∙ passes in cc)
  ]

  any_other : (sessions : List Session) (session other : ℕ) → other ≢ session → p (get_or sessions other disconnected) ≡ true → list_any p (others sessions session) ≡ true
  any_other sessions session other apart passes =
      let within : other < length sessions = there_is sessions other passes in
      list_any-append p (take session sessions) (drop (session + 1) sessions)
      ∙ elim (cases_lt other session) [
        | inl before ↦ or_left (list_any p (take session sessions)) (list_any p (drop (session + 1) sessions))
            (list_any_at p (take session sessions) other disconnected (omega (arith, before, within, length-take session sessions)) (ap p (get_or-take session sessions other disconnected before) ∙ passes))
        | inr after ↦ (
            let more : session < other = omega (arith, after, apart) in
            let at : (session + 1) + (other - (session + 1)) ≡ other = omega (arith, more) in
            or_right (list_any p (take session sessions)) (list_any p (drop (session + 1) sessions))
            (list_any_at p (drop (session + 1) sessions) (other - (session + 1)) disconnected (omega (arith, more, within, length-drop (session + 1) sessions))
            (ap p (get_or-drop (session + 1) sessions (other - (session + 1)) disconnected ∙ ap (λ (k : ℕ). get_or sessions k disconnected) at) ∙ passes)))
      ]

-- ---- keys

flat_any : (p : Value → Bool) (f : Session → List Value) (sessions : List Session) → list_any p (flat_map f sessions) ≡ list_any (λ (s : Session). list_any p (f s)) sessions
flat_any p f [] = refl
flat_any p f (s ∷ sessions) = list_any-append p (f s) (flat_map f sessions) ∙ ap (λ (b : Bool). list_any p (f s) || b) (flat_any p f sessions)

module _ (p : Value → Bool) (table : ℕ) (held : HeldKey) (of_it : held.table ≡ table) (passes : p held.key ≡ true) where
  key_among : (keys : List HeldKey) (k : ℕ) → k < length keys → get_or keys k held ≡ held → list_any p (filter_map (key_of_table table) keys) ≡ true
  key_among [] k within is = absurd (omega arith)
  key_among (first ∷ keys) zero within is =
      let same : nat_eq first.table table ≡ true = eq-eqb first.table table (ap (λ (h : HeldKey). h.table) is ∙ of_it) in
      rw same (or_left (p first.key) (list_any p (filter_map (key_of_table table) keys)) (ap (λ (h : HeldKey). p h.key) is ∙ passes))
  key_among (first ∷ keys) (suc k) within is =
      let rest = key_among keys k (omega arith) is in
      elim (nat_eq first.table table) as (λ b. list_any p (cons_option (if b then Some first.key else None) (filter_map (key_of_table table) keys)) ≡ true) [
        | true ↦ or_right (p first.key) (list_any p (filter_map (key_of_table table) keys)) rest
        | false ↦ rest
      ]

-- ---- what the other session holds

module _ (state : State) (session other : ℕ) (apart : other ≢ session) where
  row_held : (row : ℕ) → HoldsRow state other row → list_any (holds_row row) (others state.sessions session) ≡ true
  row_held row held = any_other (holds_row row) refl state.sessions session other apart (any_in (nat_eq row) (session_at state other).own.rows row held (eq-eqb row row refl))

  key_held : (table : ℕ) (key : Value) → HoldsKey state other table key → is_locked_key state.start.schema.level (keys_held (others state.sessions session) table) key ≡ true
  key_held table key held =
      let same : Value → Bool = same_key state.start.schema.level key in
      flat_any same (λ (s : Session). filter_map (key_of_table table) s.own.keys) (others state.sessions session)
      ∙ any_other (λ (s : Session). list_any same (filter_map (key_of_table table) s.own.keys)) refl state.sessions session other apart
      (key_among same table held.1 held.4.0 held.4.1 (session_at state other).own.keys held.0 held.2 held.3)

  locked_match : (table : ℕ) (env : Environment) (condition : Option (Term ℕ)) (image : Image) → SeesMatch state session table env condition image → HoldsRow state other image.row
      → list_any (matches env condition) (filter (is_held (others state.sessions session)) (rows_in state session table)) ≡ true
  locked_match table env condition image finds held =
      any_filtered (matches env condition) (is_held (others state.sessions session)) image finds.matches (row_held image.row held) (rows_in state session table) finds.seen.0 finds.seen.1 finds.seen.2

  module _ (call : Call) (binds : List Value) where
    abbrev env : Environment
    env = environment state binds

    -- the view of a statement on a table
    abbrev seen : ℕ → View
    seen table = view_of state session (Some table)

    by_request : (plan : Plan ℕ) → Requests state call plan binds
        → IsRefusedAsHeld (answer state.start.schema (view_of state session (table_in (statement plan binds))) state.next_values state.next_row (statement plan binds)).reply.outcome
        → IsRefusedAsHeld (reply_in state session call).outcome
    by_request plan asks = subst (λ (r : Request). IsRefusedAsHeld (answer state.start.schema (view_of state session (table_in r)) state.next_values state.next_row r).reply.outcome) (sym asks)

    by_plan : (table : ℕ) (plan : Plan ℕ)
        → IsRefusedAsHeld (executed state.start.schema (seen table) state.next_values state.next_row env plan).reply.outcome
        → IsRefusedAsHeld (unless (seen table) [] (statement_fault (seen table) plan) (executed state.start.schema (seen table) state.next_values state.next_row env plan)).reply.outcome
    by_plan table plan = unless_low (seen table) [] (statement_fault (seen table) plan) (executed state.start.schema (seen table) state.next_values state.next_row env plan) (statement_low (seen table) plan)

    held_row : (plan : Plan ℕ) (image : Image) → Requests state call plan binds → Takes state session env plan image → HoldsRow state other image.row → IsRefusedAsHeld (reply_in state session call).outcome
    held_row (select table asked condition keys true) image asks takes held =
        let plan = select table asked condition keys true in
        by_request plan asks (by_plan table plan (ruled_low table (seen table) [] (select_causes env (seen table) asked condition true) (select_effect env (seen table) asked condition keys true) (locked_match table env condition image takes held)))
    held_row (select table asked condition keys false) image asks takes held = absurd takes
    held_row (update table changes condition) image asks takes held =
        let plan = update table changes condition in
        by_request plan asks (by_plan table plan (ruled_low table (seen table) [] (update_causes env (columns_of state.start.schema.tables table) (seen table) changes condition) (update_effect env (seen table) changes condition)
        (or_left _ (list_any (meets_lock env (seen table) changes) (matching env condition (seen table).rows)) (locked_match table env condition image takes held))))
    held_row (delete table condition) image asks takes held =
        let plan = delete table condition in
        by_request plan asks (by_plan table plan (ruled_low table (seen table) [] (delete_causes env (seen table) condition) (delete_effect env (seen table) condition) (locked_match table env condition image takes held)))
    held_row (next sequence) image asks takes held = absurd takes
    held_row (insert table named entries) image asks takes held = absurd takes
    held_row commit image asks takes held = absurd takes
    held_row rollback image asks takes held = absurd takes
    held_row set_read_only image asks takes held = absurd takes
    held_row (savepoint name) image asks takes held = absurd takes
    held_row (rollback_to name) image asks takes held = absurd takes

    inserted : (table : ℕ) (named : Option (List ℕ)) (entries : List (Entry ℕ)) → Requests state call (insert table named entries) binds
        → HoldsKey state other table (row_key (new_row env (columns_of state.start.schema.tables table) (draws_of (insert table named entries) state.next_values) state.next_row table named entries))
        → IsRefusedAsHeld (reply_in state session call).outcome
    inserted table named entries asks held =
        let plan = insert table named entries in
        let cs = columns_of state.start.schema.tables table in
        let draws = draws_of plan state.next_values in
        let new = new_row env cs draws state.next_row table named entries in
        by_request plan asks (by_plan table plan (ruled_low table (seen table) draws (insert_causes env cs (seen table) draws new entries) (insert_effect new) (key_held table (row_key new) held)))

    set_to : (table : ℕ) (changes : List (Change ℕ)) (condition : Option (Term ℕ)) (image : Image) → Requests state call (update table changes condition) binds
        → SeesMatch state session table env condition image → moves_key env changes image ≡ true → HoldsKey state other table (row_key (updated env changes image)) → IsRefusedAsHeld (reply_in state session call).outcome
    set_to table changes condition image asks finds moves held =
        let plan = update table changes condition in
        let meets : meets_lock env (seen table) changes image ≡ true = and_from (moves_key env changes image) _ moves (key_held table (row_key (updated env changes image)) held) in
        by_request plan asks (by_plan table plan (ruled_low table (seen table) [] (update_causes env (columns_of state.start.schema.tables table) (seen table) changes condition) (update_effect env (seen table) changes condition)
        (or_right (list_any (matches env condition) (seen table).locked) _
        (any_filtered (meets_lock env (seen table) changes) (matches env condition) image meets finds.matches (rows_in state session table) finds.seen.0 finds.seen.1 finds.seen.2))))

pub held_rows_are_refused : HeldRowsAreRefused
held_rows_are_refused state session other call plan binds image apart asks takes held = held_row state session other apart call binds plan image asks takes held

pub held_keys_are_not_inserted : HeldKeysAreNotInserted
held_keys_are_not_inserted state session other call table named entries binds apart asks held = inserted state session other apart call binds table named entries asks held

pub held_keys_are_not_set : HeldKeysAreNotSet
held_keys_are_not_set state session other call table changes condition binds image apart asks finds moves held = set_to state session other apart call binds table changes condition image asks finds moves held

-- ---- refused as locked is only what another session holds

unless_locked : (view : View) (draws : List Value) (fault : Option Fault) (a : Answer) → (fault ≡ Some Locked → ⊥) → (unless view draws fault a).reply.outcome ≡ Refused Locked → a.reply.outcome ≡ Refused Locked
unless_locked view draws None a never is = is
unless_locked view draws (Some fault) a never is = absurd (never (cc))

none_is_locked : None ≡ Some Locked → ⊥
none_is_locked is = cc

neither_locked : (test : Bool) (fault : Fault) (rest : Option Fault) → (Some fault ≡ Some Locked → ⊥) → (rest ≡ Some Locked → ⊥) → (if test then Some fault else rest) ≡ Some Locked → ⊥
neither_locked true fault rest first later = first
neither_locked false fault rest first later = later

statement_unlocked : (view : View) (plan : Plan ℕ) → statement_fault view plan ≡ Some Locked → ⊥
unfolding statement_fault
statement_unlocked view plan =
    neither_locked (is_none view.rights) NotConnected _ (λ is. cc)
    (neither_locked (needs_write_access plan && (is_read_only view.rights || view.reads_only)) ReadOnly _ (λ is. cc)
    (neither_locked (sets_read_only plan && is_under_way view) UnderWay _ (λ is. cc)
    (neither_locked (lacks_savepoint view plan) NoSavepoint None (λ is. cc) none_is_locked)))

locked_later : (test : Bool) (fault : Fault) (rest : Option Fault) → (Some fault ≡ Some Locked → ⊥) → (if test then Some fault else rest) ≡ Some Locked → rest ≡ Some Locked
locked_later true fault rest never is = absurd (never is)
locked_later false fault rest never is = is

locked_here : (locked : Bool) (rest : Option Fault) → (rest ≡ Some Locked → ⊥) → (if locked then Some Locked else rest) ≡ Some Locked → locked ≡ true
locked_here true rest never is = refl
locked_here false rest never is = absurd (never is)

ranked_locked : (causes : Causes) → ranked causes ≡ Some Locked → causes.locked ≡ true
unfolding ranked
ranked_locked causes is =
    locked_here causes.locked _
    (neither_locked causes.null NullValue _ (λ same. cc)
    (neither_locked causes.too_long TextTooLong _ (λ same. cc)
    (neither_locked causes.out_of_range OutOfRange _ (λ same. cc)
    (neither_locked causes.duplicate DuplicateKey None (λ same. cc) none_is_locked))))
    (locked_later causes.too_many TooManyRows _ (λ same. cc)
    (locked_later causes.overflows Overflow _ (λ same. cc)
    (locked_later causes.divides ZeroDivisor _ (λ same. cc) is)))

first_told : (view : View) (draws : List Value) (fault : Option Fault) (a : Answer) → (a.reply.outcome ≡ Refused Locked → ⊥) → (unless view draws fault a).reply.outcome ≡ Refused Locked → fault ≡ Some Locked
first_told view draws None a never is = absurd (never is)
first_told view draws (Some fault) a never is = cc

ruled_locked : (table : ℕ) (view : View) (draws : List Value) (causes : Causes) (effect : Effect) → (effect.outcome ≡ Refused Locked → ⊥) → (ruled table view draws causes effect).reply.outcome ≡ Refused Locked → causes.locked ≡ true
ruled_locked table view draws causes effect never is = ranked_locked causes (first_told view draws (ranked causes) (done table view draws effect) never is)

-- another session that passes
other_that : (p : Session → Bool) (sessions : List Session) (session : ℕ) → list_any p (others sessions session) ≡ true → (other : ℕ) × (other ≢ session) × (p (get_or sessions other disconnected) ≡ true)
other_that p sessions session is =
    elim (or_cases (list_any p (take session sessions)) (list_any p (drop (session + 1) sessions)) (sym (list_any-append p (take session sessions) (drop (session + 1) sessions)) ∙ is)) [
      | inl before ↦ (
          let found = place_of p (take session sessions) disconnected before in
          let within : found.0 < session = omega (arith, found.1, length-take session sessions) in
          (found.0, omega (arith, within), ap p (sym (get_or-take session sessions found.0 disconnected within)) ∙ found.2))
      | inr after ↦ (
          let found = place_of p (drop (session + 1) sessions) disconnected after in
          ((session + 1) + found.0, omega arith, ap p (sym (get_or-drop (session + 1) sessions found.0 disconnected)) ∙ found.2))
    ]

-- a held key of the table that passes
module _ (p : Value → Bool) (table : ℕ) where
  abbrev HasPassed : List HeldKey → Type 0
  HasPassed keys = Any (λ (held : HeldKey). (held.table ≡ table) × (p held.key ≡ true)) keys

  one_more : (first : HeldKey) (keys : List HeldKey) → HasPassed keys → HasPassed (first ∷ keys)
  one_more first keys has = (suc has.0, has.1, omega (arith, has.2), has.3, has.4)

  among_held : (keys : List HeldKey) → list_any p (filter_map (key_of_table table) keys) ≡ true → HasPassed keys
  among_held [] is = absurd (let never : false ≡ true = is in cc)
  among_held (first ∷ keys) is =
      elim (nat_eq first.table table) as (λ b. nat_eq first.table table ≡ b → list_any p (cons_option (if b then Some first.key else None) (filter_map (key_of_table table) keys)) ≡ true → HasPassed (first ∷ keys)) [
        | true ↦ λ same any. elim (or_cases (p first.key) (list_any p (filter_map (key_of_table table) keys)) any) [
          | inl here ↦ (0, first, omega arith, refl, (eqb-true first.table table same, here))
          | inr later ↦ one_more first keys (among_held keys later)
        ]
        | false ↦ λ apart any. one_more first keys (among_held keys any)
      ] refl is

module _ (state : State) (session : ℕ) (binds : List Value) where
  abbrev with_binds : Environment
  with_binds = environment state binds

  abbrev view_on : ℕ → View
  view_on table = view_of state session (Some table)

  abbrev Meets : Plan ℕ → Type 0
  Meets plan = (other : ℕ) × (other ≢ session) × StandsInTheWay state session binds plan other

  by_row : (plan : Plan ℕ) (table : ℕ) (condition : Option (Term ℕ)) → ((image : Image) → SeesMatch state session table with_binds condition image → Takes state session with_binds plan image)
      → list_any (matches with_binds condition) (view_on table).locked ≡ true → Meets plan
  by_row plan table condition takes is =
      let met = both_passed (is_held (others state.sessions session)) (matches with_binds condition) (rows_in state session table) is in
      let other = other_that (holds_row met.0.row) state.sessions session met.2 in
      (other.0, other.1, inl (met.0, takes met.0 (record { seen = met.1; matches = met.3 }), number_in (session_at state other.0).own.rows met.0.row other.2))

  by_key : (plan : Plan ℕ) (table : ℕ) (key : Value) → GivesKey state session binds plan table key → is_locked_key state.start.schema.level (view_on table).locked_keys key ≡ true → Meets plan
  by_key plan table key gives is =
      let same : Value → Bool = same_key state.start.schema.level key in
      let holders : list_any (λ (s : Session). list_any same (filter_map (key_of_table table) s.own.keys)) (others state.sessions session) ≡ true = sym (flat_any same (λ (s : Session). filter_map (key_of_table table) s.own.keys) (others state.sessions session)) ∙ is in
      let other = other_that (λ (s : Session). list_any same (filter_map (key_of_table table) s.own.keys)) state.sessions session holders in
      (other.0, other.1, inr (table, key, gives, among_held same table (session_at state other.0).own.keys other.2))

  -- the statement is refused as locked
  abbrev IsLocked : Plan ℕ → Type 0
  IsLocked plan = (executed state.start.schema (view_of state session (table_in (statement plan binds))) state.next_values state.next_row with_binds plan).reply.outcome ≡ Refused Locked

  in_the_way : (plan : Plan ℕ) → IsLocked plan → Meets plan
  in_the_way (select table asked condition keys true) is =
      let view = view_on table in
      by_row (select table asked condition keys true) table condition (λ image sees. sees)
      (ruled_locked table view [] (select_causes with_binds view asked condition true) (select_effect with_binds view asked condition keys true) (λ never. cc) is)
  in_the_way (select table asked condition keys false) is =
      let view = view_on table in
      let locked : (select_causes with_binds view asked condition false).locked ≡ true = ruled_locked table view [] (select_causes with_binds view asked condition false) (select_effect with_binds view asked condition keys false) (λ never. cc) is in
      absurd (let never : false ≡ true = locked in cc)
  in_the_way (next sequence) is = absurd (cc)
  in_the_way (insert table named entries) is =
      let view = view_on table in
      let plan = insert table named entries in
      let draws = draws_of plan state.next_values in
      let new = row_to_insert state binds table named entries in
      by_key plan table (row_key new) (refl, refl) (ruled_locked table view draws (insert_causes with_binds (columns_of state.start.schema.tables table) view draws new entries) (insert_effect new) (λ never. cc) is)
  in_the_way (update table changes condition) is =
      let view = view_on table in
      let plan = update table changes condition in
      let found = matching with_binds condition view.rows in
      elim (or_cases (list_any (matches with_binds condition) view.locked) (list_any (meets_lock with_binds view changes) found)
      (ruled_locked table view [] (update_causes with_binds (columns_of state.start.schema.tables table) view changes condition) (update_effect with_binds view changes condition) (λ never. cc) is)) [
        | inl row ↦ by_row plan table condition (λ image sees. sees) row
        | inr key ↦ (
            let met = both_passed (matches with_binds condition) (meets_lock with_binds view changes) (rows_in state session table) key in
            let new = row_key (updated with_binds changes met.0) in
            let parts = and_parts (moves_key with_binds changes met.0) (is_locked_key state.start.schema.level view.locked_keys new) met.3 in
            by_key plan table new (refl, met.0, record { seen = met.1; matches = met.2 }, parts.0, refl) parts.1)
      ]
  in_the_way (delete table condition) is =
      let view = view_on table in
      by_row (delete table condition) table condition (λ image sees. sees) (ruled_locked table view [] (delete_causes with_binds view condition) (delete_effect with_binds view condition) (λ never. cc) is)
  in_the_way commit is = absurd (cc)
  in_the_way rollback is = absurd (cc)
  in_the_way set_read_only is = absurd (cc)
  in_the_way (savepoint name) is = absurd (cc)
  in_the_way (rollback_to name) is = absurd (cc)

pub locked_means_held : LockedMeansHeld
locked_means_held state session call plan binds asks is =
    let request = statement plan binds in
    let view = view_of state session (table_in request) in
    let refused : (answer state.start.schema view state.next_values state.next_row request).reply.outcome ≡ Refused Locked =
    subst (λ (r : Request). (answer state.start.schema (view_of state session (table_in r)) state.next_values state.next_row r).reply.outcome ≡ Refused Locked) asks is in
    in_the_way state session binds plan
    (unless_locked view [] (statement_fault view plan) (executed state.start.schema view state.next_values state.next_row (environment state binds) plan) (statement_unlocked view plan) refused)
