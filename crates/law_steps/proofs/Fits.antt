-- In every state that the server comes to, rows keep the rules of their columns.
use Rattle.std.proofs.Common.{◌≡◌, ◌<◌, ℕ, Bool, true, false, List, [], ◌∷◌, length, map, take, refl, sym, subst}
use Rattle.std.proofs.lemmas.Bool.{and_parts, eqb-true, not-false, or_parts}
use Rattle.std.specs.Prelude.{◌&&◌, cond, if◌then◌else◌, nat_eq, Option, None, Some, IfSome, IsSomeAnd, Result, Ok, Err}
use Rattle.std.specs.List.{AllByRecursion, AllZip, list_all, list_any}
use Rattle.desk_values.specs.declared.call.Call.{Call}
use Rattle.desk_values.specs.declared.call.Call.TheVariants.{Connect, Sql, Disconnect}
use Rattle.desk_values.specs.declared.call.Outcome.TheVariants.{Connected, Disconnected}
use Rattle.desk_values.specs.declared.fault.Fault.{Fault}
use Rattle.desk_values.specs.declared.fault.Fault.TheVariants.{Kinds, Locked, NullValue, OutOfRange, Overflow, TextTooLong, TooManyRows, ZeroDivisor}
use Rattle.desk_values.specs.declared.value.Image.{Image}
use Rattle.desk_values.specs.declared.value.Value.{Value}
use Rattle.desk_schema.specs.declared.schema.Column.{Column}
use Rattle.desk_schema.specs.declared.schema.Table.{Table}
use Rattle.desk_schema.specs.Rules.{IsAllowed}
use Rattle.desk_schema.specs.Schema.{SchemaView, columns_of}
use Rattle.desk_schema.specs.Sound.{IsSoundRow}
use Rattle.desk_schema.specs.Start.{StartView}
use Rattle.desk_schema.proofs.Files.{sound_start}
use Rattle.sql_tree.specs.Plain.{Change, Name, Entry, Plan, select, next, insert, update, delete, commit, rollback, set_read_only, savepoint, rollback_to}
use Rattle.sql_eval.specs.Check.{check_of, first_fault}
use Rattle.sql_eval.specs.Faults.{unless_told}
use Rattle.sql_eval.specs.Kinds.{are_inputs, is_change, is_where, kinds_agree, target_kinds}
use Rattle.sql_eval.specs.Laws.{FitColumns}
use Rattle.sql_eval.specs.SchemaNames.{columns_at, numbered, table_of}
use Rattle.sql_eval.specs.Totals.{values_in}
use Rattle.sql_eval.proofs.CheckLaws.{nothing_is_overlooked}
use Rattle.server_words.specs.declared.causes.Causes.{Causes}
use Rattle.server_words.specs.declared.effect.Effect.{Effect}
use Rattle.server_words.specs.declared.session.Savepoint.{Savepoint}
use Rattle.server_words.specs.declared.session.Session.{Session}
use Rattle.server_words.specs.Answer.{Answer, answer, delete_causes, delete_effect, done, ended, executed, insert_causes, insert_effect, new_row, reply_of, ruled, select_causes, select_effect, unchanged, unless, update_causes, update_effect}
use Rattle.server_words.specs.Causes.{connect_fault, disconnect_fault, ranked, statement_fault}
use Rattle.server_words.specs.Draws.{draws_of}
use Rattle.server_words.specs.Found.{Environment, matches, matching}
use Rattle.server_words.specs.Request.{Request, connect, disconnect, unreadable, unsound, statement, statement_in, checked, read, request_of, table_in, table_named}
use Rattle.server_words.specs.Rows.{is_there, lay, lay_all, noted, of_table, one, placed, shown}
use Rattle.server_words.specs.State.{State, disconnected, opening, session_at}
use Rattle.server_words.specs.Step.{answer_in, committed_in, run, session_after, step, with_commit}
use Rattle.server_words.specs.View.{View, commits_seen, rows_seen, view_of}
use Rattle.server_words.specs.Writes.{any_column, any_value, exceeds, gone, leaves, updated, violates_not_null}
use Rattle.server_words.proofs.Members.{each_filtered, each_joined, each_mapped, each_repeated, each_set, each_taken, each_weaker, one_of}
use Rattle.server_words.proofs.Marks.{each_up_to, each_with, own_at_one}
use Rattle.server_words.proofs.SoundPlans.{IsSoundPlan, IsSoundRequest, sound_request}
use Rattle.server_words.proofs.SoundRows.{each_placed}
use Rattle.law_steps.specs.Fits.{FillColumns, FillsItsTable, FillsTable, FitsItsTable, HasFitting, MayStandIn, OpeningsFit, RowsKeepRules, RunsFit, SeenRowsFill, SeenRowsHaveKinds, StepsKeepFit, TablesFill}
use Rattle.law_steps.specs.Reading.{rows_in}
use Rattle.law_steps.proofs.Columns.{IsTaken, all_tested, allowed_stands, assigned_taken, new_taken, stands_taken, taken_fit, zip_weaker}
use Rattle.law_steps.proofs.Leaving.{runs_add}

-- ---- rows with changes laid over them, where an image that is there is a row

module _ (P R : Image → Type 0) (stands : (image : Image) → P image → is_there image ≡ true → R image) where
  shown_stands : (image : Image) → P image → AllByRecursion R (shown image)
  shown_stands image is = elim (is_there image) as (λ b. is_there image ≡ b → AllByRecursion R (if b then image ∷ [] else [])) [ true ↦ λ there. (stands image is there, tt) | false ↦ λ gone. tt ] refl

  each_laid : (rows changes : List Image) → AllByRecursion R rows → AllByRecursion P changes → AllByRecursion R (lay rows changes)
  each_laid rows [] stand fit = stand
  each_laid rows (c ∷ changes) stand fit = each_laid (placed shown c rows) changes (each_placed R shown c rows (shown_stands c fit.0) stand) fit.1

  each_laid_all : (rows : List Image) (commits : List (List Image)) → AllByRecursion R rows → AllByRecursion (AllByRecursion P) commits → AllByRecursion R (lay_all rows commits)
  each_laid_all rows [] stand fit = stand
  each_laid_all rows (c ∷ commits) stand fit = each_laid_all (lay rows c) commits (each_laid rows c stand fit.0) fit.1

each_noted : (P : Image → Type 0) (changes images : List Image) → AllByRecursion P changes → AllByRecursion P images → AllByRecursion P (noted changes images)
each_noted P changes [] sound fit = sound
each_noted P changes (image ∷ images) sound fit = each_noted P (placed one image changes) images (each_placed P one image changes (fit.0, tt) sound) fit.1

-- ---- images that are there

filled : (left : Option (List Value)) (P : List Value → Type 0) → IfSome left P → (image : Image) → image.left ≡ left → is_there image ≡ true → IsSomeAnd left P
filled None P fit image is there = absurd (let never : is_there (record image { left = None }) ≡ true = subst (λ (l : Option (List Value)). is_there (record image { left = l }) ≡ true) is there in (let no : false ≡ true = never in cc))
filled (Some values) P fit image is there = fit

unfilled : (left : Option (List Value)) (P : List Value → Type 0) → IsSomeAnd left P → IfSome left P
unfilled None P fit = absurd fit
unfilled (Some values) P fit = fit

some_weaker : (left : Option (List Value)) (P Q : List Value → Type 0) → ((values : List Value) → P values → Q values) → IsSomeAnd left P → IsSomeAnd left Q
some_weaker None P Q weaker fit = absurd fit
some_weaker (Some values) P Q weaker fit = weaker values fit

-- what stands in a row that is there
standing : (left : Option (List Value)) (P : List Value → Type 0) (image : Image) → image.left ≡ left → IsSomeAnd left P → P (values_in image)
standing None P image is fit = absurd fit
standing (Some values) P image is fit = subst (λ (l : Option (List Value)). P (values_in (record image { left = l }))) (sym is) fit

module _ (ts : List Table) where
  abbrev Fits : Image → Type 0
  Fits = FitsItsTable ts

  fills_its : (image : Image) → Fits image → is_there image ≡ true → FillsItsTable ts image
  fills_its image fit there = record { table = fit.table; values = filled image.left (FillColumns (columns_of ts image.table)) fit.values image refl there }

  fits_its : (image : Image) → FillsItsTable ts image → Fits image
  fits_its image fill = record { table = fill.table; values = unfilled image.left (FillColumns (columns_of ts image.table)) fill.values }

  -- the same of the images of one table
  record FitsTable (table : ℕ) (image : Image) : Type 0 where
    within : table < length ts
    table_is : image.table ≡ table
    values : IfSome image.left (FillColumns (columns_of ts table))

  fits_table : (table : ℕ) (image : Image) → image.table ≡ table → Fits image → FitsTable table image
  fits_table table image is fit = record { within = subst (λ (t : ℕ). t < length ts) is fit.table; table_is = is; values = subst (λ (t : ℕ). IfSome image.left (FillColumns (columns_of ts t))) is fit.values }

  fills_table : (table : ℕ) (image : Image) → FitsTable table image → is_there image ≡ true → FillsTable ts table image
  fills_table table image fit there = record { within = fit.within; of_it = fit.table_is; values = filled image.left (FillColumns (columns_of ts table)) fit.values image refl there }

  of_one : (table : ℕ) (images : List Image) → AllByRecursion Fits images → AllByRecursion (FitsTable table) (of_table table images)
  of_one table [] fit = tt
  of_one table (image ∷ images) fit =
      elim (nat_eq image.table table) as (λ b. nat_eq image.table table ≡ b → AllByRecursion (FitsTable table) (cond b (image ∷ of_table table images) (of_table table images))) [
        | true ↦ λ same. (fits_table table image (eqb-true image.table table same) fit.0, of_one table images fit.1)
        | false ↦ λ apart. of_one table images fit.1
      ] refl

  fills_one : (table : ℕ) (image : Image) → image.table ≡ table → FillsItsTable ts image → FillsTable ts table image
  fills_one table image is fill = record { within = subst (λ (t : ℕ). t < length ts) is fill.table; of_it = is; values = subst (λ (t : ℕ). IsSomeAnd image.left (FillColumns (columns_of ts t))) is fill.values }

  rows_of_one : (table : ℕ) (rows : List Image) → AllByRecursion (FillsItsTable ts) rows → AllByRecursion (FillsTable ts table) (of_table table rows)
  rows_of_one table [] fill = tt
  rows_of_one table (row ∷ rows) fill =
      elim (nat_eq row.table table) as (λ b. nat_eq row.table table ≡ b → AllByRecursion (FillsTable ts table) (cond b (row ∷ of_table table rows) (of_table table rows))) [
        | true ↦ λ same. (fills_one table row (eqb-true row.table table same) fill.0, rows_of_one table rows fill.1)
        | false ↦ λ apart. rows_of_one table rows fill.1
      ] refl

  each_seen : (snapshot : Option ℕ) (commits : List (List Image)) → AllByRecursion (AllByRecursion Fits) commits → AllByRecursion (AllByRecursion Fits) (commits_seen snapshot commits)
  each_seen None commits fit = fit
  each_seen (Some n) commits fit = each_taken (AllByRecursion Fits) n commits fit

  pub rows_fill : (rows : List Image) (commits : List (List Image)) (session : Session) (table : ℕ) → AllByRecursion (FillsItsTable ts) rows → AllByRecursion (AllByRecursion Fits) commits → AllByRecursion Fits session.own.changes → AllByRecursion (FillsTable ts table) (rows_seen rows commits session table)
  rows_fill rows commits session table fill fit own =
      let among = commits_seen session.snapshot commits in
      let each : AllByRecursion (AllByRecursion (FitsTable table)) (map (of_table table) among) = each_mapped (AllByRecursion (FitsTable table)) (of_table table) among (each_weaker (AllByRecursion Fits) (λ images. AllByRecursion (FitsTable table) (of_table table images)) (λ images is. of_one table images is) among (each_seen session.snapshot commits fit)) in
      each_laid (FitsTable table) (FillsTable ts table) (fills_table table) (lay_all (of_table table rows) (map (of_table table) among)) (of_table table session.own.changes)
      (each_laid_all (FitsTable table) (FillsTable ts table) (fills_table table) (of_table table rows) (map (of_table table) among) (rows_of_one table rows fill) each)
      (of_one table session.own.changes own)

-- ---- what the causes rule out

no_fault : (test : Bool) (fault : Fault) (rest : Option Fault) → (if test then Some fault else rest) ≡ None → (test ≡ false) × (rest ≡ None)
no_fault true fault rest is = absurd (cc)
no_fault false fault rest is = (refl, is)

record Passes (causes : Causes) : Type 0 where
  null : causes.null ≡ false
  too_long : causes.too_long ≡ false
  out_of_range : causes.out_of_range ≡ false

passes : (causes : Causes) → ranked causes ≡ None → Passes causes
unfolding ranked
passes causes none =
    let a = no_fault causes.divides ZeroDivisor _ none in
    let b = no_fault causes.overflows Overflow _ a.1 in
    let c = no_fault causes.too_many TooManyRows _ b.1 in
    let d = no_fault causes.locked Locked _ c.1 in
    let e = no_fault causes.null NullValue _ d.1 in
    let f = no_fault causes.too_long TextTooLong _ e.1 in
    let g = no_fault causes.out_of_range OutOfRange _ f.1 in
    record { null = e.0; too_long = f.0; out_of_range = g.0 }

each_false : {X : Type 0} (p : X → Bool) (xs : List X) → list_any p xs ≡ false → AllByRecursion (λ x. p x ≡ false) xs
each_false p [] none = tt
each_false p (x ∷ xs) none = let parts = or_parts (p x) (list_any p xs) none in (parts.0, each_false p xs parts.1)

-- ---- answers

record KeepsFit (ts : List Table) (a : Answer) : Type 0 where
  own : HasFitting ts a.own
  kept : AllByRecursion (λ (savepoint : Savepoint). HasFitting ts savepoint.own) a.savepoints
  committed : AllByRecursion (FitsItsTable ts) (committed_in a.reply.outcome)

module _ (schema : SchemaView) (view : View) (own : HasFitting schema.tables view.own) (kept : AllByRecursion (λ (savepoint : Savepoint). HasFitting schema.tables savepoint.own) view.savepoints) where
  unless_fit : (draws : List Value) (fault : Option Fault) (a : Answer) → (fault ≡ None → KeepsFit schema.tables a) → KeepsFit schema.tables (unless view draws fault a)
  unless_fit draws None a fit = fit refl
  unless_fit draws (Some fault) a fit = record { own = own; kept = kept; committed = tt }

  ruled_fit : (table : ℕ) (draws : List Value) (causes : Causes) (effect : Effect) → committed_in effect.outcome ≡ [] → (Passes causes → AllByRecursion (FitsItsTable schema.tables) effect.writing.images) → KeepsFit schema.tables (ruled table view draws causes effect)
  ruled_fit table draws causes effect nothing fit = unless_fit draws (ranked causes) (done table view draws effect) (λ none.
      record { own = each_noted (FitsItsTable schema.tables) view.own.changes effect.writing.images own (fit (passes causes none)); kept = kept; committed = subst (AllByRecursion (FitsItsTable schema.tables)) (sym nothing) tt })

-- what is known of the kinds of a checked statement with numbers
abbrev KeepsKinds : SchemaView → Plan ℕ → List Value → Type 0
KeepsKinds schema (insert table named entries) binds = are_inputs (columns_of schema.tables table) binds (target_kinds (columns_of schema.tables table) named) entries ≡ true
KeepsKinds schema (update table changes condition) binds = (list_all (is_change (columns_of schema.tables table) binds) changes && is_where (columns_of schema.tables table) binds condition) ≡ true
KeepsKinds schema other binds = Unit {0}

abbrev KeepsKindsIn : SchemaView → Request → Type 0
KeepsKindsIn schema (statement plan binds) = KeepsKinds schema plan binds
KeepsKindsIn schema other = Unit {0}

-- a row that an UPDATE leaves
module _ (schema : SchemaView) (table : ℕ) (env : Environment) where
  abbrev cs : List Column
  cs = columns_of schema.tables table

  old_taken : (row : Image) → FillsTable schema.tables table row → AllZip IsTaken cs (values_in row)
  old_taken row fill = zip_weaker MayStandIn IsTaken stands_taken cs (values_in row) (standing row.left (FillColumns cs) row refl fill.values)

  updated_fits : (changes : List (Change ℕ)) → list_all (is_change cs env.binds) changes ≡ true → (row : Image) → FillsTable schema.tables table row
      → any_column violates_not_null cs (values_in (updated env changes row)) ≡ false → any_column exceeds cs (values_in (updated env changes row)) ≡ false → any_column leaves cs (values_in (updated env changes row)) ≡ false
      → FitsItsTable schema.tables (updated env changes row)
  updated_fits changes agree row fill there short in_range =
      let taken = assigned_taken cs env row (old_taken row fill) changes (values_in row) (old_taken row fill) agree in
      record {
        table = subst (λ (t : ℕ). t < length schema.tables) (sym fill.of_it) fill.within;
        values = subst (λ (t : ℕ). FillColumns (columns_of schema.tables t) (values_in (updated env changes row))) (sym fill.of_it) (all_tested cs (values_in (updated env changes row)) taken there short in_range);
      }

  each_updated : (changes : List (Change ℕ)) → list_all (is_change cs env.binds) changes ≡ true → (rows : List Image) → AllByRecursion (FillsTable schema.tables table) rows
      → any_value violates_not_null cs (map (updated env changes) rows) ≡ false → any_value exceeds cs (map (updated env changes) rows) ≡ false → any_value leaves cs (map (updated env changes) rows) ≡ false
      → AllByRecursion (FitsItsTable schema.tables) (map (updated env changes) rows)
  each_updated changes agree [] fill there short in_range = tt
  each_updated changes agree (row ∷ rows) fill there short in_range =
      let new = updated env changes row in
      let a = or_parts (any_column violates_not_null cs (values_in new)) (any_value violates_not_null cs (map (updated env changes) rows)) there in
      let b = or_parts (any_column exceeds cs (values_in new)) (any_value exceeds cs (map (updated env changes) rows)) short in
      let d = or_parts (any_column leaves cs (values_in new)) (any_value leaves cs (map (updated env changes) rows)) in_range in
      (updated_fits changes agree row fill.0 a.0 b.0 d.0, each_updated changes agree rows fill.1 a.1 b.1 d.1)

  new_fits : table < length schema.tables → (draws : List Value) (row : ℕ) (named : Option (List ℕ)) (entries : List (Entry ℕ)) → are_inputs cs env.binds (target_kinds cs named) entries ≡ true
      → any_value violates_not_null cs (new_row env cs draws row table named entries ∷ []) ≡ false → any_value exceeds cs (new_row env cs draws row table named entries ∷ []) ≡ false → any_value leaves cs (new_row env cs draws row table named entries ∷ []) ≡ false
      → FitsItsTable schema.tables (new_row env cs draws row table named entries)
  new_fits within draws row named entries agree there short in_range =
      let new = new_row env cs draws row table named entries in
      record {
        table = within;
        values = all_tested cs (values_in new) (new_taken cs env draws entries named agree) (or_parts _ false there).0 (or_parts _ false short).0 (or_parts _ false in_range).0;
      }

module _ (schema : SchemaView) (table : ℕ) where
  gone_fits : (row : Image) → FillsTable schema.tables table row → FitsItsTable schema.tables (gone row)
  gone_fits row fill = record { table = subst (λ (t : ℕ). t < length schema.tables) (sym fill.of_it) fill.within; values = tt }

  each_gone : (rows : List Image) → AllByRecursion (FillsTable schema.tables table) rows → AllByRecursion (FitsItsTable schema.tables) (map gone rows)
  each_gone rows fill = each_mapped (FitsItsTable schema.tables) gone rows (each_weaker (FillsTable schema.tables table) (λ row. FitsItsTable schema.tables (gone row)) gone_fits rows fill)

-- the view's rows are those of the statement's table
abbrev SeesFitting : SchemaView → Option ℕ → View → Type 0
SeesFitting schema None view = Unit {0}
SeesFitting schema (Some table) view = AllByRecursion (FillsTable schema.tables table) view.rows

module _ (schema : SchemaView) (view : View) (own : HasFitting schema.tables view.own) (kept : AllByRecursion (λ (savepoint : Savepoint). HasFitting schema.tables savepoint.own) view.savepoints) (next_values : List ℕ) (row : ℕ) where
  executed_fit : (env : Environment) (plan : Plan ℕ) → SeesFitting schema (table_of plan) view → IsSoundPlan schema plan → KeepsKinds schema plan env.binds → KeepsFit schema.tables (executed schema view next_values row env plan)
  executed_fit env (select table asked condition keys for_update) sees sound kinds =
      ruled_fit schema view own kept table [] (select_causes env view asked condition for_update) (select_effect env view asked condition keys for_update) refl (λ passed. tt)
  executed_fit env (next sequence) sees sound kinds = record { own = own; kept = kept; committed = tt }
  executed_fit env (insert table named entries) sees within kinds =
      let draws = draws_of (insert table named entries) next_values in
      let new = new_row env (columns_of schema.tables table) draws row table named entries in
      ruled_fit schema view own kept table draws (insert_causes env (columns_of schema.tables table) view draws new entries) (insert_effect new) refl
      (λ passed. (new_fits schema table env within draws row named entries kinds passed.null passed.too_long passed.out_of_range, tt))
  executed_fit env (update table changes condition) sees sound kinds =
      let agree = and_parts _ (is_where (columns_of schema.tables table) env.binds condition) kinds in
      ruled_fit schema view own kept table [] (update_causes env (columns_of schema.tables table) view changes condition) (update_effect env view changes condition) refl
      (λ passed. each_updated schema table env changes agree.0 (matching env condition view.rows) (each_filtered (FillsTable schema.tables table) (matches env condition) view.rows sees) passed.null passed.too_long passed.out_of_range)
  executed_fit env (delete table condition) sees sound kinds =
      ruled_fit schema view own kept table [] (delete_causes env view condition) (delete_effect env view condition) refl
      (λ passed. each_gone schema table (matching env condition view.rows) (each_filtered (FillsTable schema.tables table) (matches env condition) view.rows sees))
  executed_fit env commit sees sound kinds = record { own = tt; kept = tt; committed = own }
  executed_fit env rollback sees sound kinds = record { own = tt; kept = tt; committed = tt }
  executed_fit env set_read_only sees sound kinds = record { own = own; kept = kept; committed = tt }
  executed_fit env (savepoint name) sees sound kinds =
      record { own = own; kept = each_with (λ (x : Savepoint). HasFitting schema.tables x.own) view.savepoints (record { name = name; own = view.own }) kept own; committed = tt }
  executed_fit env (rollback_to name) sees sound kinds =
      record { own = own_at_one (HasFitting schema.tables) name view.own view.savepoints own kept; kept = each_up_to (λ (x : Savepoint). HasFitting schema.tables x.own) name view.savepoints kept; committed = tt }

  answer_fit : (request : Request) → SeesFitting schema (table_in request) view → IsSoundRequest schema request → KeepsKindsIn schema request → KeepsFit schema.tables (answer schema view next_values row request)
  answer_fit (connect service) sees sound kinds = unless_fit schema view own kept [] (connect_fault view service) (record (unchanged view (reply_of Connected [] None)) { rights = service }) (λ none. record { own = own; kept = kept; committed = tt })
  answer_fit disconnect sees sound kinds = unless_fit schema view own kept [] (disconnect_fault view) (ended None Disconnected) (λ none. record { own = tt; kept = tt; committed = tt })
  answer_fit unreadable sees sound kinds = record { own = own; kept = kept; committed = tt }
  answer_fit (unsound table fault) sees sound kinds = record { own = own; kept = kept; committed = tt }
  answer_fit (statement plan binds) sees sound kinds =
      let env : Environment = record { level = schema.level; binds = binds } in
      unless_fit schema view own kept [] (statement_fault view plan) (executed schema view next_values row env plan) (λ none. executed_fit env plan sees sound kinds)

-- ---- a checked statement keeps the rules of kinds

module _ (schema : SchemaView) (binds : List Value) where
  numbered_kinds : (parsed : Plan Name) → kinds_agree (columns_at schema parsed) binds (numbered schema parsed) ≡ true → KeepsKinds schema (numbered schema parsed) binds
  numbered_kinds (select table asked condition keys for_update) agree = tt
  numbered_kinds (next sequence) agree = tt
  numbered_kinds (insert table named entries) agree = agree
  numbered_kinds (update table changes condition) agree = agree
  numbered_kinds (delete table condition) agree = tt
  numbered_kinds commit agree = tt
  numbered_kinds rollback agree = tt
  numbered_kinds set_read_only agree = tt
  numbered_kinds (savepoint name) agree = tt
  numbered_kinds (rollback_to name) agree = tt

  told_ok : (fault : Option Fault) (plan found : Plan ℕ) → unless_told fault (Ok plan) ≡ Ok found → plan ≡ found
  told_ok (Some fault) plan found is = absurd (cc)
  told_ok None plan found is = cc

  checked_kinds : (parsed : Plan Name) (found : Plan ℕ) → check_of schema binds parsed ≡ Ok found → KeepsKinds schema found binds
  checked_kinds parsed found is =
      subst (λ (plan : Plan ℕ). KeepsKinds schema plan binds) (told_ok (first_fault schema binds parsed) (numbered schema parsed) found is)
      (numbered_kinds parsed (not-false (kinds_agree (columns_at schema parsed) binds (numbered schema parsed)) (nothing_is_overlooked schema binds parsed found is Kinds)))

  after_check : (table : Option ℕ) (found : Result (Plan ℕ) Fault) → ((plan : Plan ℕ) → found ≡ Ok plan → KeepsKinds schema plan binds) → KeepsKindsIn schema (checked table binds found)
  after_check table (Ok plan) kinds = kinds plan refl
  after_check table (Err fault) kinds = tt

  after_read : (parsed : Option (Plan Name)) → KeepsKindsIn schema (read schema binds parsed)
  after_read None = tt
  after_read (Some parsed) = after_check (table_named schema parsed) (check_of schema binds parsed) (checked_kinds parsed)

request_kinds : (schema : SchemaView) (call : Call) → KeepsKindsIn schema (request_of schema call)
request_kinds schema (Connect service) = tt
request_kinds schema Disconnect = tt
request_kinds schema (Sql text binds) = after_read schema binds (statement_in schema.version text)

-- ---- states

start_fills : (ts : List Table) (nexts : List ℕ) (row : Image) → IsSoundRow ts nexts row → FillsItsTable ts row
start_fills ts nexts row is = record { table = is.is_table; values = some_weaker row.left (AllZip (IsAllowed nexts) (columns_of ts row.table)) (FillColumns (columns_of ts row.table)) (λ values allowed. zip_weaker (IsAllowed nexts) MayStandIn (allowed_stands nexts) (columns_of ts row.table) values allowed) is.allowed }

pub openings_fit : OpeningsFit
openings_fit start is =
    let sound = sound_start start is in
    record {
      start = each_weaker (IsSoundRow start.schema.tables start.next_values) (FillsItsTable start.schema.tables) (start_fills start.schema.tables start.next_values) start.rows sound.sound.sound_rows.each;
      commits = tt;
      own = each_repeated (λ (session : Session). HasFitting start.schema.tables session.own) 64 disconnected tt;
      kept = each_repeated (λ (session : Session). AllByRecursion (λ (savepoint : Savepoint). HasFitting start.schema.tables savepoint.own) session.savepoints) 64 disconnected tt;
    }

pub seen_rows_fill : SeenRowsFill
seen_rows_fill state session table fit =
    rows_fill state.start.schema.tables state.start.rows state.commits (session_at state session) table fit.start fit.commits
    (one_of (λ (session : Session). HasFitting state.start.schema.tables session.own) state.sessions session disconnected tt fit.own)

pub tables_fill : TablesFill
tables_fill state n fit =
    each_laid_all (FitsItsTable state.start.schema.tables) (FillsItsTable state.start.schema.tables) (fills_its state.start.schema.tables) state.start.rows (take n state.commits) fit.start
    (each_taken (AllByRecursion (FitsItsTable state.start.schema.tables)) n state.commits fit.commits)

module _ (state : State) (session : ℕ) (fit : RowsKeepRules state) where
  own_fits : AllByRecursion (FitsItsTable state.start.schema.tables) (session_at state session).own.changes
  own_fits = one_of (λ (session : Session). HasFitting state.start.schema.tables session.own) state.sessions session disconnected tt fit.own

  kept_fits : AllByRecursion (λ (savepoint : Savepoint). HasFitting state.start.schema.tables savepoint.own) (session_at state session).savepoints
  kept_fits = one_of (λ (session : Session). AllByRecursion (λ (savepoint : Savepoint). HasFitting state.start.schema.tables savepoint.own) session.savepoints) state.sessions session disconnected tt fit.kept

  view_kept_fits : (table : Option ℕ) → AllByRecursion (λ (savepoint : Savepoint). HasFitting state.start.schema.tables savepoint.own) (view_of state session table).savepoints
  view_kept_fits None = kept_fits
  view_kept_fits (Some table) = kept_fits

  view_own_fits : (table : Option ℕ) → AllByRecursion (FitsItsTable state.start.schema.tables) (view_of state session table).own.changes
  view_own_fits None = own_fits
  view_own_fits (Some table) = own_fits

  view_sees : (table : Option ℕ) → SeesFitting state.start.schema table (view_of state session table)
  view_sees None = tt
  view_sees (Some table) = seen_rows_fill state session table fit

  answered_fit : (call : Call) → KeepsFit state.start.schema.tables (answer_in state session call)
  answered_fit call =
      let request = request_of state.start.schema call in
      answer_fit state.start.schema (view_of state session (table_in request)) (view_own_fits (table_in request)) (view_kept_fits (table_in request)) state.next_values state.next_row request (view_sees (table_in request)) (sound_request state.start.schema call) (request_kinds state.start.schema call)

commits_fit : (P : Image → Type 0) (commits : List (List Image)) (images : List Image) → AllByRecursion (AllByRecursion P) commits → AllByRecursion P images → AllByRecursion (AllByRecursion P) (with_commit commits images)
commits_fit P commits [] fit new = fit
commits_fit P commits (image ∷ images) fit new = each_joined (AllByRecursion P) commits ((image ∷ images) ∷ []) fit (new, tt)

pub steps_keep_fit : StepsKeepFit
steps_keep_fit state session call fit =
    let a = answer_in state session call in
    let keeps = answered_fit state session fit call in
    let left = session_after (session_at state session) (length state.commits) a in
    record {
      start = fit.start;
      commits = commits_fit (FitsItsTable state.start.schema.tables) state.commits (committed_in a.reply.outcome) fit.commits keeps.committed;
      own = each_set (λ (session : Session). HasFitting state.start.schema.tables session.own) state.sessions session left keeps.own fit.own;
      kept = each_set (λ (session : Session). AllByRecursion (λ (savepoint : Savepoint). HasFitting state.start.schema.tables savepoint.own) session.savepoints) state.sessions session left keeps.kept fit.kept;
    }

run_fits : (state : State) (calls : List (ℕ × Call)) → RowsKeepRules state → RowsKeepRules (run state calls)
run_fits state [] fit = fit
run_fits state (call ∷ calls) fit = run_fits (step state call.0 call.1) calls (steps_keep_fit state call.0 call.1 fit)

pub runs_fit : RunsFit
runs_fit start calls is = run_fits (opening start) calls (openings_fit start is)

-- ---- kinds of the rows that are seen

row_kinds : (ts : List Table) (table : ℕ) (row : Image) → FillsTable ts table row → FitColumns (columns_of ts table) (values_in row)
row_kinds ts table row fill = taken_fit (columns_of ts table) (values_in row) (zip_weaker MayStandIn IsTaken stands_taken (columns_of ts table) (values_in row) (standing row.left (FillColumns (columns_of ts table)) row refl fill.values))

pub seen_rows_have_kinds : SeenRowsHaveKinds
seen_rows_have_kinds start calls session table is =
    let state = run (opening start) calls in
    let same : state.start ≡ start = (runs_add (opening start) calls).start in
    let rows = rows_in state session table in
    let fill : AllByRecursion (FillsTable start.schema.tables table) rows = subst (λ (s : StartView). AllByRecursion (FillsTable s.schema.tables table) rows) same (seen_rows_fill state session table (runs_fit start calls is)) in
    each_weaker (FillsTable start.schema.tables table) (λ row. FitColumns (columns_of start.schema.tables table) (values_in row)) (row_kinds start.schema.tables table) rows fill
