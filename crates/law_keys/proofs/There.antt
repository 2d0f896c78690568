-- Each row has a key that is not Null, since it keeps the rules of its columns and the first of those takes no Null.
use Rattle.std.proofs.Common.{◌≡◌, ◌∙◌, ◌<◌, ◌≤◌, ℕ, zero, suc, true, false, List, [], ◌∷◌, length, refl, sym, subst, arith}
use Rattle.std.specs.Prelude.{Option, None, Some, IfSome, IsSomeAnd, slice_get}
use Rattle.std.specs.Option.{option_map}
use Rattle.std.specs.List.{AllByRecursion}
use Rattle.std.proofs.lemmas.Bool.{eq-eqb, false≢true}
use Rattle.desk_values.specs.declared.value.Value.{Value}
use Rattle.desk_values.specs.declared.value.Value.TheVariants.{Null}
use Rattle.desk_values.specs.declared.value.Image.{Image}
use Rattle.desk_values.specs.declared.call.Call.{Call}
use Rattle.desk_schema.specs.declared.schema.Column.{Column}
use Rattle.desk_schema.specs.declared.schema.Table.{Table}
use Rattle.desk_schema.specs.File.{IsStart}
use Rattle.desk_schema.specs.Rules.{key_of}
use Rattle.desk_schema.specs.Schema.{HasColumns, SchemaView, columns_of}
use Rattle.desk_schema.specs.Sound.{IsSoundTable}
use Rattle.desk_schema.specs.Start.{StartView}
use Rattle.desk_schema.proofs.Files.{sound_start}
use Rattle.server_words.specs.declared.session.Session.{Session}
use Rattle.server_words.specs.State.{disconnected, opening, session_at, tables}
use Rattle.server_words.specs.Step.{run}
use Rattle.server_words.proofs.Members.{each_weaker, one_of}
use Rattle.law_steps.specs.Fits.{FillColumns, FillsItsTable, FillsTable, FitsItsTable, MayStandIn}
use Rattle.law_steps.specs.Reading.{rows_in}
use Rattle.law_steps.proofs.Fits.{runs_fit, seen_rows_fill, tables_fill}
use Rattle.law_steps.proofs.Leaving.{runs_add}
use Rattle.law_keys.specs.Keys.{HasNonNullKey, HoldTheKeysTheyGive, KeysAreThere}
use Rattle.law_keys.proofs.Members.{each_in}
use Rattle.law_keys.proofs.Given.{holds_keys}
use Rattle.law_keys.proofs.Runs.{reached}

first_there : (columns : List Column) (values : List Value) → 1 ≤ length columns → IfSome (slice_get columns 0) (λ column. column.not_null ≡ true) → FillColumns columns values → key_of values ≡ Null → ⊥
first_there [] values some key fill none = omega arith
first_there (column ∷ columns) [] some key fill none = absurd fill
first_there (column ∷ columns) (first ∷ values) some key fill none = let nulls : column.not_null ≡ false = subst (MayStandIn column) none fill.0 in false≢true (sym nulls ∙ key)

values_there : (sequences : ℕ) (ts : List Table) (table : ℕ) (values : List Value) → AllByRecursion (IsSoundTable sequences) ts → AllByRecursion HasColumns ts → table < length ts → FillColumns (columns_of ts table) values → key_of values ≡ Null → ⊥
values_there sequences [] table values sound have within fill = absurd (omega arith)
values_there sequences (first ∷ ts) zero values sound have within fill = first_there first.columns values have.0.least sound.0.key fill
values_there sequences (first ∷ ts) (suc table) values sound have within fill = values_there sequences ts table values sound.1 have.1 (omega arith) fill

left_there : (left : Option (List Value)) (P : List Value → Type 0) → ((values : List Value) → P values → key_of values ≡ Null → ⊥) → IsSomeAnd left P → IsSomeAnd (option_map key_of left) (λ key. ¬ (key ≡ Null))
left_there None P there is = absurd is
left_there (Some values) P there is = there values is

module _ (schema : SchemaView) (sound : AllByRecursion (IsSoundTable (length schema.sequences)) schema.tables) (have : AllByRecursion HasColumns schema.tables) where
  row_there : (table : ℕ) (row : Image) → table < length schema.tables → row.table ≡ table → IsSomeAnd row.left (FillColumns (columns_of schema.tables table)) → HasNonNullKey table row
  row_there table row within of_it fill = rw (eq-eqb row.table table of_it) (left_there row.left (FillColumns (columns_of schema.tables table)) (λ values. values_there (length schema.sequences) schema.tables table values sound have within) fill)

  change_there : (left : Option (List Value)) (table : ℕ) → table < length schema.tables → IfSome left (FillColumns (columns_of schema.tables table)) → IfSome left (λ values. key_of values ≡ Null → ⊥)
  change_there None table within fill = tt
  change_there (Some values) table within fill = values_there (length schema.sequences) schema.tables table values sound have within fill

-- what a start's schema keeps
record HasKeyColumns (schema : SchemaView) : Type 0 where
  sound : AllByRecursion (IsSoundTable (length schema.sequences)) schema.tables
  have : AllByRecursion HasColumns schema.tables

has_columns : (start : StartView) (calls : List (ℕ × Call)) → IsStart start → HasKeyColumns (run (opening start) calls).start.schema
has_columns start calls is =
    let known = sound_start start is in
    subst (λ (s : StartView). HasKeyColumns s.schema) (sym (runs_add (opening start) calls).start) (record { sound = known.sound.is_schema.tables_sound; have = known.is_schema.columns })

pub keys_there : (start : StartView) (calls : List (ℕ × Call)) → IsStart start → KeysAreThere (run (opening start) calls)
keys_there start calls is =
    let state = run (opening start) calls in
    let fit = runs_fit start calls is in
    let columns = has_columns start calls is in
    let there = row_there state.start.schema columns.sound columns.have in
    record {
      committed = λ commits. each_weaker (FillsItsTable state.start.schema.tables) (λ (row : Image). HasNonNullKey row.table row) (λ row fill. there row.table row fill.table refl fill.values) (tables state commits) (tables_fill state commits fit);
      seen = λ session table. each_weaker (FillsTable state.start.schema.tables table) (HasNonNullKey table) (λ row fill. there table row fill.within fill.of_it fill.values) (rows_in state session table) (seen_rows_fill state session table fit);
    }

pub keys_held : (start : StartView) (calls : List (ℕ × Call)) → IsStart start → HoldTheKeysTheyGive (run (opening start) calls)
keys_held start calls is session =
    let state = run (opening start) calls in
    let fit = runs_fit start calls is in
    let columns = has_columns start calls is in
    let own = one_of (λ (s : Session). AllByRecursion (FitsItsTable state.start.schema.tables) s.own.changes) state.sessions session disconnected tt fit.own in
    holds_keys state (reached start calls is) (keys_there start calls is) session (λ x among.
    let fits = each_in (FitsItsTable state.start.schema.tables) x (session_at state session).own.changes own among in
    change_there state.start.schema columns.sound columns.have x.left x.table fits.table fits.values)
