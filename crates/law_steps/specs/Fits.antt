-- Rows that keep the rules of their columns.
use Rattle.std.specs.Prelude.{◌≡◌, ◌<◌, ◌≤◌, ◌≤ℤ◌, ℕ, false, List, length, IfSome, IsSomeAnd}
use Rattle.std.specs.List.{AllByRecursion, AllZip}
use Rattle.desk_values.specs.declared.call.Call.{Call}
use Rattle.desk_values.specs.declared.value.Image.{Image}
use Rattle.desk_values.specs.declared.value.Value.{Value}
use Rattle.desk_values.specs.declared.value.Value.TheVariants as value
use Rattle.desk_schema.specs.declared.schema.Column.{Column}
use Rattle.desk_schema.specs.declared.schema.Kind.{Kind}
use Rattle.desk_schema.specs.declared.schema.Kind.TheVariants.{Int, Text, Seq}
use Rattle.desk_schema.specs.declared.schema.Table.{Table}
use Rattle.desk_schema.specs.File.{IsStart}
use Rattle.desk_schema.specs.Schema.{columns_of}
use Rattle.desk_schema.specs.Start.{StartView}
use Rattle.sql_eval.specs.Laws.{FitColumns}
use Rattle.sql_eval.specs.Totals.{values_in}
use Rattle.server_words.specs.declared.session.Savepoint.{Savepoint}
use Rattle.server_words.specs.declared.session.Session.{Session}
use Rattle.server_words.specs.declared.session.Transaction.{Transaction}
use Rattle.server_words.specs.State.{State, opening, tables}
use Rattle.server_words.specs.Step.{run, step}
use Rattle.law_steps.specs.Reading.{rows_in}

-- a value of this kind: a number in the range, a text that is not too long, or a value that was drawn from the sequence
abbrev pub KeepsKind : Kind → Value → Type 0
KeepsKind (Int low high) (value.Int n) = (low ≤ℤ n) × (n ≤ℤ high)
KeepsKind (Text most) (value.Text text) = length text ≤ most
KeepsKind (Seq sequence) (value.Draw drawn n) = drawn ≡ sequence
KeepsKind kind other = ⊥

-- Null where the column may be null, or a value of its kind
abbrev pub MayStandIn : Column → Value → Type 0
MayStandIn column value.Null = column.not_null ≡ false
MayStandIn column other = KeepsKind column.kind other

-- as many values as columns, and each may stand in its own
abbrev pub FillColumns : List Column → List Value → Type 0
FillColumns columns values = AllZip MayStandIn columns values

-- an image of a row of a table that there is, whose values fill the table's columns where the row is not gone
pub record FitsItsTable (tables : List Table) (image : Image) : Type 0 where
  pub table : image.table < length tables
  pub values : IfSome image.left (FillColumns (columns_of tables image.table))

-- a row that is there, and fills the columns of its table
pub record FillsItsTable (tables : List Table) (row : Image) : Type 0 where
  pub table : row.table < length tables
  pub values : IsSomeAnd row.left (FillColumns (columns_of tables row.table))

-- a row of this table that is there, and fills its columns
pub record FillsTable (tables : List Table) (table : ℕ) (row : Image) : Type 0 where
  pub within : table < length tables
  pub of_it : row.table ≡ table
  pub values : IsSomeAnd row.left (FillColumns (columns_of tables table))

-- changes keep the rules of their columns
abbrev pub HasFitting : List Table → Transaction → Type 0
HasFitting tables own = AllByRecursion (FitsItsTable tables) own.changes

-- the start's rows, what was committed, what the sessions changed and what their savepoints keep of it keep the rules of their
-- columns
pub record RowsKeepRules (state : State) : Type 0 where
  pub start : AllByRecursion (FillsItsTable state.start.schema.tables) state.start.rows
  pub commits : AllByRecursion (AllByRecursion (FitsItsTable state.start.schema.tables)) state.commits
  pub own : AllByRecursion (λ (session : Session). HasFitting state.start.schema.tables session.own) state.sessions
  pub kept : AllByRecursion
      (λ (session : Session). AllByRecursion (λ (savepoint : Savepoint). HasFitting state.start.schema.tables savepoint.own) session.savepoints) state.sessions

-- the server starts so, each step leaves it so, and so each run of calls from the first one on
abbrev pub OpeningsFit : Type 0
OpeningsFit = (start : StartView) → IsStart start → RowsKeepRules (opening start)

abbrev pub StepsKeepFit : Type 0
StepsKeepFit = (state : State) (session : ℕ) (call : Call) → RowsKeepRules state → RowsKeepRules (step state session call)

abbrev pub RunsFit : Type 0
RunsFit = (start : StartView) (calls : List (ℕ × Call)) → IsStart start → RowsKeepRules (run (opening start) calls)

-- then the rows of the tables after so many commits keep the rules
abbrev pub TablesFill : Type 0
TablesFill = (state : State) (n : ℕ) → RowsKeepRules state → AllByRecursion (FillsItsTable state.start.schema.tables) (tables state n)

-- and so do those that a session sees of a table
abbrev pub SeenRowsFill : Type 0
SeenRowsFill = (state : State) (session table : ℕ) → RowsKeepRules state
    → AllByRecursion (FillsTable state.start.schema.tables table) (rows_in state session table)

-- the laws on the kinds of expressions hold for the row, as one of this table
abbrev pub FitsKinds : List Table → ℕ → Image → Type 0
FitsKinds tables table row = FitColumns (columns_of tables table) (values_in row)

-- so they do for each row that a session can come to see
abbrev pub SeenRowsHaveKinds : Type 0
SeenRowsHaveKinds = (start : StartView) (calls : List (ℕ × Call)) (session table : ℕ) → IsStart start
    → AllByRecursion (FitsKinds start.schema.tables table) (rows_in (run (opening start) calls) session table)
