-- Parts of a start that may break rules, and the lines that declare them.
use Rattle.std.specs.Prelude.{ℕ, ◌≡◌, ◌<◌, ◌≤◌, true, List, length, slice_get, is_some, Some, Result, Ok, Err}
use Rattle.std.specs.List.{AllByRecursion}
use Rattle.desk_values.specs.declared.value.Image.{Image}
use Rattle.desk_schema.specs.declared.draft.DraftErr.{DraftErr}
use Rattle.desk_schema.specs.declared.draft.DraftErr.TheVariants.{Rule, Memory}
use Rattle.desk_schema.specs.declared.edit.Edit.{Edit}
use Rattle.desk_schema.specs.declared.edit.Edit.TheVariants as edit
use Rattle.desk_schema.specs.declared.declaring.Parts.{Parts}
use Rattle.desk_schema.specs.declared.line.StartLine.{StartLine}
use Rattle.desk_schema.specs.declared.schema.Column.{Column}
use Rattle.desk_schema.specs.declared.schema.Kind.{Kind}
use Rattle.desk_schema.specs.declared.schema.Kind.TheVariants.{Seq}
use Rattle.desk_schema.specs.declared.schema.Table.{Table}
use Rattle.desk_schema.specs.Start.{StartView}
use Rattle.desk_schema.specs.State.{State, state_after}
use Rattle.desk_schema.specs.Rules.{AreLinesFrom}
use Rattle.desk_schema.specs.Sound.{AreDistinct}
use Rattle.desk_schema.specs.Schema.{columns_of}
use Rattle.desk_schema.specs.Change.{MayChange}
use Rattle.desk_schema.specs.Target.{bare_kind}
use Rattle.desk_schema.specs.declared.change.ChangeErr.{ChangeErr}
use Rattle.desk_schema.specs.declared.change.ChangeErr.TheVariants as change

-- the start of the parts
abbrev pub start_of : Parts → StartView
start_of parts = record {
  schema = record { version = parts.version; level = parts.level; sequences = parts.sequences.now; services = parts.services.now; tables = parts.tables.now };
  rows = parts.rows.now;
  next_row = parts.next_row;
  next_values = parts.next_values.now;
}

-- the kind's sequence is there
abbrev pub IsNumbered : ℕ → Kind → Type 0
IsNumbered sequences (Seq sequence) = sequence < sequences
IsNumbered sequences other = Unit {0}

-- what its lines can say: they declare just this start, if they keep the rules
pub record IsSayable (start : StartView) : Type 0 where
  pub counts : length start.next_values ≡ length start.schema.sequences
  pub distinct : AreDistinct start.schema.sequences
  pub numbered : AllByRecursion (λ (table : Table). AllByRecursion (λ (column : Column). IsNumbered (length start.schema.sequences) column.kind) table.columns) start.schema.tables
  pub left : AllByRecursion (λ (row : Image). is_some row.left ≡ true) start.rows

-- the lines are added, or one of them breaks a rule
abbrev pub Declares : Result (Unit {0}) DraftErr → State → List StartLine → State → Type 0
Declares (Ok _) old lines new = AreLinesFrom old lines × (new ≡ state_after old lines)
Declares (Err Rule) old lines new = ¬ AreLinesFrom old lines
Declares (Err Memory) old lines new = Unit {0}

-- what is edited is there: a column of the same kind, a next value that is not above, a service
abbrev pub EditFits : StartView → Edit → Type 0
EditFits start (edit.Shape t c kind not_null) = (column : Column) × (slice_get (columns_of start.schema.tables t) c ≡ Some column) × (bare_kind kind ≡ bare_kind column.kind)
EditFits start (edit.Next q next) = (old : ℕ) × (slice_get start.next_values q ≡ Some old) × (old ≤ next)
EditFits start (edit.Grant place rights) = place < length start.schema.services
EditFits start (edit.Withdraw place) = place < length start.schema.services
EditFits start other = Unit {0}

-- the record of this number may come and leads to the answer, or may not
abbrev pub ChangesBy : StartView → List (List ℕ) → ℕ → Result StartView ChangeErr → Type 0
ChangesBy start fields n (Ok next) = MayChange start fields next
ChangesBy start fields n (Err (change.BadRow m)) = (m ≡ n) × ((next : StartView) → ¬ MayChange start fields next)
ChangesBy start fields n (Err change.Memory) = Unit {0}
