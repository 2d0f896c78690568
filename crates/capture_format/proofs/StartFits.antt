-- Every line that may come in a sound state has a text.
use Rattle.std.proofs.Common.{ℕ, zero, suc, ◌<◌, ◌≤◌, ◌^◌, List, [], ◌∷◌, length, subst, arith, ⊎_elim}
use Rattle.std.specs.Prelude.{ℤ, pos, negsuc, ◌≤ℤ◌, FitsSigned, IsSomeAnd, slice_get}
use Rattle.std.specs.Int.{w64}
use Rattle.std.proofs.lemmas.Int.{ints}
use Rattle.std.specs.List.{AllByRecursion, AllZip, Contains}
use Rattle.desk_values.specs.declared.value.Value.{Value}
use Rattle.desk_values.specs.declared.value.Value.TheVariants as value
use Rattle.desk_values.specs.Good.{IsValue, IsValues}
use Rattle.desk_schema.specs.declared.line.StartLine.{StartLine}
use Rattle.desk_schema.specs.declared.line.StartLine.TheVariants as line
use Rattle.desk_schema.specs.declared.line.ColumnKind.{ColumnKind}
use Rattle.desk_schema.specs.declared.line.ColumnKind.TheVariants as written
use Rattle.desk_schema.specs.declared.schema.Kind.{Kind}
use Rattle.desk_schema.specs.declared.schema.Kind.TheVariants as numbered
use Rattle.desk_schema.specs.declared.schema.Column.{Column}
use Rattle.desk_schema.specs.declared.schema.Table.{Table}
use Rattle.desk_schema.specs.Name.{IsName}
use Rattle.desk_schema.specs.Schema.{columns_of}
use Rattle.desk_schema.specs.State.{State, added}
use Rattle.desk_schema.specs.Rules.{IsKind, IsAllowed, IsOfKind, MayFollow, AreLinesFrom}
use Rattle.desk_schema.specs.Sound.{IsKnownKind, IsSoundTable}
use Rattle.desk_schema.specs.Inside.Sound.{IsSoundState}
use Rattle.desk_schema.proofs.Members.{Contains-none, Contains-cases}
use Rattle.desk_schema.proofs.Steps.{sound_added}
use Rattle.file_lines.proofs.Forms.{AreLines}
use Rattle.capture_format.specs.StartFile.{IsColumnKind, IsStartLine, start_form}

contained : (names : List (List ℕ)) (name : List ℕ) → AllByRecursion IsName names → Contains names name → IsName name
contained [] name all is = absurd (Contains-none name is)
contained (first ∷ names) name all is = ⊎_elim (λ same. subst IsName same all.0) (λ later. contained names name all.1 later) (Contains-cases first names name is)

kind_fits : (sequences : List (List ℕ)) (kind : ColumnKind) → AllByRecursion IsName sequences → IsKind sequences kind → IsColumnKind kind
kind_fits sequences (written.Int low high) names is = (is.low_fits, is.high_fits)
kind_fits sequences (written.Text most) names is = let few = is.1 in omega (arith, few)
kind_fits sequences (written.Seq name) names is = contained sequences name names is

-- ---- values

between : (low n high : ℤ) → FitsSigned w64 low → FitsSigned w64 high → low ≤ℤ n → n ≤ℤ high → FitsSigned w64 n
between (pos low) (pos n) (pos high) first last over under = let most = last.sfits in record { sfits = omega (arith, ints, most, under) }
between (negsuc low) (pos n) (pos high) first last over under = let most = last.sfits in record { sfits = omega (arith, ints, most, under) }
between (negsuc low) (negsuc n) high first last over under = let most = first.sfits in record { sfits = omega (arith, ints, most, over) }
between (pos low) (negsuc n) high first last over under = absurd (omega (arith, ints, over))
between low (pos n) (negsuc high) first last over under = absurd (omega (arith, ints, under))

module _ (sequences : ℕ) (nexts : List ℕ) (few : sequences ≤ 16) (limits : AllByRecursion (λ next. (1 ≤ next) × (next ≤ 549755813888)) nexts) where
  limited : (ns : List ℕ) (sequence n : ℕ) → AllByRecursion (λ next. (1 ≤ next) × (next ≤ 549755813888)) ns → IsSomeAnd (slice_get ns sequence) (λ next. n < next) → n < 2 ^ 64
  limited [] sequence n all below = absurd below
  limited (next ∷ ns) zero n all below = let most = all.0.1 in omega (arith, most, below)
  limited (next ∷ ns) (suc sequence) n all below = limited ns sequence n all.1 below

  of_kind : (kind : Kind) (v : Value) → IsKnownKind sequences kind → IsOfKind nexts kind v → IsValue v
  of_kind kind value.Null known is = tt
  of_kind (numbered.Int low high) (value.Int n) known is = between low n high known.low_fits known.high_fits is.0 is.1
  of_kind (numbered.Text most) (value.Int n) known is = absurd is
  of_kind (numbered.Seq sequence) (value.Int n) known is = absurd is
  of_kind (numbered.Int low high) (value.Text text) known is = absurd is
  of_kind (numbered.Text most) (value.Text text) known is = is.0
  of_kind (numbered.Seq sequence) (value.Text text) known is = absurd is
  of_kind (numbered.Int low high) (value.Row n) known is = absurd is
  of_kind (numbered.Text most) (value.Row n) known is = absurd is
  of_kind (numbered.Seq sequence) (value.Row n) known is = absurd is
  of_kind (numbered.Int low high) (value.Draw drawn n) known is = absurd is
  of_kind (numbered.Text most) (value.Draw drawn n) known is = absurd is
  of_kind (numbered.Seq sequence) (value.Draw drawn n) known is = (let same = is.0 in omega (arith, same, known, few), limited nexts sequence n limits is.2)

  value_fits : (column : Column) (v : Value) → IsKnownKind sequences column.kind → IsAllowed nexts column v → IsValue v
  value_fits column value.Null known is = tt
  value_fits column (value.Int n) known is = of_kind column.kind (value.Int n) known is
  value_fits column (value.Text text) known is = of_kind column.kind (value.Text text) known is
  value_fits column (value.Row n) known is = of_kind column.kind (value.Row n) known is
  value_fits column (value.Draw sequence n) known is = of_kind column.kind (value.Draw sequence n) known is

  values_fit : (columns : List Column) (values : List Value) → AllByRecursion (λ column. IsName column.name × IsKnownKind sequences column.kind) columns → AllZip (IsAllowed nexts) columns values → IsValues values
  values_fit [] [] known all = tt
  values_fit [] (v ∷ values) known all = absurd all
  values_fit (column ∷ columns) [] known all = absurd all
  values_fit (column ∷ columns) (v ∷ values) known all = (value_fits column v known.0.1 all.0, values_fit columns values known.1 all.1)

  row_fits : (tables : List Table) (table : ℕ) (values : List Value) → AllByRecursion (IsSoundTable sequences) tables → AllZip (IsAllowed nexts) (columns_of tables table) values → IsValues values
  row_fits [] table values sound all = values_fit [] values tt all
  row_fits (first ∷ tables) zero values sound all = values_fit first.columns values sound.0.columns all
  row_fits (first ∷ tables) (suc table) values sound all = row_fits tables table values sound.1 all

-- ---- lines

line_fits : (s : State) (l : StartLine) → IsSoundState s → MayFollow s l → IsStartLine l
line_fits s (line.Head version) sound may = omega (arith, may.1.most)
line_fits s (line.Level level) sound may = let most = may.1.1 in omega (arith, most)
line_fits s (line.Seq name next) sound may = (may.is_name, let most = may.most in omega (arith, most))
line_fits s (line.Service name rights) sound may = may.is_name
line_fits s (line.Table name) sound may = may.is_name
line_fits s (line.Column name kind not_null) sound may = (may.is_name, kind_fits s.start.schema.sequences kind sound.sound.sequences.are_names may.is_kind)
line_fits s (line.Row row table values) sound may =
    let is = sound.sound in
    let few = is.is_schema.tables in
    let there = may.fits.is_table in
    (may.fits.most, omega (arith, few, there), row_fits (length s.start.schema.sequences) s.start.next_values is.sequences.most is.sequences.limits s.start.schema.tables table values is.is_schema.tables_sound may.fits.allowed)
line_fits s (line.NextRow next) sound may = let most = may.most in omega (arith, most)
line_fits s (line.Sessions count) sound may = let few = may.1 in omega (arith, few)
line_fits s line.End sound may = tt

pub all_fit : (s : State) (lines : List StartLine) → IsSoundState s → AreLinesFrom s lines → AreLines start_form s lines
all_fit s [] sound are = tt
all_fit s (l ∷ lines) sound are = (line_fits s l sound are.0, are.0, all_fit (added s l) lines (sound_added s l sound are.0) are.1)
