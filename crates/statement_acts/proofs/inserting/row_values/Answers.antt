use Rattle.std.proofs.Common.{◌≡◌, ℕ, zero, suc, ◌+◌, ◌<◌, ◌++◌, List, [], ◌∷◌, length, drop, Option, refl, arith, add-one, append_assoc}
use Rattle.desk_values.specs.declared.value.Value.{Value}
use Rattle.desk_schema.specs.declared.schema.Column.{Column}
use Rattle.server_words.specs.Writes.{column_value, row_values}
use Rattle.statement_acts.proofs.inserting.row_values.Goals as goal

module _ (named : Option (List ℕ)) (inputs : List Value) where
  front : (columns : List Column) (i number : ℕ) → i < length columns → row_values named inputs number (drop i columns) ≡ column_value named inputs number ∷ row_values named inputs (number + 1) (drop (suc i) columns)
  front [] i number within = absurd (omega arith)
  front (column ∷ columns) zero number within = refl
  front (column ∷ columns) (suc i) number within = front columns i number (omega arith)

  one_more : (columns : List Column) (i : ℕ) → i < length columns → (made new all : List Value) (value : Value) → made ++ row_values named inputs i (drop i columns) ≡ all → new ≡ made ++ value ∷ [] → value ≡ column_value named inputs i → new ++ row_values named inputs (i + 1) (drop (i + 1) columns) ≡ all
  one_more columns i within made new all value before pushed is =
      let next : drop (i + 1) columns ≡ drop (suc i) columns = rw add-one refl in
      rw (pushed, append_assoc, is, next) (rw (front columns i i within) at before)

pub loop-number-preserved : goal.loop-number-preserved
loop-number-preserved c = one_more c.args.named.now c.args.inputs.now c.args.columns.now c.loop-number.number (omega arith) c.loop-number.values c.push.new.self _ c.in_ok-column_value.field-0 c.loop-number.invariant c.in_ok-push.ensures.ok c.in_ok-column_value.ensures
