use Rattle.std.proofs.Common.{ℕ, List, map, IfOk}
use Rattle.desk_values.specs.declared.value.Value.{Value}
use Rattle.desk_schema.specs.declared.schema.Column.{Column}
use Rattle.sql_tree.specs.Plain.{entry_of}
use Rattle.server_words.specs.Found.{Environment}
use Rattle.server_words.specs.View.{View}
use Rattle.server_words.specs.Answer.{insert_causes, insert_effect, new_row, ruled}
use Rattle.server_words.specs.Decision.{Decides}
use Rattle.machine_stores.proofs.Telling.{along_six}
use Rattle.machine_model.proofs.machine.PlainMachine.insert.Goals as goal

pub returns : goal.returns
returns c = along_six (λ (view : View) (table : ℕ) (env : Environment) (columns : List Column) (row : ℕ) (draws : List Value). IfOk c.insert.result (λ decision. Decides view ((let new = new_row env columns draws row table c.args.named.now (map entry_of c.args.inputs.now) in ruled table view draws (insert_causes env columns view draws new (map entry_of c.args.inputs.now)) (insert_effect new))) decision)) c.basis.ensures.view c.basis.ensures.table c.evaluation.ensures c.columns-columns.ensures c.next_row.ensures c.requires.draws c.insert.ensures
