use Rattle.std.proofs.Common.{ℕ, List, [], map, IfOk}
use Rattle.desk_schema.specs.declared.schema.Column.{Column}
use Rattle.sql_tree.specs.Plain.{change_of, condition_of}
use Rattle.server_words.specs.Found.{Environment}
use Rattle.server_words.specs.View.{View}
use Rattle.server_words.specs.Answer.{ruled, update_causes, update_effect}
use Rattle.server_words.specs.Decision.{Decides}
use Rattle.machine_stores.proofs.Telling.{along_four}
use Rattle.machine_model.proofs.machine.PlainMachine.update.Goals as goal

pub returns : goal.returns
returns c = along_four (λ (view : View) (table : ℕ) (env : Environment) (columns : List Column). IfOk c.update.result (λ decision. Decides view (ruled table view [] (update_causes env columns view (map change_of c.args.settings.now) (condition_of c.args.condition.now)) (update_effect env view (map change_of c.args.settings.now) (condition_of c.args.condition.now))) decision)) c.basis.ensures.view c.basis.ensures.table c.evaluation.ensures c.columns-columns.ensures c.update.ensures
