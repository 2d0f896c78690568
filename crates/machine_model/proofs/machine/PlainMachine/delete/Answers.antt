use Rattle.std.proofs.Common.{ℕ, [], IfOk}
use Rattle.sql_tree.specs.Plain.{condition_of}
use Rattle.server_words.specs.Found.{Environment}
use Rattle.server_words.specs.View.{View}
use Rattle.server_words.specs.Answer.{delete_causes, delete_effect, ruled}
use Rattle.server_words.specs.Decision.{Decides}
use Rattle.machine_stores.proofs.Telling.{along}
use Rattle.machine_model.proofs.machine.PlainMachine.delete.Goals as goal

pub returns : goal.returns
returns c = along (λ (view : View) (table : ℕ) (env : Environment). IfOk c.delete.result (λ decision. Decides view (ruled table view [] (delete_causes env view (condition_of c.args.condition.now)) (delete_effect env view (condition_of c.args.condition.now))) decision)) c.basis.ensures.view c.basis.ensures.table c.evaluation.ensures c.delete.ensures
