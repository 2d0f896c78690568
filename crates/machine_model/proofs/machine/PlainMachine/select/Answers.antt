use Rattle.std.proofs.Common.{ℕ, [], IfOk}
use Rattle.sql_tree.specs.Plain.{asked_of, condition_of}
use Rattle.server_words.specs.Found.{Environment}
use Rattle.server_words.specs.View.{View}
use Rattle.server_words.specs.Answer.{ruled, select_causes, select_effect}
use Rattle.server_words.specs.Decision.{Decides}
use Rattle.machine_stores.proofs.Telling.{along}
use Rattle.machine_model.proofs.machine.PlainMachine.select.Goals as goal

pub returns : goal.returns
returns c = along (λ (view : View) (table : ℕ) (env : Environment). IfOk c.select.result (λ decision. Decides view (ruled table view [] (select_causes env view (asked_of c.args.items.now) (condition_of c.args.condition.now) c.args.for_update) (select_effect env view (asked_of c.args.items.now) (condition_of c.args.condition.now) c.args.keys.now c.args.for_update)) decision)) c.basis.ensures.view c.basis.ensures.table c.evaluation.ensures c.select.ensures
