use Rattle.desk_values.specs.declared.value.Value.{Value}
use Rattle.sql_eval.specs.declared.logic.Truth.{Truth}
use Rattle.law_server.proofs.Renaming.Order.{count_ignores, faults_ignore, items_ignore, keys_ignore, row_faults_ignore, where_ignores}
use Rattle.law_server.proofs.renaming_laws.answers_ignore_order.Goals as goal

pub returns : goal.returns
returns c = record { condition = where_ignores; values = faults_ignore Value; truths = faults_ignore Truth; row_faults = row_faults_ignore; count = count_ignores; items = items_ignore; keys = keys_ignore }
