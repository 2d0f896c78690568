use Rattle.sql_eval.proofs.PartFaults.{truth_fault, value_fault}
use Rattle.sql_eval.proofs.laws.faults_of_parts.Goals as goal

pub returns : goal.returns
returns c = record { value = value_fault; truth = truth_fault }
