use Rattle.law_commands.proofs.Legality.Taken.{order_is, plan_given}
use Rattle.law_commands.proofs.legality_laws.legal_captures_are_taken.Goals as goal

pub returns-clause-taken : goal.returns-clause-taken
returns-clause-taken c = λ start lists can. plan_given start lists can.0 can.1 can.2

pub returns-clause-order : goal.returns-clause-order
returns-clause-order c = λ start lists ordered same legal. order_is start lists ordered same legal
