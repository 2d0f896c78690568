use Rattle.captured_calls.proofs.Told.{legal_told, lists_told}
use Rattle.captured_calls.proofs.laws.legal_calls_are_told.Goals as goal

pub returns-clause-calls : goal.returns-clause-calls
returns-clause-calls c = legal_told

pub returns-clause-lists : goal.returns-clause-lists
returns-clause-lists c = λ start calls count legal. lists_told start.schema.version calls count (legal_told start calls legal)
