use Rattle.law_commands.proofs.Register.Answering.{accepted_same, accepted_taken}
use Rattle.law_commands.proofs.register_laws.accepted_once_more.Goals as goal

pub returns-clause-same : goal.returns-clause-same
returns-clause-same c = accepted_same

pub returns-clause-taken : goal.returns-clause-taken
returns-clause-taken c = accepted_taken
