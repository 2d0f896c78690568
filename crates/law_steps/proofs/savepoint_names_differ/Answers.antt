use Rattle.law_steps.proofs.Behind as behind
use Rattle.law_steps.proofs.savepoint_names_differ.Goals as goal

pub returns-clause-names : goal.returns-clause-names
returns-clause-names c = behind.savepoint_names_differ

pub returns-clause-old : goal.returns-clause-old
returns-clause-old c = behind.old_servers_have_no_savepoint
