use Rattle.law_commands.proofs.Legality.Tables.{references_told, writes_told}
use Rattle.law_commands.proofs.legality_laws.facts_tell_tables.Goals as goal

pub returns-clause-writes : goal.returns-clause-writes
returns-clause-writes c = writes_told

pub returns-clause-references : goal.returns-clause-references
returns-clause-references c = references_told
