use Rattle.sql_tree.specs.Plain.{plan_of}
use Rattle.sql_reader.proofs.Rewritten.{writes_it}
use Rattle.sql_reader.proofs.write.write_statement.Goals as goal

pub returns-clause-spells : goal.returns-clause-spells
returns-clause-spells c = writes_it (plan_of c.args.statement.now) c.text.result c.requires c.text.ensures
