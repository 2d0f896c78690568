use Rattle.sql_reader.proofs.Complete.{spells_one}
use Rattle.sql_reader.proofs.laws.one_statement.Goals as goal

pub returns : goal.returns
returns c = λ text a b p q. spells_one text a b p q
