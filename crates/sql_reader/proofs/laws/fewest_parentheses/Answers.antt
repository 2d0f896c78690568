use Rattle.sql_reader.proofs.Fewest.{statement_few}
use Rattle.sql_reader.proofs.laws.fewest_parentheses.Goals as goal

pub returns : goal.returns
returns c = λ statement tokens h. statement_few h
