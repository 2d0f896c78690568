use Rattle.sql_reader.proofs.Complete.{read_complete, read_sound}
use Rattle.sql_reader.proofs.laws.statement_as_spelled.Goals as goal

pub returns : goal.returns
returns c = λ text statement. (read_sound text statement, read_complete text statement)
