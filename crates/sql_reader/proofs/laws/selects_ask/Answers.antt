use Rattle.sql_reader.proofs.Asking.{read_asks}
use Rattle.sql_reader.proofs.laws.selects_ask.Goals as goal

pub returns : goal.returns
returns c = read_asks
