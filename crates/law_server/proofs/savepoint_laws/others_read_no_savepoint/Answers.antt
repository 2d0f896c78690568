use Rattle.law_server.proofs.Marks.{others_read_none}
use Rattle.law_server.proofs.savepoint_laws.others_read_no_savepoint.Goals as goal

pub returns : goal.returns
returns c = others_read_none
