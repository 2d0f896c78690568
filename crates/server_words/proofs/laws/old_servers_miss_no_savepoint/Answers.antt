use Rattle.server_words.proofs.Versions.{old_servers}
use Rattle.server_words.proofs.laws.old_servers_miss_no_savepoint.Goals as goal

pub returns : goal.returns
returns c = old_servers
