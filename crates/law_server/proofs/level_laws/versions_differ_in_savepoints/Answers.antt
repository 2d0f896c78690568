use Rattle.law_server.proofs.Levels.{new_servers_know_all, old_servers_know_no_savepoint, old_servers_know_the_rest}
use Rattle.law_server.proofs.level_laws.versions_differ_in_savepoints.Goals as goal

pub returns-clause-new : goal.returns-clause-new
returns-clause-new c = new_servers_know_all

pub returns-clause-rest : goal.returns-clause-rest
returns-clause-rest c = old_servers_know_the_rest

pub returns-clause-savepoints : goal.returns-clause-savepoints
returns-clause-savepoints c = old_servers_know_no_savepoint
