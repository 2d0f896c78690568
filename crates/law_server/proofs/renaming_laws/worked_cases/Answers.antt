use Rattle.law_server.proofs.Renaming.Cases.{every_id_changes, one_id_twice}
use Rattle.law_server.proofs.renaming_laws.worked_cases.Goals as goal

pub returns : goal.returns
returns c = record { changed = every_id_changes; twice = one_id_twice }
