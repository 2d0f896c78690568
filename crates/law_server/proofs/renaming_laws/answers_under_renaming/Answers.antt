use Rattle.law_server.proofs.Renaming.Answering.{answers_renamed}
use Rattle.law_server.proofs.renaming_laws.answers_under_renaming.Goals as goal

pub returns : goal.returns
returns c = answers_renamed
