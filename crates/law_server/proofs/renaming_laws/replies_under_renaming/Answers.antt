use Rattle.law_server.proofs.Renaming.Answering.{replies_renamed}
use Rattle.law_server.proofs.renaming_laws.replies_under_renaming.Goals as goal

pub returns : goal.returns
returns c = replies_renamed
