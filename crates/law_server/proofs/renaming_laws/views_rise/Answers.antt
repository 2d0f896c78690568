use Rattle.law_server.proofs.Renaming.Matched as matched
use Rattle.law_server.proofs.renaming_laws.views_rise.Goals as goal

pub returns : goal.returns
returns c = matched.views_rise
