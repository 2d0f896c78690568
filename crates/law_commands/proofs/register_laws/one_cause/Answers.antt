use Rattle.std.proofs.Common.{Some}
use Rattle.law_commands.proofs.Register.OneEnd.{cause_alone}
use Rattle.law_commands.proofs.register_laws.one_cause.Goals as goal

pub returns : goal.returns
returns c errand runs cause other h k = cause_alone errand (Some runs) cause other tt h k
