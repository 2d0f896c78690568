use Rattle.law_commands.proofs.Register.OneEnd.{good_alone}
use Rattle.law_commands.proofs.register_laws.good_reports_are_taken.Goals as goal

pub returns : goal.returns
returns c = good_alone
