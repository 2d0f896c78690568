use Rattle.law_commands.proofs.Register.Answering.{stay_good}
use Rattle.law_commands.proofs.register_laws.registrations_stay_good.Goals as goal

pub returns : goal.returns
returns c = stay_good
