use Rattle.divergence_cause.proofs.Timing.{all_timing}
use Rattle.divergence_cause.proofs.laws.unchanged_servers_upgrade_nothing.Goals as goal

pub returns : goal.returns
returns c = all_timing
