use Rattle.replay_cli.proofs.Sound.{sent_sound, verdict_sound}
use Rattle.replay_cli.proofs.laws.jobs_can_be_replayed.Goals as goal

pub returns-clause-replayed : goal.returns-clause-replayed
returns-clause-replayed c = verdict_sound

pub returns-clause-sent : goal.returns-clause-sent
returns-clause-sent c = sent_sound
