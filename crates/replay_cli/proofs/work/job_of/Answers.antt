use Rattle.desk_schema.proofs.Files.{sound_start}
use Rattle.replay_job.proofs.Jobs.{sound_on}
use Rattle.replay_cli.proofs.Targets.{target_of}
use Rattle.replay_cli.proofs.work.job_of.Goals as goal

pub returns-clause-sound : goal.returns-clause-sound
returns-clause-sound c =
    let ways = c.args.ways.now in
    let legal = c.args.legal in
    sound_on legal.start c.args.target legal.calls.items legal.facts c.args.remap ways.mode ways.think ways.connect (sound_start legal.start c.know_rules.ensures) (sound_start c.args.target c.know_rules-2.ensures) (target_of ways.change legal.start c.args.target c.requires.target) c.requires.legal c.requires.known c.requires.moments c.requires.ways.think c.requires.ways.connect
