use Rattle.replay_cli.proofs.Refusals.{spelled_start}
use Rattle.replay_cli.proofs.reading.read_start_file.Goals as goal

pub returns-clause-spelled : goal.returns-clause-spelled
returns-clause-spelled g c = spelled_start c.args.name.now c.in_ok-bytes.bytes c.parse_start.result c.parse_start.ensures.says
