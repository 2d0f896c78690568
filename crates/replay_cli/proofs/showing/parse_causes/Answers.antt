use Rattle.std.proofs.Common.{◌∙◌, Err, ap, refl}
use Rattle.replay_page.proofs.Files.{quiet_causes}
use Rattle.replay_cli.proofs.showing.parse_causes.Goals as goal

pub returns-in-Ok-clause-quiet : goal.returns-in-Ok-clause-quiet
returns-in-Ok-clause-quiet c = quiet_causes c.args.lines.now c.args.bytes.now c.in-Ok.causes (rw c.as_slice.ensures at c.in-Ok.ensures.ok)

pub returns-in-Err-Bad-clause-says : goal.returns-in-Err-Bad-clause-says
returns-in-Err-Bad-clause-says c = (rw c.as_slice.ensures at c.read_causes.ensures.bad (c.in-Err-Bad.is ∙ ap Err c.in-Err-Bad.field-0-is), refl)
