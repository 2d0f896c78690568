use Rattle.replay_cli.proofs.Sessions.{bad_session, file_spelled}
use Rattle.replay_cli.proofs.reading.parse_session.Goals as goal

pub returns-in_ok-copy-in-Err-Bad-clause-says : goal.returns-in_ok-copy-in-Err-Bad-clause-says
returns-in_ok-copy-in-Err-Bad-clause-says c =
    bad_session c.args.version c.args.session c.args.name.now c.in_ok-copy-in-Err-Bad.field-0 c.args.bytes.now c.in-Err-Bad.line (rw (c.in-Err-Bad.field-0-is, c.as_slice.ensures) at c.in-Err-Bad.ensures) c.in_ok-copy-in-Err-Bad.ensures

pub returns-in-Ok-clause-spelled : goal.returns-in-Ok-clause-spelled
returns-in-Ok-clause-spelled c = file_spelled c.args.session c.args.version c.as_slice.result.now c.in-Ok.calls.items c.in-Ok.ensures
