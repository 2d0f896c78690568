use Rattle.capture_format.proofs.StartFiles.{file_read, error_read}
use Rattle.capture_format.proofs.start.read_start.Goals as goal

pub returns-in-Ok : goal.returns-in-Ok
returns-in-Ok c = file_read c.args.bytes.now c.in-Ok.read c.finish.result c.finish.ensures.start c.finish.ensures.sessions c.in-Ok.ensures

pub returns-in-Err : goal.returns-in-Err
returns-in-Err c = error_read c.args.bytes.now c.in-Err.error c.in-Err.ensures
