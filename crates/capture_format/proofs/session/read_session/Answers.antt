use Rattle.std.proofs.Common.{ap, sym, subst, arith}
use Rattle.capture_format.specs.SessionView.{SessionView}
use Rattle.capture_format.specs.SessionFile.{IsSessionFile}
use Rattle.capture_format.proofs.SessionFiles.{file_read, error_read}
use Rattle.capture_format.proofs.session.read_session.Goals as goal

pub returns-in-Ok : goal.returns-in-Ok
returns-in-Ok c = subst (IsSessionFile c.args.session c.args.version c.args.bytes.now) (ap (λ (s : SessionView). s.calls) (sym c.read.view_is)) (file_read c.args.session c.args.version c.args.bytes.now c.in-Ok.read (rw c.new-draft.ensures at c.in-Ok.ensures))

pub returns-in-Err : goal.returns-in-Err
returns-in-Err c = error_read c.args.session c.args.version c.args.bytes.now c.in-Err.error (let small = c.ranges.session in omega (arith, small)) (let small = c.ranges.version in omega (arith, small)) (rw c.new-draft.ensures at c.in-Err.ensures)
