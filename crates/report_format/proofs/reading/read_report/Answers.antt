use Rattle.std.proofs.Common.{subst, sym}
use Rattle.report_format.specs.ReportFile.{IsReport}
use Rattle.report_format.proofs.Files.{error_read, file_read}
use Rattle.report_format.proofs.reading.read_report.Goals as goal

pub returns-in-Ok : goal.returns-in-Ok
returns-in-Ok c = subst (IsReport c.args.bytes.now) (sym c.into_report.ensures) (file_read c.args.bytes.now c.in-Ok.read (rw c.new-draft.ensures at c.in-Ok.ensures))

pub returns-in-Err : goal.returns-in-Err
returns-in-Err c = error_read c.args.bytes.now c.in-Err.error (rw c.new-draft.ensures at c.in-Err.ensures)
