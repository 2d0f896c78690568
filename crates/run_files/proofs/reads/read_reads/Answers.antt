use Rattle.std.proofs.Common.{sym, subst}
use Rattle.run_files.specs.ReadsFile.{AreReads}
use Rattle.run_files.proofs.ReadsFiles.{error_read, file_read}
use Rattle.run_files.proofs.reads.read_reads.Goals as goal

pub returns-in-Ok : goal.returns-in-Ok
returns-in-Ok c = subst (AreReads c.args.bytes.now) (sym c.into_stamps.ensures) (file_read c.args.bytes.now c.in-Ok.read (rw c.new-draft.ensures at c.in-Ok.ensures))

pub returns-in-Err : goal.returns-in-Err
returns-in-Err c = error_read c.args.bytes.now c.in-Err.error (rw c.new-draft.ensures at c.in-Err.ensures)
