use Rattle.run_files.proofs.ReadsFiles.{one_bad}
use Rattle.run_files.proofs.laws.one_bad_line_of_reads.Goals as goal

pub returns : goal.returns
returns c = one_bad
