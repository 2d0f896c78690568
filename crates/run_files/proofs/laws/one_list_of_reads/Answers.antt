use Rattle.run_files.proofs.ReadsFiles.{one_file}
use Rattle.run_files.proofs.laws.one_list_of_reads.Goals as goal

pub returns : goal.returns
returns c = one_file
