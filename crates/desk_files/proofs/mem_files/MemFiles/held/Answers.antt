use Rattle.desk_files.proofs.StoredLemmas.{get-files_of}
use Rattle.desk_files.proofs.mem_files.MemFiles.held.Goals as goal

pub returns : goal.returns
returns c = rw (← c.self.view_is) (rw get-files_of (rw (← c.as_str.ensures.value) c.get.ensures.value))
