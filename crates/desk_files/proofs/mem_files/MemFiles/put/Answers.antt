use Rattle.desk_files.proofs.StoredLemmas.{files_of-insert}
use Rattle.desk_files.proofs.mem_files.MemFiles.put.Goals as goal

pub returns-clause-ok : goal.returns-clause-ok
returns-clause-ok c =
    let inserted = files_of-insert c.self.inside.files c.insert.new.self c.in_ok-name.name c.in_ok-bytes.bytes c.in_ok-insert.ensures.updates in
    rw (← c.self.view_is, inserted, c.in_ok-name.ensures.ok, c.as_str.ensures.value, c.in_ok-bytes.ensures)
