use Rattle.run_register.specs.Register.{entry_of, name_cmp}
use Rattle.run_register.proofs.Keeping.{put_is}
use Rattle.run_register.proofs.mem_keeper.put_run.Goals as goal

pub returns-clause-ok : goal.returns-clause-ok
returns-clause-ok c = put_is name_cmp entry_of c.args.runs.now.items c.insert.new.self.items c.place_of_run-place.result c.args.kept c.in_ok-insert.ensures.items (rw c.as_slice.ensures.value at c.place_of_run-place.ensures.place) c.requires
