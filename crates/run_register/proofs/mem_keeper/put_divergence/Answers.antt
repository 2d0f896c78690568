use Rattle.run_register.specs.Memory.{divergence_of}
use Rattle.run_register.specs.Register.{divergence_cmp}
use Rattle.run_register.proofs.Keeping.{put_is}
use Rattle.run_register.proofs.mem_keeper.put_divergence.Goals as goal

pub returns-clause-ok : goal.returns-clause-ok
returns-clause-ok c = put_is divergence_cmp divergence_of c.args.all.now.items c.insert.new.self.items c.place_of_accepted-place.result c.args.accepted c.in_ok-insert.ensures.items (rw c.as_slice.ensures.value at c.place_of_accepted-place.ensures.place) c.requires
