use Rattle.run_register.proofs.Keeping.{stored_runs}
use Rattle.run_register.proofs.mem_keeper.MemKeeper.stored.Goals as goal

pub returns : goal.returns
returns c = rw (← c.self.view_is) (stored_runs c.from_slice.result c.self.inside.runs.items c.self.invariant.0 (rw c.as_slice.ensures.value at c.from_slice.ensures))
