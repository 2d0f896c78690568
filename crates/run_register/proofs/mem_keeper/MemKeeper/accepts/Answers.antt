use Rattle.run_register.proofs.Keeping.{told_is}
use Rattle.run_register.proofs.mem_keeper.MemKeeper.accepts.Goals as goal

pub returns : goal.returns
returns c = rw (← c.self.view_is, ← (told_is c.args.name.now c.self.inside.accepted.items c.self.invariant.1), ← c.as_slice.ensures.value) c.accepts_of.ensures
