use Rattle.run_register.specs.Memory.{divergence_of}
use Rattle.run_register.proofs.Keeping.{among_is}
use Rattle.run_register.proofs.mem_keeper.MemKeeper.has.Goals as goal

pub returns : goal.returns
returns c = rw (← c.self.view_is, ← (among_is (divergence_of c.args.accepted.now).0 c.self.inside.accepted.items c.self.invariant.1), ← c.as_slice.ensures.value) c.is_among.ensures
