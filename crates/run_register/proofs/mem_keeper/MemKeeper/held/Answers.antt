use Rattle.std.proofs.Common.{map}
use Rattle.std.specs.FinMap.{get-from_sorted}
use Rattle.run_register.specs.Register.{entry_of, name_cmp}
use Rattle.run_register.proofs.mem_keeper.MemKeeper.held.Goals as goal

pub returns : goal.returns
returns c = rw (← c.self.view_is, get-from_sorted name_cmp (map entry_of c.self.inside.runs.items) c.args.name.now c.self.invariant.0, ← c.as_slice.ensures.value) c.report_of.ensures
