use Rattle.std.proofs.Common.{map}
use Rattle.std.specs.FinMap.{get, get-from_sorted}
use Rattle.run_register.specs.Memory.{MemoryKeeper, divergence_of, runs_of}
use Rattle.run_register.specs.Register.{DivergenceSet, divergence_cmp}
use Rattle.run_register.proofs.Keeping.{divergences_total, none_of, rise_after, seen_after}
use Rattle.run_register.proofs.mem_keeper.MemKeeper.put_accepted.Goals as goal

pub put_divergence-requires : goal.put_divergence-requires
put_divergence-requires c = rw (← c.self.view_is, get-from_sorted divergence_cmp (map divergence_of c.self.inside.accepted.items) (divergence_of c.args.accepted).0 c.self.invariant.1) at (none_of (get c.args.self.now.divergences (divergence_of c.args.accepted).0) c.requires)

pub invariant_of-self : goal.invariant_of-self
invariant_of-self c = (c.self.invariant.0, rise_after divergences_total divergence_of c.put_divergence.result c.self.inside.accepted.items c.put_divergence.new.all.items c.args.accepted c.self.invariant.1 c.put_divergence.ensures.ok c.put_divergence.ensures.err)

pub returns-clause-ok : goal.returns-clause-ok
returns-clause-ok c = rw (← c.self.view_is) (seen_after divergences_total divergence_of c.put_divergence.result MemoryKeeper (λ (divergences : DivergenceSet). record { runs = runs_of c.self.inside.runs.items; divergences = divergences; calls = c.self.inside.calls; closes = c.self.inside.closes })
    c.self.inside.accepted.items c.put_divergence.new.all.items c.args.accepted c.self.invariant.1 c.put_divergence.ensures.ok)
