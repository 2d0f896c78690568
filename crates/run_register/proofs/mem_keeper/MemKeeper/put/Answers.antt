use Rattle.std.proofs.Common.{map}
use Rattle.std.specs.FinMap.{get-from_sorted}
use Rattle.std.specs.Cmp.Lexicographic.{nat_list_cmp_total}
use Rattle.run_register.specs.Memory.{MemoryKeeper, divergences_of}
use Rattle.run_register.specs.Register.{RunMap, entry_of, name_cmp}
use Rattle.run_register.proofs.Keeping.{rise_after, seen_after}
use Rattle.run_register.proofs.mem_keeper.MemKeeper.put.Goals as goal

pub put_run-requires : goal.put_run-requires
put_run-requires c = rw c.in_ok-name.ensures (rw (← c.self.view_is, get-from_sorted name_cmp (map entry_of c.self.inside.runs.items) c.args.name.now c.self.invariant.0) at c.requires)

pub invariant_of-self : goal.invariant_of-self
invariant_of-self c = (rise_after nat_list_cmp_total entry_of c.put_run.result c.self.inside.runs.items c.put_run.new.runs.items (record { name = c.in_ok-name.name; report = c.in_ok-report.report }) c.self.invariant.0 c.put_run.ensures.ok c.put_run.ensures.err, c.self.invariant.1)

pub returns-clause-ok : goal.returns-clause-ok
returns-clause-ok c = rw (← c.self.view_is, ← c.in_ok-name.ensures, ← c.in_ok-report.ensures) (seen_after nat_list_cmp_total entry_of c.put_run.result MemoryKeeper (λ (runs : RunMap). record { runs = runs; divergences = divergences_of c.self.inside.accepted.items; calls = c.self.inside.calls; closes = c.self.inside.closes })
    c.self.inside.runs.items c.put_run.new.runs.items (record { name = c.in_ok-name.name; report = c.in_ok-report.report }) c.self.invariant.0 c.put_run.ensures.ok)
