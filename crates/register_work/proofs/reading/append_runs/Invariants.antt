use Rattle.std.proofs.Common.{map, take}
use Rattle.run_register.specs.Register.{entry_of}
use Rattle.register_work.specs.Inside.{GotRuns}
use Rattle.register_work.proofs.reading.append_runs.Given as goal

abbrev pub invariant-loop-run : goal.invariant-loop-run
invariant-loop-run l = GotRuns (map entry_of (take l.run-index l.runs)) l.fn.to l.to
