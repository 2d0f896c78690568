use Rattle.std.proofs.Common.{◌≡◌, replicate}
use Rattle.run_files.specs.declared.times.Times.TheVariants.{Never}
use Rattle.run_files.proofs.times.all_never.Given as goal

abbrev pub invariant-loop-call : goal.invariant-loop-call
invariant-loop-call l = l.times.items ≡ replicate l._call Never
