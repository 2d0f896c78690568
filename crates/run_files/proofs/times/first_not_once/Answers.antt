use Rattle.std.proofs.Common.{sym, ap, ◌∙◌, length}
use Rattle.std.specs.Prelude.{not, slice_index_or}
use Rattle.run_files.specs.declared.times.Times.TheVariants.{Never}
use Rattle.run_files.specs.Inside.Times.{is_once}
use Rattle.run_files.proofs.Timing.{found_on}
use Rattle.run_files.proofs.times.first_not_once.Goals as goal

pub loop-k-preserved : goal.loop-k-preserved
loop-k-preserved c =
    found_on (λ k. not (is_once (slice_index_or c.args.times.now k Never))) c.loop-k.k (length c.args.times.now) _ c.loop-k-test.true (ap not (sym c.is_once.ensures ∙ c.if-not-is_once.false)) c.loop-k.invariant
