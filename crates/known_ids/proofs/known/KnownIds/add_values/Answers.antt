use Rattle.std.proofs.Common.{◌++◌, take}
use Rattle.known_ids.proofs.Entries.{knows_more}
use Rattle.known_ids.proofs.known.KnownIds.add_values.Goals as goal

pub loop-value-preserved : goal.loop-value-preserved
loop-value-preserved c = record {
  then_on = λ count known from knows. knows_more c.add.new.self count known c.args.values.now c.loop-value.value-index c.value-item.result c.loop-value-test.true c.value-item.is
      (c.in_ok-add.ensures.then_on count (known ++ take c.loop-value.value-index c.args.values.now) from (c.loop-value.invariant.then_on count known from knows));
  before = λ count known less knows. c.in_ok-add.ensures.before count known less (c.loop-value.invariant.before count known less knows);
}
