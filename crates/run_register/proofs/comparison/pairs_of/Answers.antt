use Rattle.std.proofs.Common.{arith, get_or, rules}
use Rattle.std.specs.BTreeSet.{contains}
use Rattle.run_register.specs.Inside.{pair_cmp}
use Rattle.run_register.proofs.Comparing.{accepted_more}
use Rattle.run_register.proofs.comparison.pairs_of.Goals as goal

pub loop-accept-preserved : goal.loop-accept-preserved
loop-accept-preserved c = λ stamp class. accepted_more c.args.accepted.now c.loop-accept.accept-index (get_or c.args.accepted.now c.loop-accept.accept-index (record { stamp = 0; class = 0 })) (omega arith) (search rules) stamp class (contains pair_cmp c.loop-accept.pairs (stamp, class)) (contains pair_cmp c.insert.new.self (stamp, class)) (c.in_ok-insert.ensures.updates.0 (stamp, class)) (c.loop-accept.invariant stamp class)
