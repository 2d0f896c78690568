use Rattle.std.proofs.Common.{arith, rules}
use Rattle.std.specs.BTreeMap.{get}
use Rattle.std.specs.Ordering.{nat_cmp}
use Rattle.run_register.proofs.Comparing.{line_more}
use Rattle.run_register.proofs.comparison.by_stamp.Goals as goal

pub loop-step-preserved : goal.loop-step-preserved
loop-step-preserved c = λ stamp. line_more c.args.lines.now c.loop-step.step _ stamp (get nat_cmp c.loop-step.map stamp) (get nat_cmp c.insert.new.self stamp) (omega arith) (search rules) (c.in_ok-insert.ensures.updates.0 stamp) (c.loop-step.invariant stamp)
