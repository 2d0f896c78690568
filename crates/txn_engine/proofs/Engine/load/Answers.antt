use Rattle.std.proofs.Common.{[], ap}
use Rattle.server_words.specs.Machine.{Running}
use Rattle.txn_engine.proofs.Engine.load.Goals as goal

pub invariant_of-result : goal.invariant_of-result
invariant_of-result c = (c.args.start.now, [], c.know_rules.ensures, ap (λ (r : Running). r.state) c.in_ok-machine.ensures)
