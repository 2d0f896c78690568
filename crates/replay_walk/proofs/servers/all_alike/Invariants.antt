use Rattle.replay_walk.specs.Inside.Passing.{AreBegun}
use Rattle.replay_walk.proofs.servers.all_alike.Given as goal

abbrev pub invariant-loop-table : goal.invariant-loop-table
invariant-loop-table l = AreBegun l.behind.server.ledgers.items l.replay.ledgers.items l.table l.differences.items
