use Rattle.std.proofs.Common.{◌≡◌, replicate}
use Rattle.twin_tables.specs.Ledger.{nothing_written}
use Rattle.replay_walk.proofs.server.empty_ledgers.Given as goal

abbrev pub invariant-loop : goal.invariant-loop
invariant-loop l = l.ledgers.items ≡ replicate l.counter nothing_written
