use Rattle.replay_walk.specs.Inside.Passing.{HasMoreAlike}
use Rattle.replay_walk.proofs.servers.add_alike.Given as goal

abbrev pub invariant-loop : goal.invariant-loop
invariant-loop l = HasMoreAlike l.captured l.replayed l.counter l.fn.differences.items l.differences.items
