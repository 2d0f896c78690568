use Rattle.std.proofs.Common.{◌≡◌, ℕ, List, length, subst, sym, arith}
use Rattle.twin_tables.specs.declared.differences.Differences.{Differences}
use Rattle.replay_walk.specs.Inside.Passing.{AreBegun, HasMoreAlike}
use Rattle.replay_walk.specs.Inside.Serving.{list_in}
use Rattle.replay_walk.proofs.Alike.{begun_next, begun_none}
use Rattle.replay_walk.proofs.servers.all_alike.Goals as goal

pub loop-table-init : goal.loop-table-init
loop-table-init c = subst (AreBegun c.args.behind.now.server.ledgers.items c.args.replay.now.ledgers.items 0) (sym c.new-differences.ensures.items) (begun_none c.args.behind.now.server.ledgers.items c.args.replay.now.ledgers.items)

pub written-requires : goal.written-requires
written-requires c = omega (arith, c.requires.captured)

pub loop-table-preserved : goal.loop-table-preserved
loop-table-preserved c =
    let captured = c.args.behind.now.server.ledgers.items in
    let replayed = c.args.replay.now.ledgers.items in
    let more = subst (λ (n : ℕ). HasMoreAlike c.written.result n 64 c.loop-table.differences.items c.add_alike.new.differences.items) c.written-in-loop-table.ensures c.in_ok-add_alike.ensures in
    begun_next captured replayed c.loop-table.table c.loop-table.differences.items c.add_alike.new.differences.items c.loop-table.invariant
    (subst (λ (n : ℕ). HasMoreAlike n (length (list_in replayed c.loop-table.table)) 64 c.loop-table.differences.items c.add_alike.new.differences.items) c.written.ensures more)

pub returns : goal.returns
returns c =
    let last : c.loop-table.table ≡ c.args.tables = omega arith in
    subst (λ (n : ℕ). AreBegun c.args.behind.now.server.ledgers.items c.args.replay.now.ledgers.items n c.loop-table.differences.items) last c.loop-table.invariant
