use Rattle.std.proofs.Common.{◌≡◌, ◌++◌, drop}
use Rattle.std.specs.List.{filter}
use Rattle.replay_walk.specs.Inside.Standing.{is_seen}
use Rattle.replay_walk.proofs.standing.rows_among.Given as goal

abbrev pub invariant-loop-row : goal.invariant-loop-row
invariant-loop-row l = l.seen ++ filter (is_seen l.ledger.list l.at l.own l.table) (drop l.row-index l.rows) ≡ filter (is_seen l.ledger.list l.at l.own l.table) l.rows
