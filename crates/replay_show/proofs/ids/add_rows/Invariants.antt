use Rattle.std.proofs.Common.{◌≡◌, take}
use Rattle.std.specs.List.{fold}
use Rattle.replay_show.specs.Ids.{with_values}
use Rattle.replay_show.proofs.ids.add_rows.Given as goal

abbrev pub invariant-loop-row : goal.invariant-loop-row
invariant-loop-row l = l.to ≡ fold with_values l.fn.to (take l.row-index l.rows)
