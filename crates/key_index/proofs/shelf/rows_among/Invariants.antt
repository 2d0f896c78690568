use Rattle.std.proofs.Common.{◌≡◌, drop}
use Rattle.key_index.specs.Inside.Shelves.{rows_in}
use Rattle.key_index.proofs.shelf.rows_among.Given as goal

abbrev pub invariant-loop-group : goal.invariant-loop-group
invariant-loop-group l = rows_in l.level l.table l.key (drop l.group-index l.groups) ≡ rows_in l.level l.table l.key l.groups
