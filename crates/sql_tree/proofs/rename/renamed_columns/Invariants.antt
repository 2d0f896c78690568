use Rattle.std.proofs.Common.{◌≡◌, take, map}
use Rattle.sql_tree.proofs.rename.renamed_columns.Given as goal

abbrev pub invariant-loop-name : goal.invariant-loop-name
invariant-loop-name g l = l.list ≡ map (g.R.Renames.naming l.by).column (take l.name-index l.name-items)
