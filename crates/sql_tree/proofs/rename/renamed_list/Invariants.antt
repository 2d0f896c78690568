use Rattle.std.proofs.Common.{◌≡◌, take, map}
use Rattle.sql_tree.proofs.rename.renamed_list.Given as goal

abbrev pub invariant-loop-part : goal.invariant-loop-part
invariant-loop-part g l = map g.T.Renamed.view l.list ≡ map (g.T.Renamed.renaming l.by) (take l.part-index l.parts)
