use Rattle.std.proofs.Common.{◌≡◌, take, map}
use Rattle.sql_tree.proofs.copy.ListCopiedTree.copy.Given as goal

abbrev pub invariant-loop-tree : goal.invariant-loop-tree
invariant-loop-tree g l = map g.T.CopiedTree.view l.copies ≡ map g.T.CopiedTree.view (take l.tree-index l.tree-items)
