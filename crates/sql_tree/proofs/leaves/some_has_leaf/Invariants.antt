use Rattle.std.proofs.Common.{◌≡◌, drop}
use Rattle.std.specs.List.{flat_map, list_any}
use Rattle.sql_tree.proofs.leaves.some_has_leaf.Given as goal

abbrev pub invariant-loop-part : goal.invariant-loop-part
invariant-loop-part g l = list_any (λ part. list_any (g.T.LeafTest.test l.test) (g.P.HasLeaves.leaves part)) (drop l.part-index l.parts) ≡ list_any (g.T.LeafTest.test l.fn.test) (flat_map g.P.HasLeaves.leaves l.fn.parts)
