use Rattle.row_versions.proofs.Chains.{Walks, end_of}
use Rattle.row_versions.proofs.versions.version_at.Given as goal

abbrev pub invariant-loop-next : goal.invariant-loop-next
invariant-loop-next l = Walks l.row l.n l.list l.next

abbrev pub decreases-loop-next : goal.decreases-loop-next
decreases-loop-next l = end_of l.next
