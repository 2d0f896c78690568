use Rattle.std.proofs.Common.{◌≡◌}
use Rattle.object_depends.specs.Required.{is_required, stamps_where}
use Rattle.object_depends.proofs.needs.Needs.required.Given as goal

abbrev pub invariant-loop-j : goal.invariant-loop-j
invariant-loop-j l = l.stamps ≡ stamps_where (is_required l.self-inside.mode l.facts l.k) l.j
