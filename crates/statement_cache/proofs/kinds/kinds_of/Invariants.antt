use Rattle.std.proofs.Common.{◌≡◌, ◌++◌, drop}
use Rattle.statement_cache.specs.Kinds.{kinds_of}
use Rattle.statement_cache.proofs.kinds.kinds_of.Given as goal

abbrev pub invariant-loop-bind : goal.invariant-loop-bind
invariant-loop-bind l = l.kinds.items ++ kinds_of (drop l.bind-index l.binds) ≡ kinds_of l.binds
