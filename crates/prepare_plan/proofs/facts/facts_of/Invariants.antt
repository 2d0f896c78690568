use Rattle.std.proofs.Common.{◌≡◌, ◌++◌, drop, map}
use Rattle.captured_calls.specs.Facts.{fact_of}
use Rattle.statement_cache.specs.Kept.{AreRight}
use Rattle.prepare_plan.proofs.facts.facts_of.Given as goal

abbrev pub invariant-loop-call : goal.invariant-loop-call
invariant-loop-call l = record {
  facts : l.facts ++ map (fact_of l.schema) (drop l.call-index l.calls) ≡ map (fact_of l.schema) l.calls;
  right : AreRight l.schema l.statements;
}
