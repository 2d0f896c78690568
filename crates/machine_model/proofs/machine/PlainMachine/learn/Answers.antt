use Rattle.std.proofs.Common.{subst, sym}
use Rattle.desk_schema.specs.Schema.{SchemaView}
use Rattle.statement_cache.specs.Kept.{AreRight}
use Rattle.machine_model.proofs.machine.PlainMachine.learn.Goals as goal

pub invariant_of-self : goal.invariant_of-self
invariant_of-self c =
    let right : AreRight c.schema.result.now c.learn.new.self = c.learn.ensures (subst (λ (schema : SchemaView). AreRight schema c.self.inside.statements) (sym c.schema.ensures.value) c.self.invariant.4) in
    (c.self.invariant.0, c.self.invariant.1, c.self.invariant.2, c.self.invariant.3, subst (λ (schema : SchemaView). AreRight schema c.learn.new.self) c.schema.ensures.value right, c.self.invariant.5, c.self.invariant.6)
