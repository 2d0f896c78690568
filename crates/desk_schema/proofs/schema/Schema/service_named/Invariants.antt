use Rattle.desk_schema.proofs.Granted.{Passed}
use Rattle.desk_schema.proofs.schema.Schema.service_named.Given as goal

abbrev pub invariant-loop-service : goal.invariant-loop-service
invariant-loop-service l = Passed l.self.services l.name l.service-index
