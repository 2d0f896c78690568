use Rattle.std.proofs.Common.{drop, map}
use Rattle.desk_schema.specs.Start.{service_line}
use Rattle.desk_schema.proofs.LinesSaid.{IsOnTheWay}
use Rattle.desk_schema.proofs.declaring.declare_services.Given as goal

abbrev pub invariant-loop-service : goal.invariant-loop-service
invariant-loop-service l = IsOnTheWay l.initial.draft (map service_line l.services) l.draft (map service_line (drop l.service-index l.services))
