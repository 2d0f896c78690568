use Rattle.std.proofs.Common.{◌≡◌, ◌++◌, drop, map}
use Rattle.desk_schema.specs.Line.{lines_text}
use Rattle.desk_schema.specs.Start.{service_line}
use Rattle.capture_format.proofs.start_writer.push_services.Given as goal

abbrev pub invariant-loop-service : goal.invariant-loop-service
invariant-loop-service l = l.to ++ lines_text (map service_line (drop l.service-index l.services)) ≡ l.initial.to ++ lines_text (map service_line l.services)
