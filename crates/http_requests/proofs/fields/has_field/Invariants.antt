use Rattle.std.proofs.Common.{◌≡◌, map, drop}
use Rattle.std.specs.List.{list_any}
use Rattle.httparse.specs.Spans.{header_bytes}
use Rattle.http_requests.specs.Decisions.{has_name}
use Rattle.http_requests.proofs.fields.has_field.Given as goal

abbrev pub invariant-loop-field : goal.invariant-loop-field
invariant-loop-field l = list_any (has_name l.name) (map (header_bytes l.bytes) (drop l.field-index l.fields)) ≡ list_any (has_name l.name) (map (header_bytes l.bytes) l.fields)
