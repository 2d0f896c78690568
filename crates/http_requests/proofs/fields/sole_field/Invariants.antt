use Rattle.std.proofs.Common.{◌≡◌, ◌++◌, map, drop, option_map}
use Rattle.httparse.specs.Spans.{header_bytes}
use Rattle.http_requests.specs.Decisions.{values_of}
use Rattle.http_requests.specs.Inside.Reading.{value_in}
use Rattle.http_requests.proofs.fields.sole_field.Given as goal

abbrev pub invariant-loop-field : goal.invariant-loop-field
invariant-loop-field l = value_in (option_map (λ v. v.now) l.sole) ++ values_of l.name (map (header_bytes l.bytes) (drop l.field-index l.fields)) ≡ values_of l.name (map (header_bytes l.bytes) l.fields)
