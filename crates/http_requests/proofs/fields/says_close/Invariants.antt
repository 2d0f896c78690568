use Rattle.std.proofs.Common.{◌≡◌, map, drop}
use Rattle.std.specs.List.{list_any}
use Rattle.httparse.specs.Spans.{header_bytes}
use Rattle.http_requests.specs.Decisions.{says_close}
use Rattle.http_requests.proofs.fields.says_close.Given as goal

abbrev pub invariant-loop-field : goal.invariant-loop-field
invariant-loop-field l = list_any says_close (map (header_bytes l.bytes) (drop l.field-index l.fields)) ≡ list_any says_close (map (header_bytes l.bytes) l.fields)
