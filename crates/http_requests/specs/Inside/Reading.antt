-- What the spans of a parse say.
use Rattle.std.specs.Prelude.{ℕ, List, [], ◌∷◌, map, Option, None, Some}
use Rattle.httparse.specs.declared.spans.HeaderSpan.{HeaderSpan}
use Rattle.httparse.specs.declared.spans.RequestSpans.{RequestSpans}
use Rattle.httparse.specs.Spans.{header_bytes, span_bytes}
use Rattle.http_requests.specs.Heads.{Head}

-- the value found so far, in a list
abbrev pub value_in : {Y : Type 0} → Option Y → List Y
value_in None = []
value_in (Some value) = value ∷ []

-- the parts of a head where a parse found them
abbrev pub head_at : List ℕ → RequestSpans → List HeaderSpan → Head
head_at text found fields = record { method = span_bytes text found.method; target = span_bytes text found.path; minor = found.version; fields = map (header_bytes text) fields }
