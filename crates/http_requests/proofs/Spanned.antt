-- What the spans of a parse say of the head that was read.
use Rattle.std.proofs.Common.{◌≡◌, ℕ, ◌≤◌, List, length, take, map, refl, ap, arith, Some}
use Rattle.std.proofs.lemmas.List.{drop_all, length-map, length-take}
use Rattle.httparse.specs.declared.spans.HeaderSpan.{HeaderSpan}
use Rattle.httparse.specs.declared.spans.RequestSpans.{RequestSpans}
use Rattle.httparse.specs.Grammar.{RequestHead}
use Rattle.httparse.specs.Spans.{IsRequestAt, IsRequestOf, header_bytes, name_and_value}
use Rattle.http_requests.specs.Heads.{Reads, parts_of}
use Rattle.http_requests.specs.Inside.Reading.{head_at}

pub parts-at : (text : List ℕ) (spans : List HeaderSpan) (found : RequestSpans) (h : RequestHead) → IsRequestAt text spans found h → head_at text found (take found.headers spans) ≡ parts_of h
parts-at text spans found h at = rw (at.method, at.path, at.version, at.fields) refl

few : (text : List ℕ) (spans : List HeaderSpan) (found : RequestSpans) (h : RequestHead) → length spans ≡ 64 → IsRequestAt text spans found h → length h.fields ≤ 64
few text spans found h room at =
    let same : length (map (header_bytes text) (take found.headers spans)) ≡ length (map name_and_value h.fields) = ap length at.fields in
    omega (arith, length-map (take found.headers spans) (header_bytes text), length-map h.fields name_and_value, length-take found.headers spans, same)

pub reads-at : (text : List ℕ) (spans : List HeaderSpan) (found : RequestSpans) → length spans ≡ 64 → found.len ≡ length text → IsRequestOf text spans found → Reads text (Some (head_at text found (take found.headers spans)))
reads-at text spans found room whole of = (
  of.0,
  record {
    reads = rw (drop_all found.len text (omega (arith, whole))) at of.1.reads;
    few = few text spans found of.0 room of.1;
  },
  parts-at text spans found of.0 of.1,
)
