use Rattle.std.proofs.Common.{◌≡◌, ◌∙◌, ℕ, List, Bor, Some, [], refl, ap, inl, inr, true, false}
use Rattle.csv.specs.Reading.{default_config, strip_bom, with_flexible, with_names_headers}
use Rattle.csv.specs.Records.{fields_of}
use Rattle.csv.proofs.ReadFacts.{rows-end}
use Rattle.desk_schema.proofs.Records.{ends, row_taken, row_told, starts}
use Rattle.desk_schema.proofs.change.changed_start.Goals as goal

pub loop-read-init : goal.loop-read-init
loop-read-init c =
    let fr = c.from_reader-reader.ensures in
    let builder : c.flexible.result.now ≡ with_flexible (with_names_headers c.new.result false) true = c.flexible.ensures ∙ ap (λ b. with_flexible b true) c.has_headers.ensures in
    let start = c.into_iter-read-iterator.ensures.into_iter_gives ∙ refl in
    let rdr = c.into_byte_records-read-items.ensures.rdr in
    let left = c.into_byte_records-read-items.ensures.left in
    rw (start, rdr) (record {
      trim = rw builder at fr.trim ∙ c.new.ensures.trim;
      ready = inr (inr (rw builder at fr.has_headers, fr.headers));
      left = left;
      config = rw builder at fr.config ∙ c.new.ensures.config;
      bytes = strip_bom c.args.bytes.now;
      source = fr.source;
      way = rw (fr.state, c.in_ok-now.ensures) (starts c.args.start.now c.args.bytes.now);
    })

pub loop-read-preserved : goal.loop-read-preserved
loop-read-preserved c =
    let inv = c.loop-read.invariant in
    let s = rw (c.in-Some.is, c.in-Ok.is) at ((c.next.ensures.steps inv.left inv.trim).0 inv.ready) in
    let m = row_taken c.args.start.now c.args.bytes.now (λ (s : Bor (List ℕ)). Some s.now) c.loop-read.read-iterator.rdr c.next.new.self.rdr (fields_of c.in-Ok.row) c.loop-read.n c.loop-read.now inv.bytes inv.config inv.source s.0 inv.way c.in_ok-now-2.now c.in_ok-now-2.ensures in
    record {
      trim = s.0.3 ∙ inv.trim;
      ready = inl s.1;
      left = s.2;
      config = s.0.2 ∙ inv.config;
      bytes = m.0;
      source = m.1;
      way = m.2;
    }

pub returns-in_err-now-2 : goal.returns-in_err-now-2
returns-in_err-now-2 c =
    let inv = c.loop-read.invariant in
    let s = rw (c.in-Some.is, c.in-Ok.is) at ((c.next.ensures.steps inv.left inv.trim).0 inv.ready) in
    row_told c.args.start.now c.args.bytes.now (λ (s : Bor (List ℕ)). Some s.now) c.loop-read.read-iterator.rdr c.next.new.self.rdr (fields_of c.in-Ok.row) c.loop-read.n c.loop-read.now inv.bytes inv.config inv.source s.0 inv.way
    c.from_residual-in_err-now-2.result c.in_err-now-2.field-0.0 c.from_residual-in_err-now-2.ensures c.in_err-now-2.ensures

pub returns : goal.returns
returns c =
    let inv = c.loop-read.invariant in
    let old = c.loop-read.read-iterator.rdr in
    let s = rw c.in-None.is at ((c.next.ensures.steps inv.left inv.trim).0 inv.ready) in
    ends c.args.start.now c.args.bytes.now c.loop-read.n c.loop-read.now old.state inv.bytes inv.way (rows-end (λ (s : Bor (List ℕ)). Some s.now) old c.next.new.self.rdr [] default_config inv.bytes inv.config inv.source s)
