use Rattle.std.proofs.Common.{◌≡◌, ◌∙◌, ℕ, List, Bor, Some, Err, [], refl, ap, inl, inr, true, false}
use Rattle.csv.specs.Reading.{default_config, strip_bom, with_flexible, with_names_headers}
use Rattle.csv.specs.Records.{fields_of}
use Rattle.csv.proofs.ReadFacts.{rows-end}
use Rattle.remap_ids.specs.declared.remap.RemapErr.{RemapErr}
use Rattle.remap_ids.specs.Services.{services_of, service_pair, with_pair}
use Rattle.remap_ids.proofs.Records.{ends, row_refused, row_taken, starts, told_of_all, told_on}
use Rattle.remap_ids.proofs.remap.Remap.read.Goals as goal

pub loop-read-init : goal.loop-read-init
loop-read-init c =
    let fr = c.from_reader-reader.ensures in
    let builder : c.flexible.result.now ≡ with_flexible (with_names_headers c.new.result false) true = c.flexible.ensures ∙ ap (λ b. with_flexible b true) c.has_headers.ensures in
    let start = c.into_iter-read-iterator.ensures.into_iter_gives ∙ refl in
    let rdr = c.into_byte_records-read-items.ensures.rdr in
    let left = c.into_byte_records-read-items.ensures.left in
    rw (start, rdr) (record {
      trim = rw builder at fr.trim ∙ c.new.ensures.trim;
      ready = inr (inr (rw builder at fr.has_headers, fr.headers));
      left = left;
      config = rw builder at fr.config ∙ c.new.ensures.config;
      bytes = strip_bom c.args.bytes.now;
      source = fr.source;
      way = rw (fr.state, c.none-remap.ensures) (starts c.args.bytes.now);
    })

pub loop-read-preserved : goal.loop-read-preserved
loop-read-preserved c =
    let inv = c.loop-read.invariant in
    let s = rw (c.in-Some.is, c.in-Ok.is) at ((c.next.ensures.steps inv.left inv.trim).0 inv.ready) in
    let m = row_taken (λ (s : Bor (List ℕ)). Some s.now) c.loop-read.read-iterator.rdr c.next.new.self.rdr (fields_of c.in-Ok.row) c.loop-read.remap inv.bytes (services_of c.args.bytes.now) inv.config inv.source s.0 inv.way c.add.new.self c.in_ok-add.ensures in
    record {
      trim = s.0.3 ∙ inv.trim;
      ready = inl s.1;
      left = s.2;
      config = s.0.2 ∙ inv.config;
      bytes = m.0;
      source = m.1;
      way = m.2;
    }

pub returns-in_err-add : goal.returns-in_err-add
returns-in_err-add c =
    let inv = c.loop-read.invariant in
    let s = rw (c.in-Some.is, c.in-Ok.is) at ((c.next.ensures.steps inv.left inv.trim).0 inv.ready) in
    let said = with_pair c.loop-read.remap (service_pair (fields_of c.in-Ok.row)) in
    let decides : (other : RemapErr) → said ≡ Err other → services_of c.args.bytes.now ≡ Err other = row_refused (λ (s : Bor (List ℕ)). Some s.now) c.loop-read.read-iterator.rdr c.next.new.self.rdr (fields_of c.in-Ok.row) c.loop-read.remap inv.bytes (services_of c.args.bytes.now) inv.config inv.source s.0 inv.way in
    told_on c.from_residual.result (λ remap. remap) c.in_err-add.field-0.0 (services_of c.args.bytes.now) c.from_residual.ensures (told_of_all c.in_err-add.field-0.0 said (services_of c.args.bytes.now) decides c.in_err-add.ensures)

pub returns : goal.returns
returns c =
    let inv = c.loop-read.invariant in
    let old = c.loop-read.read-iterator.rdr in
    let s = rw c.in-None.is at ((c.next.ensures.steps inv.left inv.trim).0 inv.ready) in
    ends c.loop-read.remap old.state inv.bytes (services_of c.args.bytes.now) inv.way (rows-end (λ (s : Bor (List ℕ)). Some s.now) old c.next.new.self.rdr [] default_config inv.bytes inv.config inv.source s)
