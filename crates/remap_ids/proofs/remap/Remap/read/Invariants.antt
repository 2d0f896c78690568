use Rattle.std.proofs.Common.{◌≡◌, ◌<◌, ℕ, List, Some}
use Rattle.csv.specs.Reading.{Ready, default_config, source_of}
use Rattle.csv.specs.declared.reader.Trim.TheVariants as trim
use Rattle.remap_ids.specs.Services.{services_of}
use Rattle.remap_ids.proofs.Records.{IsOnTheWay}
use Rattle.remap_ids.proofs.remap.Remap.read.Given as goal

abbrev pub invariant-loop-read : goal.invariant-loop-read
invariant-loop-read l = record {
  trim : l.read-iterator.rdr.trim ≡ trim.None;
  ready : Ready l.read-iterator.rdr;
  left : 0 < l.read-iterator.left;
  config : l.read-iterator.rdr.config ≡ default_config;
  bytes : List ℕ;
  source : source_of (λ s. Some s.now) l.read-iterator.rdr ≡ Some bytes;
  way : IsOnTheWay l.remap l.read-iterator.rdr.state bytes (services_of l.fn.bytes);
}
