use Rattle.std.proofs.Common.{◌≡◌, ◌<◌, ℕ, List, Some}
use Rattle.csv.specs.Reading.{Ready, default_config, source_of}
use Rattle.csv.specs.declared.reader.Trim.TheVariants as trim
use Rattle.desk_schema.proofs.Records.{IsOnTheWay}
use Rattle.desk_schema.proofs.change.changed_start.Given as goal

abbrev pub invariant-loop-read : goal.invariant-loop-read
invariant-loop-read l = record {
  trim : l.read-iterator.rdr.trim ≡ trim.None;
  ready : Ready l.read-iterator.rdr;
  left : 0 < l.read-iterator.left;
  config : l.read-iterator.rdr.config ≡ default_config;
  bytes : List ℕ;
  source : source_of (λ s. Some s.now) l.read-iterator.rdr ≡ Some bytes;
  way : IsOnTheWay l.fn.start l.fn.bytes l.n l.now l.read-iterator.rdr.state bytes;
}
