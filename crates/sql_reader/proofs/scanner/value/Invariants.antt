use Rattle.std.proofs.Common.{◌≡◌, ◌<◌, ◌^◌, drop}
use Rattle.sql_reader.specs.Reading.{value_after}
use Rattle.sql_reader.proofs.scanner.value.Given as goal

abbrev pub invariant-loop-digit : goal.invariant-loop-digit
invariant-loop-digit l = record {
  small : l.value < 2 ^ 63;
  same : value_after l.value (drop l.digit-index l.run) ≡ value_after 0 l.run;
}
