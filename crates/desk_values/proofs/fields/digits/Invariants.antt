use Rattle.std.proofs.Common.{◌≡◌, ◌<◌, ◌^◌, drop}
use Rattle.desk_values.specs.Inside.{number_after}
use Rattle.desk_values.proofs.fields.digits.Given as goal

-- the number so far, and what is left
abbrev pub invariant-loop-digit : goal.invariant-loop-digit
invariant-loop-digit l = record {
  small : l.number < 2 ^ 64;
  same : number_after l.number (drop l.digit-index l.bytes) ≡ number_after 0 l.bytes;
}
