use Rattle.std.proofs.Common.{◌≡◌, ◌++◌, length}
use Rattle.desk_values.specs.Text.{escaped}
use Rattle.desk_values.proofs.Escapes.{AllSmall}
use Rattle.desk_values.proofs.escape.unescaped.Given as goal

-- what the escapes so far stand for, and what is left
abbrev pub invariant-loop-byte : goal.invariant-loop-byte
invariant-loop-byte l = record {
  spelled : l.bytes ≡ escaped l.text ++ l.rest;
  small : AllSmall l.text;
}

abbrev pub decreases-loop-byte : goal.decreases-loop-byte
decreases-loop-byte l = length l.rest
