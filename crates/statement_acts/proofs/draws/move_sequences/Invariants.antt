use Rattle.std.proofs.Common.{◌≡◌, ◌++◌, drop, take}
use Rattle.server_words.specs.Draws.{moved}
use Rattle.statement_acts.proofs.draws.move_sequences.Given as goal

abbrev pub invariant-loop-place : goal.invariant-loop-place
invariant-loop-place l = record {
  moved : take l.place l.next_values ++ moved l.draws l.place (drop l.place l.next_values) ≡ moved l.draws 0 l.fn.next_values;
  left : drop l.place l.next_values ≡ drop l.place l.fn.next_values;
}
