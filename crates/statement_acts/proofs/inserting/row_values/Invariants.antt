use Rattle.std.proofs.Common.{◌≡◌, ◌++◌, drop}
use Rattle.server_words.specs.Writes.{row_values}
use Rattle.statement_acts.proofs.inserting.row_values.Given as goal

abbrev pub invariant-loop-number : goal.invariant-loop-number
invariant-loop-number l = l.values ++ row_values l.named l.inputs l.number (drop l.number l.columns) ≡ row_values l.named l.inputs 0 l.columns
