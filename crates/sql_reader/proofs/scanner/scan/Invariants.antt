use Rattle.std.proofs.Common.{◌≡◌, ◌-◌, length}
use Rattle.sql_reader.specs.Reading.{tokens_at}
use Rattle.sql_reader.proofs.Loops.{tokens_front}
use Rattle.sql_reader.proofs.scanner.scan.Given as goal

abbrev pub invariant-loop : goal.invariant-loop
invariant-loop l = tokens_front l.tokens.items (tokens_at (length l.bytes - l.counter) l.rest) ≡ tokens_at (length l.bytes) l.bytes
