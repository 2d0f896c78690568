use Rattle.std.proofs.Common.{◌≡◌, length}
use Rattle.sql_reader.specs.Reading.{content_at}
use Rattle.sql_reader.proofs.Loops.{content_front}
use Rattle.sql_reader.proofs.scanner.content.Given as goal

abbrev pub invariant-loop-first : goal.invariant-loop-first
invariant-loop-first l = content_front l.content.items (content_at l.rest) ≡ content_at l.bytes

abbrev pub decreases-loop-first : goal.decreases-loop-first
decreases-loop-first l = length l.rest
