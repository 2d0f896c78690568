use Rattle.std.proofs.Common.{◌≡◌, ◌-◌, map}
use Rattle.sql_reader.specs.Reading.{list_at}
use Rattle.sql_reader.proofs.Loops.{list_front}
use Rattle.sql_reader.proofs.sentences.list.Given as goal

abbrev pub invariant-loop : goal.invariant-loop
invariant-loop g l = list_front g.T.Member.reading (map g.T.Member.view l.list) (list_at g.T.Member.reading (16 - l.counter) l.rest) ≡ list_at g.T.Member.reading 16 l.tokens
