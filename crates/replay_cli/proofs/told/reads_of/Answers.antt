use Rattle.std.proofs.lemmas.Bool.{both_ways}
use Rattle.replay_cli.proofs.told.reads_of.Goals as goal

pub returns-in_ok-reads_in : goal.returns-in_ok-reads_in
returns-in_ok-reads_in c = λ history open_calls. (c.requires.fenced.0 c.if-fenced.true, c.in_ok-reads_in.ensures.reads history (open_calls c.if-fenced.true))

pub returns-else-fenced : goal.returns-else-fenced
returns-else-fenced c = λ history open_calls is. both_ways _ c.if-fenced.false (c.requires.fenced.1 is)
