use Rattle.statement_cache.proofs.statements.Statements.read.Goals as goal

pub returns : goal.returns
returns c = λ right. c.put.ensures c.args.schema.now (c.in_ok-known.ensures c.args.schema.now c.in_ok-kept.ensures) right
