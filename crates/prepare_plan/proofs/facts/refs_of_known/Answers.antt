use Rattle.prepare_plan.proofs.facts.refs_of_known.Goals as goal

pub returns-in-Some : goal.returns-in-Some
returns-in-Some c = c.refs_of_kept.ensures c.args.binds.now (c.in-Some.ensures c.args.schema.now c.requires.right)
