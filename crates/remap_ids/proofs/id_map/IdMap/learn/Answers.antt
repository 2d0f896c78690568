use Rattle.id_pairs.specs.Pairs.{learnt}
use Rattle.id_pairs.proofs.New.{all_go_last}
use Rattle.remap_ids.proofs.id_map.IdMap.learn.Goals as goal

pub returns-clause-ok : goal.returns-clause-ok
returns-clause-ok c = rw (all_go_last c.args.self.now.pairs (learnt c.args.captured.now c.args.replayed.now) c.requires) at c.learn_fresh.ensures.ok
