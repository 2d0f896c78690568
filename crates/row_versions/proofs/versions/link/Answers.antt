use Rattle.row_versions.proofs.Pruning.{link_at}
use Rattle.row_versions.proofs.versions.link.Goals as goal

pub returns : goal.returns
returns c = λ version.
    link_at c.args.list.now.items c.args.at c.args.before version c.index_mut-version.result.now c.jump_of-jump.result.0 c.jump_of-jump.result.1 c.requires c.index_mut-version.ensures.value
