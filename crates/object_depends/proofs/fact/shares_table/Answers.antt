use Rattle.object_depends.proofs.Sharing.{shares_is}
use Rattle.object_depends.proofs.fact.shares_table.Goals as goal

pub returns : goal.returns
returns c = shares_is c.args.left c.args.right c.ranges.left.fits
