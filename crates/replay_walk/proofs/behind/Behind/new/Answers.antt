use Rattle.std.proofs.Common.{refl}
use Rattle.replay_job.specs.Job.{seen}
use Rattle.replay_walk.proofs.Behinds.{begun}
use Rattle.replay_walk.proofs.behind.Behind.new.Goals as goal

pub returns : goal.returns
returns c =
    let load = c.in_ok-load.ensures in
    begun (seen c.args.job.now) c.args.tables _ load.engine load.told load.count refl c.new.ensures.items c.new-2.ensures.empty
