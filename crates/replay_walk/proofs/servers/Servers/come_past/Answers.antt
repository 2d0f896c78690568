use Rattle.std.proofs.Common.{refl}
use Rattle.replay_job.specs.Job.{seen}
use Rattle.replay_walk.proofs.Both.{come_both}
use Rattle.replay_walk.proofs.servers.Servers.come_past.Goals as goal

pub come_past-requires-clause-behind : goal.come_past-requires-clause-behind
come_past-requires-clause-behind c = c.requires.both.behind

pub returns : goal.returns
returns c =
    let come = c.in_ok-come_past.ensures in
    record {
      both = come_both c.args.self.now c.come_past.new.self come.goes_on (seen c.args.job.now) come.behind c.requires.both;
      past = come.past;
      kept = come.kept;
      replay = refl;
      map = refl;
    }
