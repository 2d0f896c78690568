use Rattle.std.proofs.Common.{◌≡◌, ◌∙◌, ap, arith}
use Rattle.server_words.specs.Machine.{Running}
use Rattle.remap_ids.specs.IdMap.{IdMapView}
use Rattle.replay_job.specs.Job.{seen}
use Rattle.replay_job.specs.Runs.{Stage}
use Rattle.replay_walk.proofs.Both.{begun_both}
use Rattle.replay_walk.proofs.servers.Servers.new.Goals as goal

pub all_alike-requires-clause-captured : goal.all_alike-requires-clause-captured
all_alike-requires-clause-captured c = omega (arith, c.in_ok-behind.ensures.count)

pub all_alike-requires-clause-replayed : goal.all_alike-requires-clause-replayed
all_alike-requires-clause-replayed c = omega (arith, c.in_ok-replay.ensures.count)

pub returns : goal.returns
returns c =
    let behind = c.in_ok-behind.ensures in
    let replay = c.in_ok-replay.ensures in
    let pairs = c.in_ok-from_start.ensures.pairs in
    record {
      both = begun_both (seen c.args.job.now) c.args.tables _ behind replay.engine replay.told replay.count pairs c.in_ok-differences.ensures;
      stage = λ i. record { state = (replay.engine i).state; pairs = pairs i };
      steps = ap (λ (m : Running). m.steps) replay.engine;
      first = behind.first;
      count = replay.count;
    }
