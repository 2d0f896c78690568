use Rattle.std.proofs.Common.{refl, rules}
use Rattle.replay_walk.proofs.along.Progress.new.Goals as goal

pub returns : goal.returns
returns c =
    let begun = c.in_ok-new.ensures in
    record {
      both = begun.both;
      stage = begun.stage;
      steps = begun.steps;
      first = begun.first;
      count = begun.count;
      quiet = refl;
      open_calls = search rules;
      twins = search rules;
    }
