use Rattle.std.proofs.Common.{◌∙◌, ap, length, refl, arith}
use Rattle.desk_schema.proofs.Files.{sound_start}
use Rattle.replay_core.proofs.desk.Desk.setup.Goals as goal

pub of-requires : goal.of-requires
of-requires c = c.requires

pub invariant_of-result : goal.invariant_of-result
invariant_of-result c =
    let are = c.in_ok-engine.ensures in
    let made = c.in_ok-schedule.ensures in
    record {
      target = rw made.job (sound_start c.args.job.target c.know_rules.ensures);
      truthful = rw (are.no_event, are.opened.state, are.pairs_are, made.job) refl;
      texts = rw are.no_event tt;
      own = rw made.job (are.own_are ∙ ap length are.pairs_are);
      follows = rw are.no_event made.follows;
      room = rw made.job (omega (arith, are.room));
      steps = omega (arith, are.opened.steps);
    }

pub returns : goal.returns
returns c = let are = c.in_ok-engine.ensures in let made = c.in_ok-schedule.ensures in rw (are.no_event, are.opened.state, are.pairs_are, made.job, made.going) refl
