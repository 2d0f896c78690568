use Rattle.std.proofs.Common.{refl, subst}
use Rattle.desk_values.specs.declared.call.Call.{Call}
use Rattle.id_pairs.specs.Pairs.{learnt}
use Rattle.server_words.specs.Step.{Gives}
use Rattle.replay_job.specs.Job.{seen}
use Rattle.replay_walk.proofs.Both.{done_both}
use Rattle.replay_walk.proofs.servers.Servers.execute.Goals as goal

pub step-requires-clause-telling : goal.step-requires-clause-telling
step-requires-clause-telling c = c.requires.both.telling

pub returns : goal.returns
returns c =
    let old = c.args.self.now in
    let call = c.args.call.now in
    let did = c.in_ok-step.ensures in
    let next = c.step.new.self in
    let learned = c.in_ok-learn.ensures.ok in
    record {
      both = done_both old next c.learn.new.self (learnt call.reply c.args.reply.now) learned did.goes_on (seen c.args.job.now) call.session c.args.sent.now did.gives.0 did.gives.1 did.telling c.requires.both;
      given = did.gives.0;
      gives = subst (λ (s : Call). Gives old.replay.engine.state call.session s did.gives.0 next.engine.state) c.requires.sent did.gives.1;
      pairs = learned;
      steps = did.steps;
      count = did.goes_on.count;
      behind = refl;
    }
