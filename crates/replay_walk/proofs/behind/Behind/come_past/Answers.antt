use Rattle.replay_job.specs.Job.{seen}
use Rattle.replay_walk.proofs.Behinds.{kept_none, kept_on}
use Rattle.replay_walk.proofs.Serving.{goes_further, stands_still}
use Rattle.replay_walk.proofs.behind.Behind.come_past.Goals as goal

pub loop-self-init : goal.loop-self-init
loop-self-init c = record {
  behind = c.requires.behind;
  goes_on = stands_still c.args.self.now.server;
  kept = kept_none (seen c.args.job.now) c.args.differs.now c.args.self.now;
}

pub loop-self-preserved : goal.loop-self-preserved
loop-self-preserved c = record {
  behind = c.in_ok-pass.ensures.behind;
  goes_on = goes_further c.args.self.now.server c.loop-self.self.server c.pass.new.self.server c.loop-self.invariant.goes_on c.in_ok-pass.ensures.goes_on;
  kept = λ k. kept_on (seen c.args.job.now) c.args.differs.now c.args.self.now c.loop-self.self c.pass.new.self k (c.loop-self.invariant.kept k) (c.in_ok-pass.ensures.kept k);
}
