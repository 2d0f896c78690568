use Rattle.std.proofs.Common.{arith}
use Rattle.std.proofs.lemmas.Result.{IfErr-weaker, IfOk-weaker}
use Rattle.capture_serve.specs.Seen.{capture_of}
use Rattle.capture_serve.proofs.Whole.{counts_of, few_said, given_back, gives_back, service}
use Rattle.capture_serve.proofs.serving.serve.Goals as goal

pub captured-requires-after_bounds : goal.captured-requires-after_bounds
captured-requires-after_bounds g c κs within = omega (arith, few_said c.args.most c.in_ok-notes.notes _ _ c.in_ok-notes.ensures.connected, c.requires)

pub returns-clause-service : goal.returns-clause-service
returns-clause-service g c = IfOk-weaker c.captured.result _ _ (λ capture of. service c.args.start.now c.args.most c.in_ok-notes.notes (capture_of capture) _ _ c.in_ok-notes.ensures.connected of) c.captured.ensures.captured

pub returns-clause-back : goal.returns-clause-back
returns-clause-back g c = gives_back c.args.most _ _ c.captured.result (given_back c.args.most c.in_ok-notes.notes _ _ c.in_ok-notes.ensures.connected) (IfErr-weaker c.captured.result _ _ (λ error both. both.1) c.captured.ensures.fails)

pub returns-clause-fails : goal.returns-clause-fails
returns-clause-fails g c = IfErr-weaker c.captured.result _ _ (λ error both. both.0) c.captured.ensures.fails

pub returns-clause-counts : goal.returns-clause-counts
returns-clause-counts g c = counts_of c.captured.result _ _ c.in_ok-notes.ensures.counts (IfErr-weaker c.captured.result _ _ (λ error both. both.1) c.captured.ensures.fails)
