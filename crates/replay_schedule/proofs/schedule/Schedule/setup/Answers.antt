use Rattle.std.proofs.Common.{◌∙◌, ap, ℕ, false, replicate, refl, subst}
use Rattle.replay_job.specs.Job.{seen}
use Rattle.replay_schedule.proofs.Gates.Gates.{new_follows}
use Rattle.replay_schedule.proofs.schedule.Schedule.setup.Goals as goal

pub invariant_of-result : goal.invariant_of-result
invariant_of-result c = c.in_ok-gaps.ensures

pub returns-clause-follows : goal.returns-clause-follows
returns-clause-follows c = rw (c.in_ok-gate.ensures, c.in_ok-waiting.ensures ∙ ap (λ (n : ℕ). replicate n false) c.len.ensures) (new_follows (seen c.args.job) c.requires)
