use Rattle.std.proofs.Common.{◌∙◌, ap, map, subst, sym}
use Rattle.replay_job.specs.Job.{JobView}
use Rattle.replay_lanes.specs.Sessions.{sessions}
use Rattle.remote_target.specs.Agreement.{heard_on}
use Rattle.remote_target.specs.Inside.{IsOutcome, refusal_on}
use Rattle.remote_target.proofs.running.settled.Goals as goal

pub finished-requires-clause-agreed : goal.finished-requires-clause-agreed
finished-requires-clause-agreed g c κs within = let is = rw c.as_slice.ensures.value at c.in-Ok.ensures in is.2

pub finished-requires-clause-sessions : goal.finished-requires-clause-sessions
finished-requires-clause-sessions g c κs within = let is = rw c.as_slice.ensures.value at c.in-Ok.ensures in c.requires ∙ ap (λ (job : JobView). sessions job.calls) (sym is.0)

pub finished-requires-clause-going : goal.finished-requires-clause-going
finished-requires-clause-going g c κs within = let is = rw c.as_slice.ensures.value at c.in-Ok.ensures in is.4

pub returns-in-Ok-clause-sessions : goal.returns-in-Ok-clause-sessions
returns-in-Ok-clause-sessions g c = let is = rw c.as_slice.ensures.value at c.in-Ok.ensures in c.finished.ensures.sessions ∙ ap (λ (job : JobView). sessions job.calls) is.0

pub returns-in-Ok-clause-outcome : goal.returns-in-Ok-clause-outcome
returns-in-Ok-clause-outcome g c =
    let is = rw c.as_slice.ensures.value at c.in-Ok.ensures in
    subst (λ (job : JobView). IsOutcome job (map heard_on c.finished.result.0.items) (map refusal_on c.finished.result.0.items) c.finished.result.1) is.0 c.finished.ensures.outcome

pub returns-in-Err-clause-outcome : goal.returns-in-Err-clause-outcome
returns-in-Err-clause-outcome g c = rw c.as_slice.ensures.value at c.in-Err.ensures
