use denote.Param.Send.{sendable}
use Rattle.std.proofs.Common.{◌≡◌, ◌∙◌, subst}
use Rattle.std.proofs.Crossing.{crosses}
use Rattle.std.specs.Prelude.{IfOk}
use Rattle.replay_job.specs.Job.{JobView}
use Rattle.replay_worker.proofs.Crossings.{desk_send}
use Rattle.replay_worker.proofs.lanes.together.Goals as goal

pub run_lanes-found-requires-send-C : goal.run_lanes-found-requires-send-C
run_lanes-found-requires-send-C g c κs within = search (desk_send, crosses, sendable) depth 40

pub returns-clause-job : goal.returns-clause-job
returns-clause-job g c = subst (λ (j : JobView). IfOk c.finished.result (λ desk. desk.job ≡ j)) (c.in_ok-desk-2.ensures ∙ c.in_ok-kept.ensures) c.finished.ensures.job
