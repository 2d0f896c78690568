-- A schedule may go from one thread to another.
use denote.Param.Send.{IsSend, sendable}
use Rattle.std.proofs.Crossing.{crosses}
use Rattle.std.proofs.MapsCrossing.{crosses as maps}
use Rattle.law_threads.proofs.Crossings.{start_send}
use Rattle.desk_values.specs.contracts.call.Reply as Reply
use Rattle.desk_values.specs.contracts.capture.Captured as Captured
use Rattle.commit_gate.specs.contracts.gate.Gate as Gate
use Rattle.replay_job.specs.contracts.job.Job as Job
use Rattle.replay_schedule.specs.contracts.schedule.Schedule as Schedule

pub reply_send : IsSend Reply.the_field.row
reply_send = search (crosses, sendable) depth 80 fits 100000

captured_send : IsSend Captured.the_field.row
captured_send = search (reply_send, crosses, sendable) depth 80 fits 100000

job_send : IsSend Job.the_field.row
job_send = search (start_send, captured_send, maps, crosses, sendable) depth 60 fits 100000

gate_send : IsSend Gate.the_field.row
gate_send = search (maps, crosses, sendable) depth 60 fits 100000

pub schedule_send : IsSend Schedule.the_field.row
schedule_send = search (job_send, gate_send, crosses, sendable) depth 60 fits 100000
