-- What was said may go from one thread to another, and so may a recorder.
use denote.Param.Send.{IsSend, sendable}
use Rattle.std.proofs.Crossing.{crosses}
use Rattle.std.proofs.MapsCrossing.{crosses as maps}
use Rattle.desk_values.specs.contracts.call.Call as Call
use Rattle.desk_values.specs.contracts.call.Outcome as Outcome
use Rattle.desk_values.specs.contracts.call.Reply as Reply
use Rattle.desk_values.specs.contracts.capture.Captured as Captured
use Rattle.desk_values.specs.contracts.fault.Fault as Fault
use Rattle.desk_values.specs.contracts.list.List as List
use Rattle.desk_values.specs.contracts.value.Image as Image
use Rattle.desk_values.specs.contracts.value.Value as Value
use Rattle.capture_recorder.specs.contracts.door.Said as Said
use Rattle.capture_recorder.specs.contracts.door.Turned as Turned
use Rattle.capture_recorder.specs.contracts.recorder.Recorder as Recorder
use Rattle.law_threads.proofs.Crossings.{engine_send, start_send}

pub value_send : IsSend Value.the_field.row
value_send = search (crosses, sendable) depth 20

pub call_send : IsSend Call.the_field.row
call_send = search (value_send, crosses, sendable) depth 20

values_send : IsSend (List.the_field Value.the_row).row
values_send = search (value_send, crosses, sendable) depth 20

fault_send : IsSend Fault.the_field.row
fault_send = search sendable depth 80

pub image_send : IsSend Image.the_field.row
image_send = search (value_send, crosses, sendable) depth 20

pub outcome_send : IsSend Outcome.the_field.row
outcome_send = search (values_send, image_send, fault_send, crosses, sendable) depth 30

pub reply_send : IsSend Reply.the_field.row
reply_send = search (value_send, outcome_send, crosses, sendable) depth 20

pub said_send : IsSend Said.the_field.row
said_send = search (call_send, reply_send, sendable) depth 20

pub turned_send : IsSend Turned.the_field.row
turned_send = search (call_send, sendable) depth 20

captured_send : IsSend Captured.the_field.row
captured_send = search (call_send, reply_send, sendable) depth 20

pub recorder_send : IsSend Recorder.the_field.row
recorder_send = search (engine_send, start_send, captured_send, maps, crosses, sendable) depth 40 fits 100000
