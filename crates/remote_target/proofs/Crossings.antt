-- A remote desk may go from one thread to another.
use denote.Param.Send.{IsSend, sendable}
use Rattle.std.proofs.Crossing.{crosses}
use Rattle.std.proofs.MapsCrossing.{crosses as maps}
use Rattle.desk_values.specs.contracts.call.Call as Call
use Rattle.replay_schedule.proofs.Crossings.{reply_send, schedule_send}
use Rattle.remap_ids.specs.contracts.id_map.IdMap as IdMap
use Rattle.remote_desk.specs.contracts.event.RemoteEvent as RemoteEvent
use Rattle.remote_desk.specs.contracts.desk.RemoteDesk as RemoteDesk

call_send : IsSend Call.the_field.row
call_send = search (crosses, sendable) depth 80 fits 100000

event_send : IsSend RemoteEvent.the_field.row
event_send = search (call_send, reply_send, crosses, sendable) depth 40

map_send : IsSend IdMap.the_field.row
map_send = search (maps, crosses, sendable) depth 60 fits 100000

pub desk_send : IsSend RemoteDesk.the_field.row
desk_send = search (schedule_send, map_send, event_send, crosses, sendable) depth 60 fits 100000
