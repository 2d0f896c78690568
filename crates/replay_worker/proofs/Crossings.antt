-- A desk may go from one thread to another.
use denote.Param.Send.{IsSend, sendable}
use Rattle.std.proofs.Crossing.{crosses}
use Rattle.std.proofs.MapsCrossing.{crosses as maps}
use Rattle.law_threads.proofs.Crossings.{engine_send}
use Rattle.replay_schedule.proofs.Crossings.{reply_send, schedule_send}
use Rattle.desk_values.specs.contracts.capture.Event as Event
use Rattle.remap_ids.specs.contracts.id_map.IdMap as IdMap
use Rattle.replay_core.specs.contracts.desk.Desk as Desk

event_send : IsSend Event.the_field.row
event_send = search (reply_send, crosses, sendable) depth 40

map_send : IsSend IdMap.the_field.row
map_send = search (maps, crosses, sendable) depth 60 fits 100000

pub desk_send : IsSend Desk.the_field.row
desk_send = search (engine_send, schedule_send, map_send, event_send, crosses, sendable) depth 60 fits 100000
