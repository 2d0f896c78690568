-- How the fields of a remote desk are seen.
use Rattle.remote_desk.specs.declared.desk.RemoteDesk.TheInside.{Inside}
use Rattle.remote_desk.specs.Desk.{RemoteView}

abbrev pub view_of : Inside → RemoteView
view_of a = record { job = a.schedule.job; events = a.events.items; pairs = a.map.pairs; stopped = a.schedule.stopped }
