use Rattle.std.proofs.Common.{◌≡◌, take}
use Rattle.remote_desk.specs.History.{plain}
use Rattle.remote_desk.proofs.desk.RemoteDesk.history.Given as goal

abbrev pub invariant-loop-event : goal.invariant-loop-event
invariant-loop-event l = l.history.items ≡ plain (take l.event-index l.event-items)
