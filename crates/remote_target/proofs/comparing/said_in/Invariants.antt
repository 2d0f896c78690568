use Rattle.std.proofs.Common.{◌≡◌, flat_map, take}
use Rattle.remote_desk.specs.Said.{said_at}
use Rattle.remote_target.proofs.comparing.said_in.Given as goal

abbrev pub invariant-loop-event : goal.invariant-loop-event
invariant-loop-event l = l.list ≡ flat_map (said_at l.calls l.events l.session) (take l.event-index l.events)
