use denote.Param.Send.{param_send, sendable}
use Rattle.std.proofs.Crossing.{crosses}
use Rattle.capture_serve.proofs.Sending.{recorder_send, said_send, turned_send}
use Rattle.capture_serve.proofs.seating.start.Lts.{arg-1-2}
use Rattle.capture_serve.proofs.seating.start.Goals as goal

pub spawn_with-requires-send-F : goal.spawn_with-requires-send-F
spawn_with-requires-send-F g c κs within =
    let input = c.type_bounds.send-I in
    let output = c.type_bounds.send-O in
    param_send 2 (arg-1-2 g.row.E g.row.R g.row.I g.row.O g.row.D g.E.laws g.R.laws g.I.laws g.O.laws g.D.laws g.R.Clock g.R.Clock-dict g.R.Wait g.R.Wait-dict g.R.Threads g.R.Threads-dict g.I.Source g.I.Source-dict g.O.Sink g.O.Sink-dict g.D.Door g.D.Door-dict g.I.Destruct-dict g.O.Destruct-dict κs)
    (search (recorder_send, crosses, sendable) depth 40 fits 100000)

pub spawn_with-requires-send-T : goal.spawn_with-requires-send-T
spawn_with-requires-send-T g c κs within =
    let input = c.type_bounds.send-I in
    let output = c.type_bounds.send-O in
    search (said_send, turned_send, crosses, sendable) depth 30
