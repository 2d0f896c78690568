use denote.Param.Send.{param_send, sendable}
use Rattle.std.proofs.Common.{◌∙◌, ap, length, arith}
use Rattle.std.proofs.Crossing.{crosses}
use Rattle.std.proofs.lemmas.List.{length-map}
use Rattle.remote_target.specs.Inside.{seat_session, session_on}
use Rattle.remote_target.proofs.Crossings.{desk_send}
use Rattle.remote_target.proofs.running.replayed.Lts.{arg-6-1}
use Rattle.remote_target.proofs.running.replayed.Goals as goal

pub run_lanes-desk-requires-send-C : goal.run_lanes-desk-requires-send-C
run_lanes-desk-requires-send-C g c κs within =
    param_send 1 (arg-6-1 g.row.R g.row.D g.row.L g.R.laws g.D.laws g.L.laws g.R.Clock g.R.Clock-dict g.R.Wait g.R.Wait-dict g.R.Threads g.R.Threads-dict g.D.Door g.D.Door-dict g.L.Link g.L.Link-dict g.L.Destruct-dict κs)
    (first_of (search desk_send, search (desk_send, crosses, sendable) depth 40 fits 100000))

pub free_each-requires-clause-room : goal.free_each-requires-clause-room
free_each-requires-clause-room g c =
    let same = ap length c.seat_each.ensures in
    omega (arith, same, c.in-Ok.ensures.back.1, length-map c.seat_each.new.seats.items seat_session, length-map c.args.lines.items session_on)

pub settled-requires-after_bounds : goal.settled-requires-after_bounds
settled-requires-after_bounds g c κs within = c.free_each.ensures ∙ c.seat_each.ensures ∙ c.requires.sessions
