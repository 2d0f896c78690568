use Rattle.std.proofs.Common.{◌<◌, length, arith}
use Rattle.prepare_plan.specs.Inside.{calls_at}
use Rattle.prepare_plan.proofs.Seating.{seat_left, seat_read, seat_taken}
use Rattle.prepare_plan.proofs.seats.take_seat.Goals as goal

pub returns-then-stamp-len : goal.returns-then-stamp-len
returns-then-stamp-len c =
    let seats = c.args.seats.now.items in
    let call = c.args.call in
    let within : call.stamp < length seats = omega (arith, c.if-stamp-len.true, c.len.ensures, c.args.seats.now.ok) in
    λ calls n are. seat_taken calls call n seats are c.take.new.self within (c.take.ensures (calls_at calls call.stamp) (seat_read calls n seats call.stamp c.index_mut.result.now are within c.index_mut.ensures.value))

pub returns-else-stamp-len : goal.returns-else-stamp-len
returns-else-stamp-len c = λ calls n are. seat_left calls c.args.call n c.args.seats.now.items are (omega (arith, c.if-stamp-len.false, c.len.ensures, c.args.seats.now.ok))
