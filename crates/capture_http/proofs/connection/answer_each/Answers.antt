use Rattle.std.proofs.Common.{◌≡◌, ◌∙◌, arith, refl}
use Rattle.capture_http.specs.Ends.{ends_told}
use Rattle.capture_http.proofs.Halting.{closed_by, ends_by, spent_by}
use Rattle.capture_http.proofs.Turns.{begun, count_low, goes_further}
use Rattle.capture_http.proofs.connection.answer_each.Goals as goal

pub loop-n-init : goal.loop-n-init
loop-n-init g c = record { goes = rw c.requires (begun (g.B.CallDoor.seat c.args.calls.now) (ends_told (g.I.Source.account c.args.input.now) (g.O.Sink.account c.args.output.now) (g.B.CallDoor.said c.args.calls.now) (g.B.CallDoor.turned c.args.calls.now))); seat = refl }

pub answer_next-requires-clause-room : goal.answer_next-requires-clause-room
answer_next-requires-clause-room g c = omega (arith, c.loop-n-test.true, count_low (g.B.CallDoor.seat c.args.calls.now) c.loop-n._n c.loop-n.count c.loop-n.reader (ends_told (g.I.Source.account c.args.input.now) (g.O.Sink.account c.args.output.now) (g.B.CallDoor.said c.args.calls.now) (g.B.CallDoor.turned c.args.calls.now)) (ends_told (g.I.Source.account c.loop-n.input) (g.O.Sink.account c.loop-n.output) (g.B.CallDoor.said c.loop-n.calls) (g.B.CallDoor.turned c.loop-n.calls)) c.loop-n.invariant.goes)

pub returns-in-Ok-true-clause-ends : goal.returns-in-Ok-true-clause-ends
returns-in-Ok-true-clause-ends g c = closed_by (g.B.CallDoor.seat c.args.calls.now) c.loop-n._n c.loop-n.count c.answer_next.new.count c.loop-n.reader c.answer_next.new.reader (ends_told (g.I.Source.account c.args.input.now) (g.O.Sink.account c.args.output.now) (g.B.CallDoor.said c.args.calls.now) (g.B.CallDoor.turned c.args.calls.now)) (ends_told (g.I.Source.account c.loop-n.input) (g.O.Sink.account c.loop-n.output) (g.B.CallDoor.said c.loop-n.calls) (g.B.CallDoor.turned c.loop-n.calls)) (ends_told (g.I.Source.account c.answer_next.new.input) (g.O.Sink.account c.answer_next.new.output) (g.B.CallDoor.said c.answer_next.new.calls) (g.B.CallDoor.turned c.answer_next.new.calls)) c.loop-n.invariant.goes (rw (c.loop-n.invariant.seat, c.in-Ok-true.field-0-test) at c.in-Ok-true.ensures.turn) (omega (arith, c.loop-n-test.true))

pub returns-in-Err-clause-ends : goal.returns-in-Err-clause-ends
returns-in-Err-clause-ends g c = ends_by c.in-Err.end (g.B.CallDoor.seat c.args.calls.now) c.loop-n._n c.loop-n.count c.loop-n.reader (ends_told (g.I.Source.account c.args.input.now) (g.O.Sink.account c.args.output.now) (g.B.CallDoor.said c.args.calls.now) (g.B.CallDoor.turned c.args.calls.now)) (ends_told (g.I.Source.account c.loop-n.input) (g.O.Sink.account c.loop-n.output) (g.B.CallDoor.said c.loop-n.calls) (g.B.CallDoor.turned c.loop-n.calls)) (ends_told (g.I.Source.account c.answer_next.new.input) (g.O.Sink.account c.answer_next.new.output) (g.B.CallDoor.said c.answer_next.new.calls) (g.B.CallDoor.turned c.answer_next.new.calls)) c.loop-n.invariant.goes (rw c.loop-n.invariant.seat at c.in-Err.ensures.turn) (omega (arith, c.loop-n-test.true))

pub loop-n-preserved : goal.loop-n-preserved
loop-n-preserved g c = record {
  goes = goes_further (g.B.CallDoor.seat c.args.calls.now) c.loop-n._n c.loop-n.count c.answer_next.new.count c.loop-n.reader c.answer_next.new.reader (ends_told (g.I.Source.account c.args.input.now) (g.O.Sink.account c.args.output.now) (g.B.CallDoor.said c.args.calls.now) (g.B.CallDoor.turned c.args.calls.now)) (ends_told (g.I.Source.account c.loop-n.input) (g.O.Sink.account c.loop-n.output) (g.B.CallDoor.said c.loop-n.calls) (g.B.CallDoor.turned c.loop-n.calls)) (ends_told (g.I.Source.account c.answer_next.new.input) (g.O.Sink.account c.answer_next.new.output) (g.B.CallDoor.said c.answer_next.new.calls) (g.B.CallDoor.turned c.answer_next.new.calls)) c.loop-n.invariant.goes (rw (c.loop-n.invariant.seat, c.in-Ok-false.field-0-test) at c.in-Ok-false.ensures.turn) (omega (arith, c.loop-n-test.true));
  seat = c.answer_next.ensures.seat ∙ c.loop-n.invariant.seat;
}

pub answer_next-requires-2-clause-room : goal.answer_next-requires-2-clause-room
answer_next-requires-2-clause-room g c = omega (arith, c.loop-n.auto._n-end, count_low (g.B.CallDoor.seat c.args.calls.now) c.loop-n._n c.loop-n.count c.loop-n.reader (ends_told (g.I.Source.account c.args.input.now) (g.O.Sink.account c.args.output.now) (g.B.CallDoor.said c.args.calls.now) (g.B.CallDoor.turned c.args.calls.now)) (ends_told (g.I.Source.account c.loop-n.input) (g.O.Sink.account c.loop-n.output) (g.B.CallDoor.said c.loop-n.calls) (g.B.CallDoor.turned c.loop-n.calls)) c.loop-n.invariant.goes)

pub returns-in-Ok-clause-ends : goal.returns-in-Ok-clause-ends
returns-in-Ok-clause-ends g c =
    let last : c.loop-n._n ≡ 999999 = omega (arith, c.loop-n-test.false, c.loop-n.auto._n-end) in
    spent_by (g.B.CallDoor.seat c.args.calls.now) c.loop-n.count c.answer_next-2.new.count c.in-Ok.field-0 c.loop-n.reader c.answer_next-2.new.reader (ends_told (g.I.Source.account c.args.input.now) (g.O.Sink.account c.args.output.now) (g.B.CallDoor.said c.args.calls.now) (g.B.CallDoor.turned c.args.calls.now)) (ends_told (g.I.Source.account c.loop-n.input) (g.O.Sink.account c.loop-n.output) (g.B.CallDoor.said c.loop-n.calls) (g.B.CallDoor.turned c.loop-n.calls)) (ends_told (g.I.Source.account c.answer_next-2.new.input) (g.O.Sink.account c.answer_next-2.new.output) (g.B.CallDoor.said c.answer_next-2.new.calls) (g.B.CallDoor.turned c.answer_next-2.new.calls)) (rw last at c.loop-n.invariant.goes) (rw c.loop-n.invariant.seat at c.in-Ok.ensures.turn)

pub returns-in-Err-answer_next-clause-ends : goal.returns-in-Err-answer_next-clause-ends
returns-in-Err-answer_next-clause-ends g c = ends_by c.in-Err-answer_next.end (g.B.CallDoor.seat c.args.calls.now) c.loop-n._n c.loop-n.count c.loop-n.reader (ends_told (g.I.Source.account c.args.input.now) (g.O.Sink.account c.args.output.now) (g.B.CallDoor.said c.args.calls.now) (g.B.CallDoor.turned c.args.calls.now)) (ends_told (g.I.Source.account c.loop-n.input) (g.O.Sink.account c.loop-n.output) (g.B.CallDoor.said c.loop-n.calls) (g.B.CallDoor.turned c.loop-n.calls)) (ends_told (g.I.Source.account c.answer_next-2.new.input) (g.O.Sink.account c.answer_next-2.new.output) (g.B.CallDoor.said c.answer_next-2.new.calls) (g.B.CallDoor.turned c.answer_next-2.new.calls)) c.loop-n.invariant.goes (rw c.loop-n.invariant.seat at c.in-Err-answer_next.ensures.turn) (omega (arith, c.loop-n.auto._n-end))
