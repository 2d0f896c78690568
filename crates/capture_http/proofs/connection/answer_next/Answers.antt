use Rattle.std.proofs.Common.{refl, sym, ◌∙◌}
use Rattle.capture_http.specs.Ends.{ends_told}
use Rattle.capture_http.proofs.Taking.{answering, failing, shortening, stopping, unwritten, written}
use Rattle.capture_http.proofs.connection.answer_next.Goals as goal

pub returns-in-Err-clause-turn : goal.returns-in-Err-clause-turn
returns-in-Err-clause-turn g c = stopping c.in-Err.end (g.B.CallDoor.seat c.args.calls.now) c.args.count.now c.args.reader.now c.next_request.new.self (ends_told (g.I.Source.account c.args.input.now) (g.O.Sink.account c.args.output.now) (g.B.CallDoor.said c.args.calls.now) (g.B.CallDoor.turned c.args.calls.now)) (ends_told (g.I.Source.account c.next_request.new.input) (g.O.Sink.account c.args.output.now) (g.B.CallDoor.said c.args.calls.now) (g.B.CallDoor.turned c.args.calls.now)) c.in-Err.ensures.kept c.in-Err.ensures.few c.in-Err.ensures.came (record { output = refl; stands = refl }) refl refl

pub returns-in-Err-react-clause-turn : goal.returns-in-Err-react-clause-turn
returns-in-Err-react-clause-turn g c =
    let read = c.in-Ok.ensures in
    let before = ends_told (g.I.Source.account c.args.input.now) (g.O.Sink.account c.args.output.now) (g.B.CallDoor.said c.args.calls.now) (g.B.CallDoor.turned c.args.calls.now) in
    let after = ends_told (g.I.Source.account c.next_request.new.input) (g.O.Sink.account c.args.output.now) (g.B.CallDoor.said c.react.new.calls) (g.B.CallDoor.turned c.react.new.calls) in
    shortening (g.B.CallDoor.seat c.args.calls.now) c.args.count.now c.in-Err-react.field-0 c.args.reader.now c.next_request.new.self c.in-Ok.request before after (record { loses = read.kept; few = read.few; whole = read.came.0; input = read.came.1 }) (rw (c.bytes.ensures, c.len.ensures) at c.in-Err-react.ensures.reacts) (record { output = refl; stands = refl })

pub returns-then-is_err-clause-turn : goal.returns-then-is_err-clause-turn
returns-then-is_err-clause-turn g c =
    let read = c.in-Ok.ensures in
    let before = ends_told (g.I.Source.account c.args.input.now) (g.O.Sink.account c.args.output.now) (g.B.CallDoor.said c.args.calls.now) (g.B.CallDoor.turned c.args.calls.now) in
    let after = ends_told (g.I.Source.account c.next_request.new.input) (g.O.Sink.account c.write-written.new.self) (g.B.CallDoor.said c.react.new.calls) (g.B.CallDoor.turned c.react.new.calls) in
    failing (g.B.CallDoor.seat c.args.calls.now) c.args.count.now c.args.reader.now c.next_request.new.self c.in-Ok.request c.in-Ok-react.reaction before after (record { loses = read.kept; few = read.few; whole = read.came.0; input = read.came.1 }) (rw (c.bytes.ensures, c.len.ensures) at c.in-Ok-react.ensures.reacts) (rw c.as_slice.ensures at c.write-written.ensures.part) (unwritten c.write-written.result _ _ _ _ (sym c.is_err.ensures.value ∙ c.if-is_err.true) c.write-written.ensures.leaves)

pub returns-clause-turn : goal.returns-clause-turn
returns-clause-turn g c =
    let read = c.in-Ok.ensures in
    let before = ends_told (g.I.Source.account c.args.input.now) (g.O.Sink.account c.args.output.now) (g.B.CallDoor.said c.args.calls.now) (g.B.CallDoor.turned c.args.calls.now) in
    let after = ends_told (g.I.Source.account c.next_request.new.input) (g.O.Sink.account c.write-written.new.self) (g.B.CallDoor.said c.react.new.calls) (g.B.CallDoor.turned c.react.new.calls) in
    rw (c.take.ensures, c.len-2.ensures) (answering (g.B.CallDoor.seat c.args.calls.now) c.args.count.now c.counted.result c.args.reader.now c.next_request.new.self c.in-Ok.request c.in-Ok-react.reaction before after (record { loses = read.kept; few = read.few; whole = read.came.0; input = read.came.1 }) (rw (c.bytes.ensures, c.len.ensures) at c.in-Ok-react.ensures.reacts) c.counted.ensures (rw c.as_slice.ensures at (written c.write-written.result _ _ _ _ _ (sym c.is_err.ensures.value ∙ c.if-is_err.false) c.write-written.ensures.ok c.write-written.ensures.leaves)))
