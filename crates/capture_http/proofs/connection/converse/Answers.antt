use Rattle.capture_http.specs.Ends.{ends_told}
use Rattle.capture_http.proofs.Halting.{short_by}
use Rattle.capture_http.proofs.connection.converse.Goals as goal

pub returns-in-Memory-clause-ends : goal.returns-in-Memory-clause-ends
returns-in-Memory-clause-ends g c = short_by (g.B.CallDoor.seat c.args.calls.now) (ends_told (g.I.Source.account c.args.input.now) (g.O.Sink.account c.args.output.now) (g.B.CallDoor.said c.args.calls.now) (g.B.CallDoor.turned c.args.calls.now)) (g.I.Source.account c.answer_requests.new.input).content (g.I.Source.account c.answer_requests.new.input).faults (g.O.Sink.account c.answer_requests.new.output).content (g.O.Sink.account c.refuse.new.output).content (g.O.Sink.account c.answer_requests.new.output).faults (g.O.Sink.account c.refuse.new.output).faults (g.B.CallDoor.said c.answer_requests.new.calls) (g.B.CallDoor.turned c.answer_requests.new.calls) c.in-Memory.ensures.ends c.refuse.ensures
