use Rattle.capture_http.specs.Ends.{ends_told}
use Rattle.capture_http.proofs.Halting.{stuck_first}
use Rattle.capture_http.proofs.connection.answer_requests.Goals as goal

pub returns-in-Err-clause-ends : goal.returns-in-Err-clause-ends
returns-in-Err-clause-ends g c = stuck_first (g.B.CallDoor.seat c.args.calls.now) (ends_told (g.I.Source.account c.args.input.now) (g.O.Sink.account c.args.output.now) (g.B.CallDoor.said c.args.calls.now) (g.B.CallDoor.turned c.args.calls.now))
