use Rattle.std.proofs.Common.{◌≡◌}
use Rattle.capture_http.specs.Ends.{ends_told}
use Rattle.capture_http.specs.Inside.{GoesOn}
use Rattle.capture_http.proofs.connection.answer_each.Given as goal

abbrev pub invariant-loop-n : goal.invariant-loop-n
invariant-loop-n g l = record {
  goes : GoesOn (g.B.CallDoor.seat l.fn.calls) l._n l.count l.reader (ends_told (g.I.Source.account l.fn.input) (g.O.Sink.account l.fn.output) (g.B.CallDoor.said l.fn.calls) (g.B.CallDoor.turned l.fn.calls)) (ends_told (g.I.Source.account l.input) (g.O.Sink.account l.output) (g.B.CallDoor.said l.calls) (g.B.CallDoor.turned l.calls));
  seat : g.B.CallDoor.seat l.calls ≡ g.B.CallDoor.seat l.fn.calls;
}
