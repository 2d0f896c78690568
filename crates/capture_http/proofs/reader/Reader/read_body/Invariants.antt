use Rattle.std.proofs.Common.{◌≡◌, ◌≤◌, ◌-◌, length}
use Rattle.http_requests.specs.Requests.{Begins}
use Rattle.capture_http.specs.Inside.{LosesNothing}
use Rattle.capture_http.proofs.reader.Reader.read_body.Given as goal

abbrev pub invariant-loop-self : goal.invariant-loop-self
invariant-loop-self g l = record {
  kept : LosesNothing l.fn.self (g.I.Source.account l.fn.input).content l.self (g.I.Source.account l.input).content;
  few : length l.self ≤ 73728;
  faults : (g.I.Source.account l.input).faults ≡ (g.I.Source.account l.fn.input).faults;
  begins : Begins l.self l.fn.request;
}

abbrev pub decreases-loop-self : goal.decreases-loop-self
decreases-loop-self g l = 73728 - length l.self
