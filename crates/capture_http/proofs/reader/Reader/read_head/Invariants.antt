use Rattle.std.proofs.Common.{◌≡◌, ◌≤◌, ◌-◌, length, take}
use Rattle.http_requests.specs.Heads.{HasNoEnd}
use Rattle.capture_http.specs.Inside.{LosesNothing}
use Rattle.capture_http.proofs.reader.Reader.read_head.Given as goal

abbrev pub invariant-loop-request : goal.invariant-loop-request
invariant-loop-request g l = record {
  kept : LosesNothing l.fn.self (g.I.Source.account l.fn.input).content l.self (g.I.Source.account l.input).content;
  few : length l.self ≤ 73728;
  faults : (g.I.Source.account l.input).faults ≡ (g.I.Source.account l.fn.input).faults;
  within : l.searched ≤ length l.self;
  limit : l.searched ≤ 8192;
  endless : HasNoEnd (take l.searched l.self);
}

abbrev pub decreases-loop-request : goal.decreases-loop-request
decreases-loop-request g l = 73728 - length l.self
