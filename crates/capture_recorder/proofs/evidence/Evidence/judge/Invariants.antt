use Rattle.std.proofs.Common.{◌≡◌, drop}
use Rattle.capture_recorder.specs.Gathering.{lists_of, refusal}
use Rattle.capture_recorder.proofs.evidence.Evidence.judge.Given as goal

abbrev pub invariant-loop-session : goal.invariant-loop-session
invariant-loop-session l = refusal l.self.start.rows l.self.calls l.session (lists_of (drop l.session l.turned)) ≡ refusal l.self.start.rows l.self.calls 0 (lists_of l.turned)
