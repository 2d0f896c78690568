use Rattle.std.proofs.Common.{◌≡◌, drop}
use Rattle.capture_recorder.specs.Gathering.{refusal_in}
use Rattle.capture_recorder.proofs.evidence.Evidence.judge_in.Given as goal

abbrev pub invariant-loop-n : goal.invariant-loop-n
invariant-loop-n l = refusal_in l.self.start.rows l.self.calls l.session l.n (drop l.n l.entries) ≡ refusal_in l.self.start.rows l.self.calls l.session 0 l.entries
