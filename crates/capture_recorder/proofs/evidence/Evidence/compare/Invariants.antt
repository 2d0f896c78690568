use Rattle.std.proofs.Common.{◌≡◌, ◌-◌}
use Rattle.std.specs.List.{range_with_len}
use Rattle.capture_recorder.specs.Gathering.{first_of, lists_of, mismatch, mismatch_in}
use Rattle.capture_recorder.proofs.evidence.Evidence.compare.Given as goal

abbrev pub invariant-loop-session : goal.invariant-loop-session
invariant-loop-session l = first_of (mismatch_in l.self.calls (lists_of l.lists)) (range_with_len l.session (l.count - l.session)) ≡ mismatch l.self.calls (lists_of l.lists)
