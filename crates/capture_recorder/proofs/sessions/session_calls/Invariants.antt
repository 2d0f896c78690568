use Rattle.std.proofs.Common.{◌≡◌, ◌++◌, drop}
use Rattle.captured_calls.specs.Sessions.{calls_of}
use Rattle.capture_recorder.proofs.sessions.session_calls.Given as goal

abbrev pub invariant-loop-call : goal.invariant-loop-call
invariant-loop-call l = l.list.items ++ calls_of l.session (drop l.call-index l.calls) ≡ calls_of l.session l.calls
