use Rattle.std.proofs.Common.{◌≡◌, ◌-◌, ◌++◌, map}
use Rattle.std.specs.List.{range_with_len}
use Rattle.desk_values.specs.declared.capture.Captured.{Captured}
use Rattle.desk_values.specs.Room.{Room}
use Rattle.captured_calls.specs.Sessions.{calls_of, session_lists}
use Rattle.capture_recorder.proofs.sessions.sessions_of.Given as goal

abbrev pub invariant-loop-session : goal.invariant-loop-session
invariant-loop-session l = map (λ (list : Room Captured). list.items) l.lists ++ map (λ session. calls_of session l.calls.items) (range_with_len l.session (l.count - l.session)) ≡ session_lists l.count l.calls.items
