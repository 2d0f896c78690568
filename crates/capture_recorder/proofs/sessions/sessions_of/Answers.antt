use Rattle.std.proofs.Common.{◌∙◌, ◌+◌, ◌-◌, ◌++◌, List, map, ap}
use Rattle.std.specs.List.{range_with_len}
use Rattle.desk_values.specs.Room.{Room}
use Rattle.desk_values.specs.declared.capture.Captured.{Captured}
use Rattle.captured_calls.specs.Sessions.{calls_of, session_lists}
use Rattle.capture_recorder.proofs.Files.{lists_more}
use Rattle.capture_recorder.proofs.sessions.sessions_of.Goals as goal

pub loop-session-preserved : goal.loop-session-preserved
loop-session-preserved c =
    let calls = c.args.calls.now.items in
    let session = c.loop-session.session in
    let are = c.in_ok-session_calls.ensures ∙ ap (calls_of session) c.as_slice.ensures in
    ap (λ (lists : List (Room Captured)). map (λ (r : Room Captured). r.items) lists ++ map (λ s. calls_of s calls) (range_with_len (session + 1) (c.args.count - (session + 1)))) c.in_ok-push.ensures.ok
    ∙ lists_more c.loop-session.lists c.in_ok-session_calls.field-0 calls session c.args.count (session_lists c.args.count calls) c.loop-session-test.true are c.loop-session.invariant
