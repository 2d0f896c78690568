use Rattle.std.proofs.Common.{arith}
use Rattle.capture_recorder.proofs.Connected.{connected_after}
use Rattle.capture_recorder.proofs.recorder.Recorder.record_own.Goals as goal

pub append-requires-clause-room : goal.append-requires-clause-room
append-requires-clause-room c =
    let r = c.args.self.now in
    omega (arith, c.requires.room, connected_after r.start r.calls r.state c.args.session c.args.call c.know_recording.ensures.reached)
