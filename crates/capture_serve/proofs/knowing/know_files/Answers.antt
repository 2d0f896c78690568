use Rattle.std.proofs.Common.{map}
use Rattle.capture_recorder.specs.Gathering.{lists_of}
use Rattle.capture_serve.proofs.Reading.{are_read}
use Rattle.capture_serve.proofs.knowing.know_files.Goals as goal

pub returns : goal.returns
returns c = are_read c.args.start.now.schema.version 0 (lists_of c.args.sessions.now) c.requires.lists c.requires.told (rw c.as_slice.ensures at c.all_have_limits.ensures.limits)
