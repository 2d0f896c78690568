use Rattle.std.proofs.Common.{take}
use Rattle.run_files.specs.Inside.Times.{AreTimesOf}
use Rattle.run_files.proofs.times.times_of.Given as goal

abbrev pub invariant-loop-event : goal.invariant-loop-event
invariant-loop-event l = AreTimesOf l.kind (take l.event-index l.history) l.calls l.times.items
