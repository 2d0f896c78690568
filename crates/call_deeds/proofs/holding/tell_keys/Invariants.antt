use Rattle.std.proofs.Common.{[], take}
use Rattle.hold_index.specs.Told.{PrintsMove}
use Rattle.machine_stores.specs.Holds.{prints_of}
use Rattle.call_deeds.proofs.holding.tell_keys.Given as goal

abbrev pub invariant-loop-held : goal.invariant-loop-held
invariant-loop-held l = PrintsMove l.fn.holds l.holds l.session [] (prints_of (take l.held-index l.keys))
