use Rattle.std.proofs.Common.{◌≡◌, ◌++◌, drop}
use Rattle.machine_model.specs.Footing.{rows_held}
use Rattle.machine_model.proofs.viewing.add_rows.Given as goal

abbrev pub invariant-loop-session : goal.invariant-loop-session
invariant-loop-session l = l.to.items ++ rows_held (drop l.session-index l.sessions) ≡ l.fn.to.items ++ rows_held l.sessions
