use Rattle.std.proofs.Common.{◌≡◌, drop}
use Rattle.machine_stores.specs.Tables.{least_seen}
use Rattle.machine_stores.proofs.tables.least_seen.Given as goal

abbrev pub invariant-loop-session : goal.invariant-loop-session
invariant-loop-session l = least_seen l.least (drop l.session-index l.sessions) ≡ least_seen l.count l.sessions
