use Rattle.std.proofs.Common.{◌≡◌, replicate}
use Rattle.machine_stores.specs.Inside.Tables.{no_versions}
use Rattle.machine_stores.proofs.tables.empty_tables.Given as goal

abbrev pub invariant-loop : goal.invariant-loop
invariant-loop l = l.tables.items ≡ replicate l.counter no_versions
