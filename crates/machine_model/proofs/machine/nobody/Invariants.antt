use Rattle.std.proofs.Common.{◌≡◌, replicate}
use Rattle.server_words.specs.State.{disconnected}
use Rattle.machine_model.proofs.machine.nobody.Given as goal

abbrev pub invariant-loop : goal.invariant-loop
invariant-loop l = l.sessions.items ≡ replicate l.counter disconnected
