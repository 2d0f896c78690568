use Rattle.std.proofs.Common.{◌≡◌, ◌++◌, drop}
use Rattle.server_words.specs.View.{keys_held}
use Rattle.machine_model.proofs.viewing.add_keys.Given as goal

abbrev pub invariant-loop-session : goal.invariant-loop-session
invariant-loop-session l = l.to.items ++ keys_held (drop l.session-index l.sessions) l.table ≡ l.fn.to.items ++ keys_held l.sessions l.table
