use Rattle.std.proofs.Common.{◌≡◌, ◌++◌, drop, map}
use Rattle.server_words.specs.Views.{key_id}
use Rattle.machine_model.proofs.viewing.key_ids.Given as goal

abbrev pub invariant-loop-one : goal.invariant-loop-one
invariant-loop-one l = l.keys.items ++ map key_id (drop l.one-index l.held) ≡ map key_id l.held
