use Rattle.std.proofs.Common.{◌≡◌, ◌++◌, drop}
use Rattle.std.specs.List.{filter_map}
use Rattle.server_words.specs.View.{key_of_table}
use Rattle.machine_model.proofs.viewing.add_keys_of.Given as goal

abbrev pub invariant-loop-one : goal.invariant-loop-one
invariant-loop-one l = l.to.items ++ filter_map (key_of_table l.table) (drop l.one-index l.held) ≡ l.fn.to.items ++ filter_map (key_of_table l.table) l.held
