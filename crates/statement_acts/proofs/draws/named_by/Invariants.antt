use Rattle.std.proofs.Common.{◌≡◌, drop, map}
use Rattle.std.specs.List.{list_any}
use Rattle.sql_tree.specs.Plain.{entry_of}
use Rattle.server_words.specs.Draws.{is_from}
use Rattle.statement_acts.proofs.draws.named_by.Given as goal

abbrev pub invariant-loop-input : goal.invariant-loop-input
invariant-loop-input l = list_any (is_from l.place) (map entry_of (drop l.input-index l.inputs)) ≡ list_any (is_from l.place) (map entry_of l.inputs)
