use Rattle.std.proofs.Common.{◌≡◌, List, drop}
use Rattle.std.specs.List.{list_any}
use Rattle.desk_values.specs.declared.value.Value.{Value}
use Rattle.captured_calls.specs.Known.{is_stranger}
use Rattle.known_ids.specs.Knowing.{KnowsJust}
use Rattle.known_ids.proofs.known.KnownIds.is_any_stranger.Given as goal

abbrev pub invariant-loop-value : goal.invariant-loop-value
invariant-loop-value l = (known : List Value) → KnowsJust l.self l.count known → list_any (is_stranger known) (drop l.value-index l.values) ≡ list_any (is_stranger known) l.values
