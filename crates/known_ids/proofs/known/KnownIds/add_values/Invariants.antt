use Rattle.std.proofs.Common.{ℕ, ◌≤◌, ◌<◌, List, ◌++◌, take}
use Rattle.desk_values.specs.declared.value.Value.{Value}
use Rattle.known_ids.specs.Knowing.{KnowsJust}
use Rattle.known_ids.proofs.known.KnownIds.add_values.Given as goal

abbrev pub invariant-loop-value : goal.invariant-loop-value
invariant-loop-value l = record {
  then_on : (count : ℕ) (known : List Value) → l.since ≤ count → KnowsJust l.initial.self count known → KnowsJust l.self count (known ++ take l.value-index l.values);
  before : (count : ℕ) (known : List Value) → count < l.since → KnowsJust l.initial.self count known → KnowsJust l.self count known;
}
