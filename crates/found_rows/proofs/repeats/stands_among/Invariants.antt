use Rattle.std.proofs.Common.{◌≡◌, drop, map}
use Rattle.std.specs.List.{list_any}
use denote.Ref.{Bor}
use Rattle.desk_values.specs.declared.value.Value.{Value}
use Rattle.desk_values.specs.Comparison.{same_key}
use Rattle.found_rows.proofs.repeats.stands_among.Given as goal

abbrev pub invariant-loop-other : goal.invariant-loop-other
invariant-loop-other l = list_any (same_key l.level l.key) (map (λ (key : Bor Value). key.now) (drop l.other-index l.keys)) ≡ list_any (same_key l.level l.key) (map (λ (key : Bor Value). key.now) l.keys)
