use Rattle.std.proofs.Common.{◌≡◌, ◌++◌, ◌∷◌, take}
use Rattle.std.specs.List.{flat_map}
use Rattle.desk_values.specs.Text.{value_text}
use Rattle.desk_values.specs.declared.value.Value.{Value}
use Rattle.desk_values.proofs.writing.push_more.Given as goal

abbrev pub invariant-loop-value : goal.invariant-loop-value
invariant-loop-value l = l.to ≡ l.initial.to ++ flat_map (λ (value : Value). 44 ∷ value_text value) (take l.value-index l.values)
