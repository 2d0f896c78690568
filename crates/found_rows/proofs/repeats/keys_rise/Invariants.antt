use Rattle.std.proofs.Common.{◌≡◌, length, map}
use denote.Ref.{Bor}
use Rattle.desk_values.specs.declared.value.Value.{Value}
use Rattle.server_words.specs.Inside.Repeats.{keys_rise}
use Rattle.found_rows.proofs.repeats.keys_rise.Given as goal

abbrev pub invariant-loop-rest : goal.invariant-loop-rest
invariant-loop-rest l = keys_rise l.level (map (λ (key : Bor Value). key.now) l.rest) ≡ keys_rise l.level (map (λ (key : Bor Value). key.now) l.fn.keys)

abbrev pub decreases-loop-rest : goal.decreases-loop-rest
decreases-loop-rest l = length l.rest
