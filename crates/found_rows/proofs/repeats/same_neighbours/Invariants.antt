use Rattle.std.proofs.Common.{◌≡◌, length, map}
use denote.Ref.{Bor}
use Rattle.desk_values.specs.declared.value.Value.{Value}
use Rattle.server_words.specs.Inside.Repeats.{same_neighbours}
use Rattle.found_rows.proofs.repeats.same_neighbours.Given as goal

abbrev pub invariant-loop-rest : goal.invariant-loop-rest
invariant-loop-rest l = same_neighbours l.level (map (λ (key : Bor Value). key.now) l.rest) ≡ same_neighbours l.level (map (λ (key : Bor Value). key.now) l.fn.keys)

abbrev pub decreases-loop-rest : goal.decreases-loop-rest
decreases-loop-rest l = length l.rest
