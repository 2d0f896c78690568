use Rattle.std.proofs.Common.{◌≡◌, ◌++◌, drop, map}
use denote.Ref.{Bor}
use Rattle.desk_values.specs.declared.value.Value.{Value}
use Rattle.sql_eval.specs.Totals.{looked_at}
use Rattle.server_words.specs.Rows.{row_key}
use Rattle.found_rows.proofs.repeats.keys_of.Given as goal

abbrev pub invariant-loop-image : goal.invariant-loop-image
invariant-loop-image l = map (λ (key : Bor Value). key.now) l.keys.items ++ map row_key (looked_at (drop l.image-index l.rows)) ≡ map row_key (looked_at l.rows)
