use Rattle.std.proofs.Common.{◌≡◌, ◌++◌, take}
use Rattle.std.specs.List.{flat_map}
use Rattle.desk_values.specs.Text.{values_text}
use Rattle.capture_format.proofs.reply.push_row_texts.Given as goal

abbrev pub invariant-loop-row : goal.invariant-loop-row
invariant-loop-row l = l.to ≡ l.initial.to ++ flat_map values_text (take l.row-index l.rows)
