use Rattle.std.proofs.Common.{◌≡◌, ◌++◌, take}
use Rattle.std.specs.List.{flat_map}
use Rattle.desk_values.specs.declared.value.Image.{Image}
use Rattle.replay_history.specs.Texts.{line, row_text}
use Rattle.replay_report.proofs.texts.append_rows.Given as goal

abbrev pub invariant-loop-row : goal.invariant-loop-row
invariant-loop-row l = l.to ≡ l.fn.to ++ flat_map (λ (image : Image). line (row_text image)) (take l.row-index l.rows)
