use Rattle.std.proofs.Common.{◌≡◌, length}
use Rattle.desk_values.specs.Fields.{pieces}
use Rattle.capture_format.specs.ReplyReading.{open_rows_of}
use Rattle.desk_values.proofs.Cuts.{onto_items}
use Rattle.capture_format.proofs.reply.rows_in.Given as goal

-- what is read so far, and what is left to read
abbrev pub invariant-loop-row : goal.invariant-loop-row
invariant-loop-row l = onto_items l.rows (open_rows_of (pieces 93 l.rest)) ≡ open_rows_of (pieces 93 l.bytes)

abbrev pub decreases-loop-row : goal.decreases-loop-row
decreases-loop-row l = length l.rest
