use Rattle.std.proofs.Common.{◌≡◌, length}
use Rattle.desk_values.specs.Fields.{pieces}
use Rattle.desk_values.specs.Reading.{each_of}
use Rattle.desk_values.proofs.Cuts.{onto_items}
use Rattle.capture_format.proofs.separated.read_pieces.Given as goal

-- what is read so far, and what is left to read
abbrev pub invariant-loop-piece : goal.invariant-loop-piece
invariant-loop-piece g l = onto_items l.items (each_of g.T.Piece.reading (pieces l.separator l.rest)) ≡ each_of g.T.Piece.reading (pieces l.separator l.bytes)

abbrev pub decreases-loop-piece : goal.decreases-loop-piece
decreases-loop-piece g l = length l.rest
