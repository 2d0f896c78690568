use Rattle.std.proofs.Common.{◌≡◌, length}
use Rattle.desk_values.specs.Fields.{pieces}
use Rattle.desk_values.specs.Reading.{value_of, each_of, items_of}
use Rattle.desk_values.proofs.Cuts.{onto_items}
use Rattle.desk_values.proofs.reading.items.Given as goal

-- what is read so far, and what is left to read
abbrev pub invariant-loop-item : goal.invariant-loop-item
invariant-loop-item l = onto_items l.values (each_of value_of (pieces 44 l.rest)) ≡ items_of l.bytes

abbrev pub decreases-loop-item : goal.decreases-loop-item
decreases-loop-item l = length l.rest
