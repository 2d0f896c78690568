use Rattle.std.proofs.Common.{◌∙◌, arith, List, ℕ, ap}
use Rattle.lock_table.specs.Holds.{holder_of_row}
use Rattle.lock_table.proofs.locks.add.Goals as goal

pub add_within-requires-clause-free : goal.add_within-requires-clause-free
add_within-requires-clause-free c = ap (λ (rows : List (ℕ × ℕ)). holder_of_row rows c.args.row) c.reserve.ensures.entries ∙ c.requires

pub returns-clause-room : goal.returns-clause-room
returns-clause-room c = omega (arith, c.add_within.ensures.room, c.reserve.ensures.room.0)
