use Rattle.visited_rows.proofs.basis.row_under.Goals as goal

pub row_at-requires : goal.row_at-requires
row_at-requires c = c.requires.told.floor
