use Rattle.divergence.proofs.Bags.RowOrder.{row_decides}
use Rattle.divergence.proofs.Bags.SameImages.{left_decides}
use Rattle.divergence.proofs.bag_laws.rows_are_told_apart.Goals as goal

pub returns : goal.returns
returns c = record { rows = row_decides; left = left_decides }
