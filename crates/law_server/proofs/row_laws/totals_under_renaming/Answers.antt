use Rattle.law_server.proofs.Rows.Totals.{same_total}
use Rattle.law_server.proofs.row_laws.totals_under_renaming.Goals as goal

pub returns : goal.returns
returns c = λ pairs level binds sent t rows others given bags. same_total pairs level binds sent given t rows others bags
