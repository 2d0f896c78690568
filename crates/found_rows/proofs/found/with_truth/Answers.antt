use Rattle.std.proofs.Common.{sym}
use Rattle.found_rows.proofs.Adding.{noted_ok}
use Rattle.found_rows.proofs.found.with_truth.Goals as goal

pub returns-in-Ok : goal.returns-in-Ok
returns-in-Ok c = sym (rw c.in-Ok.is (noted_ok _ _))
