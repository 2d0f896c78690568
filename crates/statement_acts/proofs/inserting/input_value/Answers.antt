use Rattle.std.proofs.Common.{sym}
use Rattle.found_rows.proofs.Adding.{noted_ok}
use Rattle.statement_acts.proofs.inserting.input_value.Goals as goal

pub returns-in_ok-value-in-Next-clause-faults : goal.returns-in_ok-value-in-Next-clause-faults
returns-in_ok-value-in-Next-clause-faults c = sym (rw c.in-Next.is (noted_ok _ _))
