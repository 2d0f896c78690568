use Rattle.std.proofs.Common.{Err, sym, ap, ◌∙◌}
use Rattle.sql_eval.specs.Faults.{noted}
use Rattle.server_words.specs.Found.{sound}
use Rattle.found_rows.proofs.Adding.{noted_ok}
use Rattle.found_rows.proofs.found.total_value.Goals as goal

pub returns-in-Ok-clause-faults : goal.returns-in-Ok-clause-faults
returns-in-Ok-clause-faults c = sym (rw c.in-Ok.ensures.ok (noted_ok _ _))

pub returns-in-Err-Refused-clause-value : goal.returns-in-Err-Refused-clause-value
returns-in-Err-Refused-clause-value c = sym (ap sound ((c.in-Err-Refused.ensures.refused c.in-Err-Refused.fault).0 (ap Err c.in-Err-Refused.field-0-is)))

pub returns-in-Err-Refused-clause-faults : goal.returns-in-Err-Refused-clause-faults
returns-in-Err-Refused-clause-faults c = c.with_fault.ensures.value ∙ sym (ap (noted c.args.faults) ((c.in-Err-Refused.ensures.refused c.in-Err-Refused.fault).0 (ap Err c.in-Err-Refused.field-0-is)))
