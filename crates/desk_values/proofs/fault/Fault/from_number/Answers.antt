use Rattle.std.proofs.Common.{sym, ap, ◌∙◌}
use Rattle.desk_values.specs.Fault.{fault_numbered}
use Rattle.desk_values.proofs.Faults.{numbered_some, numbered_again}
use Rattle.desk_values.proofs.fault.Fault.from_number.Goals as goal

pub returns-clause-some : goal.returns-clause-some
returns-clause-some c = numbered_some c.args.number c.numbered.result c.numbered.ensures

pub returns-clause-only : goal.returns-clause-only
returns-clause-only c = λ fault e. c.numbered.ensures ∙ sym (ap fault_numbered e) ∙ numbered_again fault
