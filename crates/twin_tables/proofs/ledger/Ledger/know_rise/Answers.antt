use Rattle.std.proofs.Common.{subst}
use Rattle.row_versions.specs.History.{History}
use Rattle.twin_tables.specs.Ledger.{NumbersRise}
use Rattle.twin_tables.proofs.ledger.Ledger.know_rise.Goals as goal

pub returns : goal.returns
returns c = subst (λ (h : History). NumbersRise 0 h.list) c.self.view_is c.self.invariant.1
