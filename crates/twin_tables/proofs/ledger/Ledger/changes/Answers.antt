use Rattle.std.proofs.Common.{◌∙◌, ap, subst}
use Rattle.row_versions.specs.History.{History}
use Rattle.twin_tables.specs.Ledger.{NumbersRise, changes_of}
use Rattle.twin_tables.proofs.ledger.Ledger.changes.Goals as goal

pub returns-clause-changes : goal.returns-clause-changes
returns-clause-changes c = c.as_slice.ensures.value ∙ c.self.invariant.0 ∙ ap (λ (h : History). changes_of h.list) c.self.view_is

pub returns-clause-rise : goal.returns-clause-rise
returns-clause-rise c = subst (λ (h : History). NumbersRise 0 h.list) c.self.view_is c.self.invariant.1
