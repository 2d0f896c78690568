use Rattle.std.proofs.Common.{◌≤◌, ◌∙◌, ℕ, ap, subst, sym}
use Rattle.row_versions.specs.History.{History, left_of, row_at}
use Rattle.machine_stores.proofs.Storing.{left_gone, left_there}
use Rattle.twin_tables.specs.Ledger.{told}
use Rattle.twin_tables.proofs.ledger.Ledger.row_at.Goals as goal
use Rattle.twin_tables.proofs.ledger.Ledger.row_at.Goals.{in_default-via-in-Some+else-is_some, in_default-via-in_default}

pub row_at-requires : goal.row_at-requires
row_at-requires c = subst (λ (h : History). h.floor ≤ c.args.number) (sym c.self.view_is) c.requires

pub returns-in-Some : goal.returns-in-Some
returns-in-Some c =
    sym (left_there c.in-Some.image.now (sym c.is_some.ensures ∙ c.if-is_some.true)) ∙ ap left_of c.in-Some.ensures
    ∙ ap (λ (h : History). told h.list c.args.number c.args.row) c.self.view_is

pub returns-in_default : goal.returns-in_default
returns-in_default c =
    let own = ap (λ (h : History). told h.list c.args.number c.args.row) c.self.view_is in
    elim c.in_default.branch [
      | in_default-via-in-Some+else-is_some w ↦ sym (left_gone w.in-Some.image.now (sym w.is_some.ensures ∙ w.if-is_some.false)) ∙ ap left_of w.in-Some.ensures ∙ own
      | in_default-via-in_default w ↦ ap left_of w.in_default.ensures ∙ own
    ]
