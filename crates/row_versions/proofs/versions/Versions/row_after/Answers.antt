use Rattle.std.proofs.Common.{None, Some, subst}
use Rattle.row_versions.specs.History.{History, IsNextRow}
use Rattle.row_versions.proofs.Chains.{none_after, some_after}
use Rattle.row_versions.proofs.versions.Versions.row_after.Goals as goal

pub returns-in_err-next : goal.returns-in_err-next
returns-in_err-next c =
    rw c.from_residual.ensures (subst (λ (h : History). IsNextRow h.list c.args.row None) c.self.view_is
    (none_after c.self.inside.list.items c.self.inside.last c.args.row c.self.invariant (λ other less. (c.range.ensures.in_range tt).5 c.in_err-next.ensures.steps.0 other (less, tt))))

pub returns : goal.returns
returns c =
    let first = rw c.in_ok-next.ensures.steps at (c.range.ensures.in_range tt).1 in
    let least = rw c.in_ok-next.ensures.steps at (c.range.ensures.in_range tt).2 in
    subst (λ (h : History). IsNextRow h.list c.args.row (Some c.in_ok-next.next.now)) c.self.view_is
    (some_after c.self.inside.list.items c.self.inside.last c.args.row c.in_ok-next.next.now c.in_ok-next.field-0-1.now c.self.invariant first.0.0 first.1 (λ other less some. least other (less, tt) some))
