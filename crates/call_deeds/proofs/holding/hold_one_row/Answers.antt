use Rattle.std.proofs.Common.{◌∷◌, ◌++◌, Bool, [], sym, ap, subst, ◌∙◌}
use Rattle.std.specs.Prelude.{if◌then◌else◌}
use Rattle.hold_index.specs.Told.{RowsMove}
use Rattle.call_deeds.proofs.holding.hold_one_row.Goals as goal

pub returns-then-has_row-clause-ok : goal.returns-then-has_row-clause-ok
returns-then-has_row-clause-ok c = sym (ap (λ (b : Bool). if b then c.args.held.now else c.args.held.now ++ c.args.row ∷ []) (sym c.has_row.ensures ∙ c.if-has_row.true))

pub returns-then-has_row-clause-told : goal.returns-then-has_row-clause-told
returns-then-has_row-clause-told c = λ rest prints are. are

pub returns-in_err-push-clause-told : goal.returns-in_err-push-clause-told
returns-in_err-push-clause-told c = subst (RowsMove c.args.holds.now c.args.holds.now c.args.session c.args.held.now) (sym c.in_err-push.ensures.err) (λ rest prints are. are)

pub returns-clause-ok : goal.returns-clause-ok
returns-clause-ok c = c.in_ok-push.ensures.ok ∙ sym (ap (λ (b : Bool). if b then c.args.held.now else c.args.held.now ++ c.args.row ∷ []) (sym c.has_row.ensures ∙ c.if-has_row.false))

pub returns-clause-told : goal.returns-clause-told
returns-clause-told c = subst (RowsMove c.args.holds.now c.hold_row.new.self c.args.session c.args.held.now) (sym c.in_ok-push.ensures.ok) (c.hold_row.ensures c.args.held.now)
