use Rattle.std.proofs.Common.{◌∙◌, ap, sym, subst, ℕ, List}
use Rattle.statement_cache.specs.Kept.{AreRight, Texts, outcome_of_text}
use Rattle.statement_cache.proofs.statements.Statements.find.Goals as goal

pub returns-then-is_of : goal.returns-then-is_of
returns-then-is_of c = λ schema right.
    let all : AreRight schema c.self.inside.known.entries = subst (λ (texts : Texts). AreRight schema texts) (sym c.self.view_is) right in
    ap (λ (t : List ℕ). outcome_of_text schema t c.args.binds.now) (sym (c.is_of.ensures.text c.if-is_of.true))
    ∙ all _ c.in_ok-known.known.now (sym c.in_ok-known.ensures.value) c.args.binds.now (c.is_of.ensures.kinds c.if-is_of.true)
