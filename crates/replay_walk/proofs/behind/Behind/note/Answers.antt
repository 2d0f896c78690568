use Rattle.std.proofs.Common.{◌≡◌, ◌++◌, ◌∷◌, [], ◌∙◌, Bool, List, ap, refl}
use Rattle.std.proofs.lemmas.Bool.{both_ways}
use Rattle.replay_walk.proofs.behind.Behind.note.Goals as goal

pub returns-then-not-differs-clause-clean : goal.returns-then-not-differs-clause-clean
returns-then-not-differs-clause-clean c = c.in_ok-push.ensures.items ∙ ap (λ (b : Bool). c.args.self.now.clean.items ++ b ∷ []) c.clean-clean.ensures

pub returns-then-not-differs-clause-here : goal.returns-then-not-differs-clause-here
returns-then-not-differs-clause-here c = λ marked. absurd (both_ways _ c.if-not-differs.true marked)

pub returns-clause-clean : goal.returns-clause-clean
returns-clause-clean c = c.in_ok-push.ensures.items ∙ ap (λ (b : Bool). c.args.self.now.clean.items ++ b ∷ []) c.clean-clean.ensures

pub returns-clause-none : goal.returns-clause-none
returns-clause-none c = λ unmarked. absurd (both_ways _ unmarked c.if-not-differs.false)

pub returns-clause-here : goal.returns-clause-here
returns-clause-here c = λ marked. (c.in_ok-met.met, c.in_ok-met.ensures, c.in_ok-put.ensures.here)
