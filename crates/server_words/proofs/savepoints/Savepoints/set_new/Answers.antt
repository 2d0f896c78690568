use Rattle.std.proofs.Common.{◌∙◌, List, [], ◌∷◌, ◌++◌, ap}
use Rattle.server_words.specs.declared.session.Savepoint.{Savepoint}
use Rattle.server_words.proofs.Marks.{set_new}
use Rattle.server_words.proofs.savepoints.Savepoints.set_new.Goals as goal

pub returns-clause-ok : goal.returns-clause-ok
returns-clause-ok c =
    c.in_ok-push.ensures.items ∙ ap (λ (l : List Savepoint). l ++ c.args.savepoint ∷ []) c.self.view_is ∙ set_new c.args.self.now c.args.savepoint c.requires
