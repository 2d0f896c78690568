use Rattle.std.proofs.Common.{◌∙◌, List, [], ◌∷◌, ◌++◌, length, length-append, ap, arith}
use Rattle.std.specs.List.{remove}
use Rattle.server_words.specs.declared.session.Savepoint.{Savepoint}
use Rattle.server_words.proofs.Marks.{found_stands, set_over}
use Rattle.server_words.proofs.savepoints.Savepoints.set_over.Goals as goal

pub remove-requires : goal.remove-requires
remove-requires c =
    let point = c.args.savepoint in
    let within = (found_stands point.name point.own c.args.self.now c.args.place c.requires).0 in
    let pushed = ap (λ (l : List Savepoint). length l) (c.in_ok-push.ensures.items ∙ ap (λ (l : List Savepoint). l ++ point ∷ []) c.self.view_is) in
    omega (arith, within, pushed, length-append c.args.self.now (point ∷ []))

pub returns-clause-ok : goal.returns-clause-ok
returns-clause-ok c =
    let point = c.args.savepoint in
    let pushed = c.in_ok-push.ensures.items ∙ ap (λ (l : List Savepoint). l ++ point ∷ []) c.self.view_is in
    c.remove.ensures.items ∙ ap (λ (l : List Savepoint). remove l c.args.place) pushed ∙ set_over c.args.self.now point c.args.place c.requires
