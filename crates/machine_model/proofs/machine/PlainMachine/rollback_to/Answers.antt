use Rattle.std.proofs.Common.{◌≡◌, ◌∙◌, List, None, Some, sym, ap}
use Rattle.std.specs.Prelude.{slice_index_or}
use Rattle.std.specs.List.{position}
use Rattle.server_words.specs.declared.session.Savepoint.{Savepoint}
use Rattle.server_words.specs.declared.session.Session.{Session}
use Rattle.server_words.specs.Savepoints.{is_named}
use Rattle.server_words.specs.View.{view_of}
use Rattle.server_words.proofs.Marks.{told_back, told_missing}
use Rattle.machine_model.proofs.machine.PlainMachine.rollback_to.Goals as goal

pub returns-in_ok-own-in-Some : goal.returns-in_ok-own-in-Some
returns-in_ok-own-in-Some c =
    let view = view_of c.args.self.now.state c.args.session None in
    let name = c.args.name.now in
    let place = c.in-Some.place in
    let mine : c.session.result.now.savepoints ≡ view.savepoints = ap (λ (s : Session). s.savepoints) c.session.ensures in
    let found : Some place ≡ position (is_named name) view.savepoints = sym c.in-Some.is ∙ c.place_of.ensures.place ∙ ap (λ (l : List Savepoint). position (is_named name) l) mine in
    let there = c.index-as_slice-place.is ∙ ap (λ (l : List Savepoint). slice_index_or l place c.index-as_slice-place.result) (c.as_slice.ensures ∙ mine) in
    rw c.answered.ensures (told_back view name place c.in_ok-own-in-Some.own _ found (c.in_ok-own-in-Some.ensures ∙ ap (λ (point : Savepoint). point.own) there))

pub returns-in-None : goal.returns-in-None
returns-in-None c =
    let view = view_of c.args.self.now.state c.args.session None in
    let name = c.args.name.now in
    let mine : c.session.result.now.savepoints ≡ view.savepoints = ap (λ (s : Session). s.savepoints) c.session.ensures in
    rw c.answered-in-None.ensures (told_missing view name (sym c.in-None.is ∙ c.place_of.ensures.place ∙ ap (λ (l : List Savepoint). position (is_named name) l) mine))
