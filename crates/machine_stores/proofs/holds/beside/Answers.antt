use Rattle.std.proofs.Common.{◌≡◌, ◌+◌, ◌++◌, ◌∷◌, List, take, drop, get_or, sym, ap, subst, ◌∙◌}
use Rattle.std.proofs.lemmas.List.{get_or_default}
use Rattle.server_words.specs.declared.session.Session.{Session}
use Rattle.server_words.specs.State.{disconnected}
use Rattle.machine_stores.specs.Holds.{AreHeld}
use Rattle.machine_stores.proofs.Held.{whole}
use Rattle.machine_stores.proofs.holds.beside.Goals as goal

pub returns-clause-beside : goal.returns-clause-beside
returns-clause-beside c =
    let sessions = c.args.sessions.now in
    let s = c.args.session in
    let mine = get_or sessions s disconnected in
    let same : take s sessions ++ mine ∷ drop (s + 1) sessions ≡ c.first_of.result.now ++ mine ∷ c.rest_of.result.now = ap (λ (l : List Session). l ++ mine ∷ drop (s + 1) sessions) (sym c.first_of.ensures) ∙ ap (λ (l : List Session). c.first_of.result.now ++ mine ∷ l) (sym c.rest_of.ensures) in
    (mine, subst (AreHeld c.args.holds.now) (sym (whole sessions s mine c.requires.within (get_or_default sessions s mine disconnected c.requires.within)) ∙ same) c.requires.held)
