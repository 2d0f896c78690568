use Rattle.std.proofs.Common.{List, length, sym, ap, subst, ◌∙◌, arith}
use Rattle.server_words.specs.declared.session.Session.{Session}
use Rattle.server_words.specs.Machine.{Running}
use Rattle.server_words.specs.View.{others}
use Rattle.machine_stores.specs.Holds.{AreHeld}
use Rattle.machine_model.proofs.machine.PlainMachine.others.Goals as goal

pub beside-requires-clause-within : goal.beside-requires-clause-within
beside-requires-clause-within c = let count = ap length c.deref.ensures.value in omega (arith, c.self.invariant.0.sound.count, c.requires, count)

pub beside-requires-clause-held : goal.beside-requires-clause-held
beside-requires-clause-held c = subst (AreHeld c.self.inside.stores.holds) (sym c.deref.ensures.value) c.self.invariant.5

pub returns-clause-others : goal.returns-clause-others
returns-clause-others c =
    c.beside.ensures.others ∙ ap (λ (l : List Session). others l c.args.session) c.deref.ensures.value ∙ ap (λ (r : Running). others r.state.sessions c.args.session) c.self.view_is
