use Rattle.std.proofs.Common.{None, ap, sym, ◌∙◌}
use Rattle.server_words.specs.declared.session.Session.{Session}
use Rattle.machine_model.proofs.Telling.{unsound_told}
use Rattle.machine_model.proofs.machine.PlainMachine.unsound.Goals as goal

pub returns-in-Some : goal.returns-in-Some
returns-in-Some c = λ table. unsound_told c.args.self.now.state c.args.session table c.args.fault _ c.refused.result (ap (λ (s : Session). s.rights) (sym c.session.ensures) ∙ c.in-Some.is) c.refused.ensures

pub returns-in-None : goal.returns-in-None
returns-in-None c = λ table. unsound_told c.args.self.now.state c.args.session table c.args.fault None c.refused-in-None.result (ap (λ (s : Session). s.rights) (sym c.session.ensures) ∙ c.in-None.is) c.refused-in-None.ensures
