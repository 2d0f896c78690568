use Rattle.std.proofs.Common.{subst, sym}
use Rattle.server_words.specs.Apart.{KeysAreApart}
use Rattle.server_words.specs.Machine.{Running}
use Rattle.machine_model.proofs.machine.PlainMachine.note_apart.Goals as goal

pub invariant_of-self : goal.invariant_of-self
invariant_of-self c = (
  c.self.invariant.0,
  c.self.invariant.1,
  c.self.invariant.2,
  c.self.invariant.3,
  c.self.invariant.4,
  c.self.invariant.5,
  λ is. subst (λ (r : Running). KeysAreApart r.state) (sym c.self.view_is) c.requires,
)
