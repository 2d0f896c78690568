use Rattle.std.proofs.Common.{◌≡◌, subst}
use Rattle.statement_cache.specs.Kept.{outcome_of, outcome_of_text}
use Rattle.server_words.specs.Machine.{Running}
use Rattle.machine_model.proofs.machine.PlainMachine.sql.Goals as goal

pub returns-in-Some : goal.returns-in-Some
returns-in-Some c = c.kept.ensures c.args.text.now
    (subst (λ (r : Running). outcome_of_text r.state.start.schema c.args.text.now c.args.binds.now ≡ outcome_of c.in-Some.kept.now) c.self.view_is (c.in-Some.ensures _ c.self.invariant.4))
