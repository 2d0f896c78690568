use Rattle.std.proofs.Common.{◌≡◌, ◌+◌, ◌<◌, IfOk, OnErr, subst, sym, ◌∙◌}
use Rattle.std.specs.Prelude.{OnOk}
use Rattle.machine_model.specs.declared.machine.Copies.{Copies}
use Rattle.server_words.specs.Machine.{Running}
use Rattle.server_words.specs.Step.{Gives}
use Rattle.txn_engine.specs.Reached.{IsReached}
use Rattle.txn_engine.proofs.Reaching.{reached_apart, reached_step}
use Rattle.txn_engine.proofs.Engine.step_copies.Goals as goal

pub note_apart-requires : goal.note_apart-requires
note_apart-requires c = reached_apart c.no_key_stands_twice.ensures.seen c.no_key_stands_twice.ensures.there c.self.inside.machine.state c.self.invariant

pub step_copies-requires-clause-steps : goal.step_copies-requires-clause-steps
step_copies-requires-clause-steps c = subst (λ (r : Running). r.steps < 1048576) (sym (c.note_apart.ensures ∙ c.self.view_is)) c.requires.steps

pub invariant_of-self : goal.invariant_of-self
invariant_of-self c = reached_step c.step_copies.result (λ (copies : Copies). copies.first) c.note_apart.new.self c.step_copies.new.self c.args.session c.args.call.now c.step_copies.ensures.ok c.step_copies.ensures.err (subst (λ (r : Running). IsReached r.state) (sym c.note_apart.ensures) c.self.invariant)

pub returns-clause-ok : goal.returns-clause-ok
returns-clause-ok c = subst (λ (r : Running). IfOk c.step_copies.result (λ (copies : Copies). Gives r.state c.args.session c.args.call.now copies.first c.step_copies.new.self.state)) (c.note_apart.ensures ∙ c.self.view_is) c.step_copies.ensures.ok

pub returns-clause-steps : goal.returns-clause-steps
returns-clause-steps c = subst (λ (r : Running). OnOk c.step_copies.result (c.step_copies.new.self.steps ≡ r.steps + 1)) (c.note_apart.ensures ∙ c.self.view_is) c.step_copies.ensures.steps

pub returns-clause-err : goal.returns-clause-err
returns-clause-err c = subst (λ (r : Running). OnErr c.step_copies.result (c.step_copies.new.self ≡ r)) (c.note_apart.ensures ∙ c.self.view_is) c.step_copies.ensures.err
