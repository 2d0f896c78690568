use Rattle.std.proofs.Common.{◌+◌, ◌<◌, ap, subst, sym, ◌∙◌}
use Rattle.desk_values.specs.Good.{HasGoodShape}
use Rattle.server_words.specs.Machine.{Running}
use Rattle.server_words.specs.Step.{Gives}
use Rattle.machine_model.proofs.Telling.{followed, followed_sound, replied, replied_well}
use Rattle.machine_model.proofs.machine.PlainMachine.step_copies.Goals as goal

pub follow-requires-clause-steps : goal.follow-requires-clause-steps
follow-requires-clause-steps c = subst (λ (r : Running). r.steps < 1048576) (sym c.decision.ensures.same) c.requires.steps

pub follow-requires-clause-sound : goal.follow-requires-clause-sound
follow-requires-clause-sound c = followed_sound c.decision.new.self.state c.args.session c.args.call.now c.in_ok-decision.decision c.in_ok-decision.ensures.decides c.decision.ensures.sound

pub know_good-requires : goal.know_good-requires
know_good-requires c = subst HasGoodShape (sym c.in_ok-first.ensures.reply) (replied_well c.decision.new.self.state c.args.session c.args.call.now c.in_ok-decision.decision c.in_ok-decision.ensures.decides c.decision.ensures.sound)

pub returns-clause-ok : goal.returns-clause-ok
returns-clause-ok c = subst (λ (r : Running). Gives r.state c.args.session c.args.call.now c.in_ok-first.first c.follow.new.self.state) c.decision.ensures.same (
  c.in_ok-first.ensures.reply ∙ replied c.decision.new.self.state c.args.session c.args.call.now c.in_ok-decision.decision c.in_ok-decision.ensures.decides,
  ap (λ (r : Running). r.state) c.in_ok-first.ensures.ok ∙ followed c.decision.new.self.state c.args.session c.args.call.now c.in_ok-decision.decision c.in_ok-decision.ensures.decides,
)

pub returns-clause-steps : goal.returns-clause-steps
returns-clause-steps c = ap (λ (r : Running). r.steps) c.in_ok-first.ensures.ok ∙ ap (λ (r : Running). r.steps + 1) c.decision.ensures.same
