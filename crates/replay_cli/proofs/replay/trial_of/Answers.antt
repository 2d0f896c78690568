use Rattle.std.proofs.Common.{◌∙◌, ap, map}
use Rattle.replay_job.specs.Jobs.{plain_fact}
use Rattle.replay_job.proofs.Jobs.{trial_sound}
use Rattle.replay_cli.proofs.replay.trial_of.Goals as goal

pub returns-clause-sound : goal.returns-clause-sound
returns-clause-sound c =
    trial_sound c.args.start.now c.in_ok-begins.begins c.in_ok-target.target c.args.calls.now.items c.in_ok-copies.copies.items c.in_ok-facts.facts c.none.result c.know_rules.ensures c.in_ok-begins.ensures c.in_ok-target.ensures c.in_ok-copies.ensures (c.in_ok-facts.ensures ∙ ap (map plain_fact) c.as_slice.ensures) c.requires.legal c.requires.moments
