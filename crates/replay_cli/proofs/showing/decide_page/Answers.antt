use Rattle.std.proofs.Common.{refl}
use Rattle.replay_cli.specs.Inside.Showing.{together_seen}
use Rattle.replay_cli.proofs.ShowSteps.{page_made}
use Rattle.replay_cli.proofs.showing.decide_page.Goals as goal

pub returns-clause-work : goal.returns-clause-work
returns-clause-work g c = (c.requires.out, record { captured = c.in_ok-found.ensures.whole.captured; replayed = c.in_ok-found.ensures.whole.left })

pub returns-clause-task : goal.returns-clause-task
returns-clause-task g c = (together_seen c.in_ok-found.found, c.in_ok-found.ensures.whole.together, refl, c.len-calls.ensures, c.len-divergent.ensures)

pub returns-clause-step : goal.returns-clause-step
returns-clause-step g c =
    rw (c.len-calls.ensures, c.len-divergent.ensures) (page_made c.args.capture c.args.out (together_seen c.in_ok-found.found) _ _ _ _ c.in_ok-found.ensures.step)
