use Rattle.replay_cli.proofs.Parts.{hosting_of}
use Rattle.replay_cli.proofs.Endings.{causes, told_each, told_ends}
use Rattle.replay_cli.proofs.Refusals.{only_no_command}
use Rattle.replay_cli.proofs.main_call.replay_main.Goals as goal

pub returns-clause-ends : goal.returns-clause-ends
returns-clause-ends g c = told_ends (hosting_of _ _ _ _ _ _ _ _) _ _ c.args.words.now _ _ c.run-done.result c.report.result _ _ _ _ c.run-done.ensures.says c.report.ensures.says

pub returns-clause-each : goal.returns-clause-each
returns-clause-each g c = told_each (hosting_of _ _ _ _ _ _ _ _) _ _ c.args.words.now _ _ c.report.result _ _ (told_ends (hosting_of _ _ _ _ _ _ _ _) _ _ c.args.words.now _ _ c.run-done.result c.report.result _ _ _ _ c.run-done.ensures.says c.report.ensures.says)

pub returns-clause-line : goal.returns-clause-line
returns-clause-line g c = (c.run-done.result, c.run-done.ensures.told, c.report.ensures.says, c.run-done.ensures.handed)

pub returns-clause-asks : goal.returns-clause-asks
returns-clause-asks g c = c.run-done.ensures.asks

pub returns-clause-causes : goal.returns-clause-causes
returns-clause-causes g c = causes c.args.words.now c.run-done.result c.report.result _ _ _ _ (hosting_of _ _ _ _ _ _ _ _) _ _ (only_no_command _ (hosting_of _ _ _ _ _ _ _ _) c.run-done.result c.run-done.ensures.told) c.run-done.ensures.faults c.run-done.ensures.dial c.report.ensures.says c.report.ensures.count
