use Rattle.std.proofs.Common.{◌∙◌, sym}
use Rattle.replay_cli.proofs.Made.{files_made, four_lists, lists_made, told_made}
use Rattle.replay_cli.proofs.plan.lists_of.Goals as goal

pub returns-clause-lists : goal.returns-clause-lists
returns-clause-lists c = lists_made c.sessions_of.result c.calls.result.now.items c.args.calls c.sessions_of.ensures.lists (c.calls.ensures.value ∙ c.requires)

pub returns-clause-files : goal.returns-clause-files
returns-clause-files c = files_made c.sessions_of.result c.args.recorder.now c.calls.result.now.items c.sessions_of.ensures.files c.calls.ensures.valid (sym c.calls.ensures.value)

pub returns-clause-told : goal.returns-clause-told
returns-clause-told c = told_made c.sessions_of.result c.args.recorder.now c.calls.result.now.items c.sessions_of.ensures.told c.calls.ensures.valid (sym c.calls.ensures.value)

pub returns-clause-count : goal.returns-clause-count
returns-clause-count c = four_lists c.sessions_of.result c.calls.result.now.items c.sessions_of.ensures.lists
