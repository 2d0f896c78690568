use Rattle.replay_report.proofs.Classes.{none_gained}
use Rattle.replay_report.proofs.report.note_event.Goals as goal

pub returns-in-None-clause-pairs : goal.returns-in-None-clause-pairs
returns-in-None-clause-pairs c = none_gained c.args.calls.now c.args.map.now.pairs c.args.event.now c.in-Answer.stamp c.in-Answer.reply c.in-Answer.is c.in-None.ensures.lookup.3
