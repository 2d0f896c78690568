use Rattle.law_commands.proofs.Commands.Ends.{journal_tells, one_told, plan_tells, sent_journal_tells, sent_plan_tells}
use Rattle.law_commands.proofs.command_laws.journals_tell_their_history.Goals as goal

pub returns-clause-journal : goal.returns-clause-journal
returns-clause-journal c = journal_tells

pub returns-clause-sent : goal.returns-clause-sent
returns-clause-sent c = sent_journal_tells

pub returns-clause-plan : goal.returns-clause-plan
returns-clause-plan c = plan_tells

pub returns-clause-sent_plan : goal.returns-clause-sent_plan
returns-clause-sent_plan c = sent_plan_tells

pub returns-clause-told : goal.returns-clause-told
returns-clause-told c = one_told c.one_list_of_plain_reads.ensures c.one_list_of_causes.ensures
