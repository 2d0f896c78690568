use Rattle.law_replays.proofs.End.Whole.{captured_one, each_once, only_calls, stages_one}
use Rattle.law_replays.proofs.end_laws.complete_runs_answer_each_call.Goals as goal

pub returns-clause-each : goal.returns-clause-each
returns-clause-each c = each_once

pub returns-clause-only : goal.returns-clause-only
returns-clause-only c = only_calls

pub returns-clause-stage : goal.returns-clause-stage
returns-clause-stage c = stages_one

pub returns-clause-captured : goal.returns-clause-captured
returns-clause-captured c = captured_one
