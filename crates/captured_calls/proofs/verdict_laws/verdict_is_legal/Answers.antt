use Rattle.captured_calls.proofs.Legality.{plan_calls, plan_legal, plan_sound}
use Rattle.captured_calls.proofs.verdict_laws.verdict_is_legal.Goals as goal

pub returns-clause-calls : goal.returns-clause-calls
returns-clause-calls c = λ start lists plan is. plan_calls start lists plan is

pub returns-clause-legal : goal.returns-clause-legal
returns-clause-legal c = λ start lists plan are count is. plan_legal start lists plan is are count

pub returns-clause-sound : goal.returns-clause-sound
returns-clause-sound c = λ start lists plan is. plan_sound start lists plan is
