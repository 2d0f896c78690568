use Rattle.captured_calls.proofs.Scanning.{none_told}
use Rattle.law_commands.proofs.Legality.Both.{stamp_at}
use Rattle.law_commands.proofs.Legality.Walks.{first_there, none_refused, refused_is}
use Rattle.law_commands.proofs.legality_laws.first_refused_by_place.Goals as goal

pub returns-clause-refused : goal.returns-clause-refused
returns-clause-refused c = λ test before calls refusal. (first_there test before calls refusal, refused_is test before calls refusal)

pub returns-clause-passed : goal.returns-clause-passed
returns-clause-passed c = λ test before calls. (none_told test before calls, none_refused test before calls)

pub returns-clause-stamps : goal.returns-clause-stamps
returns-clause-stamps c = λ calls k call good there. stamp_at calls k call good there
