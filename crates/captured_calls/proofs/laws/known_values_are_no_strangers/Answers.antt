use Rattle.captured_calls.proofs.Strangers.{known_tells, not_stranger}
use Rattle.captured_calls.proofs.laws.known_values_are_no_strangers.Goals as goal

pub returns-clause-known : goal.returns-clause-known
returns-clause-known c = not_stranger

pub returns-clause-only : goal.returns-clause-only
returns-clause-only c = λ rows calls k value good. (known_tells rows calls good k value).0
