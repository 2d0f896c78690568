use Rattle.captured_calls.proofs.Sameness.{reply_decided, value_decided}
use Rattle.captured_calls.proofs.laws.tests_tell_equality.Goals as goal

pub returns-clause-values : goal.returns-clause-values
returns-clause-values c = value_decided

pub returns-clause-replies : goal.returns-clause-replies
returns-clause-replies c = reply_decided
