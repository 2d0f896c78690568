use Rattle.std.proofs.Common.{◌≡◌, [], take, drop}
use Rattle.captured_calls.specs.Tests.{bad_ids, first_refused}
use Rattle.prepare_plan.proofs.known.judge_ids.Given as goal

abbrev pub invariant-loop-k : goal.invariant-loop-k
invariant-loop-k l = first_refused (bad_ids l.rows) (take l.k l.calls) (drop l.k l.calls) ≡ first_refused (bad_ids l.rows) [] l.calls
