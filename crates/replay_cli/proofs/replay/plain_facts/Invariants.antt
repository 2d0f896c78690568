use Rattle.std.proofs.Common.{◌≡◌, ◌++◌, drop, map}
use Rattle.replay_job.specs.Jobs.{plain_fact}
use Rattle.replay_cli.proofs.replay.plain_facts.Given as goal

abbrev pub invariant-loop-call : goal.invariant-loop-call
invariant-loop-call l = l.facts ++ map plain_fact (drop l.call-index l.calls) ≡ map plain_fact l.calls
