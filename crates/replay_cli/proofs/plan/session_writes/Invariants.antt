use Rattle.std.proofs.Common.{◌≡◌, ◌++◌, drop}
use Rattle.std.specs.List.{AllByRecursion}
use Rattle.capture_format.specs.SessionFile.{MayTellAll}
use Rattle.prepare_plan.specs.Lists.{lists_of}
use Rattle.captured_calls.specs.Sessions.{AreSessionsFrom}
use Rattle.replay_cli.specs.Done.{session_files}
use Rattle.replay_cli.proofs.plan.session_writes.Given as goal

abbrev pub invariant-loop-calls : goal.invariant-loop-calls
invariant-loop-calls l = record {
  written : l.writes ++ session_files l.out l.version l.calls-index (lists_of (drop l.calls-index l.lists)) ≡ session_files l.out l.version 0 (lists_of l.lists);
  session_is : l.session ≡ l.calls-index;
  rest : AreSessionsFrom l.calls-index (lists_of (drop l.calls-index l.lists));
  told : AllByRecursion (MayTellAll l.version) (lists_of (drop l.calls-index l.lists));
}
