use Rattle.std.proofs.Common.{◌≡◌, ◌++◌, drop}
use Rattle.std.specs.List.{AllByRecursion}
use Rattle.prepare_plan.specs.Lists.{lists_of}
use Rattle.captured_calls.specs.Sessions.{AreSessionsFrom}
use Rattle.replay_page.specs.Captured.{AreSpelled, session_files}
use Rattle.replay_page.proofs.captured.session_files.Given as goal

abbrev pub invariant-loop-calls : goal.invariant-loop-calls
invariant-loop-calls l = record {
  written : l.files ++ session_files l.version l.calls-index (lists_of (drop l.calls-index l.sessions)) ≡ session_files l.version 0 (lists_of l.sessions);
  session_is : l.session ≡ l.calls-index;
  rest : AreSessionsFrom l.calls-index (lists_of (drop l.calls-index l.sessions));
  spelled : AllByRecursion (AreSpelled l.version) (lists_of (drop l.calls-index l.sessions));
}
