use Rattle.std.proofs.Common.{◌≡◌, length}
use Rattle.std.specs.List.{AllByRecursion}
use Rattle.replay_page.specs.Captured.{AreSpelled}
use Rattle.captured_calls.specs.Sessions.{AreSessionsFrom}
use Rattle.prepare_plan.specs.Lists.{lists_of}
use Rattle.replay_cli.specs.Decision.{SessionOf}
use Rattle.replay_cli.proofs.StepLaws.{ReadSoFar}
use Rattle.replay_cli.proofs.reading.read_sessions.Given as goal

abbrev pub invariant-loop-name : goal.invariant-loop-name
invariant-loop-name g l = record {
  read : ReadSoFar (SessionOf l.version) l.names l.fn.room l.left l.name-index (lists_of l.sessions) (g.F.Files.account l.fn.files).content (g.F.Files.account l.files).content (g.F.Files.account l.fn.files).faults (g.F.Files.account l.files).faults;
  session_is : l.session ≡ l.name-index;
  count : length l.sessions ≡ l.name-index;
  lists : AreSessionsFrom 0 (lists_of l.sessions);
  spelled : AllByRecursion (AreSpelled l.version) (lists_of l.sessions);
}
