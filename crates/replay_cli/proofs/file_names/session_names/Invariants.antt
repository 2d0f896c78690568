use Rattle.std.proofs.Common.{◌≡◌}
use Rattle.replay_cli.specs.FileNames.{session_names}
use Rattle.replay_cli.proofs.file_names.session_names.Given as goal

abbrev pub invariant-loop-session : goal.invariant-loop-session
invariant-loop-session l = l.names ≡ session_names l.folder l.session
