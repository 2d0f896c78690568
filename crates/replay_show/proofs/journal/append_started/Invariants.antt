use Rattle.std.proofs.Common.{◌≡◌, None, drop}
use Rattle.replay_show.specs.Lines.{started_from}
use Rattle.replay_show.proofs.journal.append_started.Given as goal

abbrev pub invariant-loop-n : goal.invariant-loop-n
invariant-loop-n l = record {
  left : started_from l.stamp l.n l.last (drop l.n l.history) ≡ started_from l.stamp 0 None l.history;
  nothing : l.to ≡ l.fn.to;
}
