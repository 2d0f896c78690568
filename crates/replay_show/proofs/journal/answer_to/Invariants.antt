use Rattle.std.proofs.Common.{◌≡◌, drop}
use Rattle.replay_show.specs.Lines.{answer_from}
use Rattle.replay_show.proofs.journal.answer_to.Given as goal

abbrev pub invariant-loop-n : goal.invariant-loop-n
invariant-loop-n l = answer_from l.stamp l.n (drop l.n l.history) ≡ answer_from l.stamp 0 l.history
