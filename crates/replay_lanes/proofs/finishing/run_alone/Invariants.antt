use Rattle.std.proofs.Common.{◌≡◌, false, length}
use Rattle.replay_lanes.proofs.Counting.{HasAnswered}
use Rattle.replay_lanes.specs.Finishing.{GoesOn, StartsArePicks}
use Rattle.replay_lanes.proofs.finishing.run_alone.Given as goal

abbrev pub invariant-loop-turn : goal.invariant-loop-turn
invariant-loop-turn g l = record {
  job_is : g.A.Course.job l.desk ≡ g.A.Course.job l.fn.desk;
  going : g.A.Course.stopped l.desk ≡ false;
  goes_on : GoesOn (g.A.Course.history l.fn.desk) (g.A.Course.history l.desk);
  picks : StartsArePicks (g.A.Course.job l.fn.desk) l.lane (g.A.Course.history l.fn.desk) (g.A.Course.history l.desk);
  far : HasAnswered (length (g.A.Course.job l.fn.desk).calls) l._turn (g.A.Course.history l.desk);
}
